use Rattle.command_line.specs.Line.{rows_in}
use Rattle.command_line.proofs.Lines.{no_run}
use Rattle.command_line.proofs.reader.run.Goals as goal

pub returns-in_default-number_in : goal.returns-in_default-number_in
returns-in_default-number_in c = no_run (rows_in c.args.matches.now) (λ _ n _ h. c.in_default-number_in.ensures n h.1)

pub returns-in_default : goal.returns-in_default
returns-in_default c = no_run (rows_in c.args.matches.now) (λ level _ _ h. c.in_default.ensures level (h.0, h.3, h.4))
