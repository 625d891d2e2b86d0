use Rattle.command_line.specs.Line.{rows_in}
use Rattle.command_line.proofs.Lines.{no_debug}
use Rattle.command_line.proofs.reader.debug.Goals as goal

pub returns-in_default : goal.returns-in_default
returns-in_default c = no_debug (rows_in c.args.matches.now) (λ sub k _ _ h. c.in_default.ensures sub k h.0)

pub returns-in_default-number_in : goal.returns-in_default-number_in
returns-in_default-number_in c = no_debug (rows_in c.args.matches.now) (λ _ _ n _ h. c.in_default-number_in.ensures n h.1)
