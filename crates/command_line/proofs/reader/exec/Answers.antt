use Rattle.command_line.specs.Line.{rows_in}
use Rattle.command_line.proofs.Lines.{no_exec}
use Rattle.command_line.proofs.reader.exec.Goals as goal

pub returns-in_default : goal.returns-in_default
returns-in_default c = no_exec (rows_in c.args.matches.now) (λ n _ _ h. c.in_default.ensures n h.0)

pub returns-in_default-number_in : goal.returns-in_default-number_in
returns-in_default-number_in c = no_exec (rows_in c.args.matches.now) (λ _ n _ h. c.in_default-number_in.ensures n h.1)

pub returns-in_default-number_in-2 : goal.returns-in_default-number_in-2
returns-in_default-number_in-2 c = no_exec (rows_in c.args.matches.now) (λ _ _ n h. c.in_default-number_in-2.ensures n h.2)
