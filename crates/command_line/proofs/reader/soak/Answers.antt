use Rattle.command_line.specs.Line.{rows_in}
use Rattle.command_line.proofs.Lines.{no_soak}
use Rattle.command_line.proofs.reader.soak.Goals as goal

pub returns-in_default : goal.returns-in_default
returns-in_default c = no_soak (rows_in c.args.matches.now) (λ seed _ h. c.in_default.ensures seed h.0)

pub returns-in_default-number_in : goal.returns-in_default-number_in
returns-in_default-number_in c = no_soak (rows_in c.args.matches.now) (λ _ count h. c.in_default-number_in.ensures count h.1)
