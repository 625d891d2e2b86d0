use Rattle.vm_parser.proofs.Printed.{printed_spells}
use Rattle.vm_parser.proofs.laws.printed_law.Goals as goal

pub returns : goal.returns
returns c = λ bare f h small. printed_spells bare f h small
