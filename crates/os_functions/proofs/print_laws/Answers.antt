use Rattle.os_functions.proofs.PrintMade.{law}
use Rattle.os_functions.proofs.print_laws.Goals as goal

pub returns : goal.returns
returns c = law
