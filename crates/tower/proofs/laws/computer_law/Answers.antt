use Rattle.tower.proofs.Computers.{computer}
use Rattle.tower.proofs.laws.computer_law.Goals as goal

pub returns : goal.returns
returns c = computer
