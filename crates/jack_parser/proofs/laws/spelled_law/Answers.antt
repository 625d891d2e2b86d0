use Rattle.jack_parser.proofs.Found.{found}
use Rattle.jack_parser.proofs.Spelt.{read_so}
use Rattle.jack_parser.proofs.laws.spelled_law.Goals as goal

pub returns : goal.returns
returns c text k = (found text k, read_so text k)
