use Rattle.hdl_parser.proofs.Apart.{apart}
use Rattle.hdl_parser.proofs.Readable.{spelled_of}
use Rattle.hdl_parser.proofs.laws.trees_law.Goals as goal

pub returns : goal.returns
returns c = record { apart = apart; of_chips = λ text t s. let d = spelled_of text t s in (d.0, d.1) }
