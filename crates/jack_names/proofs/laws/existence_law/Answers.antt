use Rattle.jack_names.proofs.Planted.{file_tree}
use Rattle.jack_names.proofs.Programmed.{core_made}
use Rattle.jack_names.proofs.laws.existence_law.Goals as goal

pub returns : goal.returns
returns c = record { tree = file_tree; core = core_made }
