use Rattle.hdl_nodes.proofs.Renamed.{renamed_numbering}
use Rattle.hdl_nodes.proofs.laws.renaming_law.Goals as goal

pub returns : goal.returns
returns c = renamed_numbering
