use Rattle.hdl_nodes.proofs.Numbered.{behaviour}
use Rattle.hdl_nodes.proofs.laws.numbering_law.Goals as goal

pub returns : goal.returns
returns c world net inputs n v low high chips top block at numbering hears are = behaviour world net inputs n v low high chips top block at numbering hears are
