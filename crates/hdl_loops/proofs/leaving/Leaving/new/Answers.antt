use Rattle.hdl_loops.proofs.Linking.{linked_none}
use Rattle.hdl_loops.proofs.leaving.Leaving.new.Goals as goal

pub returns : goal.returns
returns c = linked_none _ c.new.ensures.empty c.new-2.ensures.items
