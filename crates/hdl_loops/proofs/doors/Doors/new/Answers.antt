use Rattle.hdl_loops.proofs.Dooring.{no_doors}
use Rattle.hdl_loops.proofs.doors.Doors.new.Goals as goal

pub returns : goal.returns
returns c = λ graph. no_doors graph _ c.new.ensures c.new-2.ensures.items
