use Rattle.std.proofs.Common.{◌≡◌, [], ◌++◌}
use Rattle.hdl_tree.specs.declared.library.Entry.{Entry}
use Rattle.name_table.specs.Tables.{Finds}
use Rattle.hdl_check.specs.Faults.{ports_of}
use Rattle.hdl_loops.specs.Inner.Ties.{ties_of, ties_in, gather_first}
use Rattle.hdl_loops.proofs.joint.joints_of.Given as goal

abbrev pub invariant-loop-connection : goal.invariant-loop-connection
invariant-loop-connection l = (inner : Entry) → Finds l.pins (ports_of inner.chip) → ties_of l.joints.items ≡ [] ++ gather_first (ties_in inner) l.connection-index l.part.connections
