use Rattle.std.proofs.Common.{◌≡◌, ℕ, ◌++◌, List, length}
use Rattle.name_table.specs.Names.{find_value}
use Rattle.name_table.specs.Tables.{table_of, Finds}
use Rattle.hdl_check.specs.declared.check.Port.{Port}
use Rattle.hdl_check.specs.Faults.{widths_of, drivers_by}
use Rattle.hdl_check.proofs.catalog.enter_nets.Given as goal

abbrev pub invariant-loop-connection : goal.invariant-loop-connection
invariant-loop-connection l = (inner : List (List ℕ × Port)) (x : List ℕ) → Finds l.ports inner → find_value x (table_of l.nets ++ widths_of (drivers_by inner l.rest)) ≡ find_value x (table_of l.fn.nets ++ widths_of (drivers_by inner l.connections))

abbrev pub decreases-loop-connection : goal.decreases-loop-connection
decreases-loop-connection l = length l.rest
