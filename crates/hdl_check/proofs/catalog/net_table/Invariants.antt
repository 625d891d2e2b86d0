use Rattle.std.proofs.Common.{◌≡◌, ℕ, ◌++◌, List, length}
use Rattle.name_table.specs.Names.{find_value}
use Rattle.name_table.specs.Tables.{table_of}
use Rattle.hdl_check.specs.Faults.{widths_of, drivers_of}
use Rattle.hdl_check.specs.Inner.Progress.{chips_of}
use Rattle.hdl_check.proofs.catalog.net_table.Given as goal

abbrev pub invariant-loop-part : goal.invariant-loop-part
invariant-loop-part l = (x : List ℕ) → find_value x (table_of l.nets ++ widths_of (drivers_of (chips_of l.catalog) l.rest)) ≡ find_value x (widths_of (drivers_of (chips_of l.catalog) l.parts))

abbrev pub decreases-loop-part : goal.decreases-loop-part
decreases-loop-part l = length l.rest
