use Rattle.std.proofs.Common.{◌≡◌, ℕ, ◌++◌, List, length}
use Rattle.name_table.specs.Names.{find_value}
use Rattle.name_table.specs.Tables.{table_of}
use Rattle.hdl_check.specs.Faults.{ports_in}
use Rattle.hdl_check.proofs.catalog.enter_ports.Given as goal

abbrev pub invariant-loop-pin : goal.invariant-loop-pin
invariant-loop-pin l = (x : List ℕ) → find_value x (table_of l.table ++ ports_in l.input l.rest) ≡ find_value x (table_of l.fn.table ++ ports_in l.input l.pins)

abbrev pub decreases-loop-pin : goal.decreases-loop-pin
decreases-loop-pin l = length l.rest
