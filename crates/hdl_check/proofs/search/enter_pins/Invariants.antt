use Rattle.std.proofs.Common.{◌≡◌, ℕ, ◌<◌, ◌++◌, map, take, None}
use Rattle.name_table.specs.Names.{names_in}
use Rattle.name_table.specs.Tables.{table_of}
use Rattle.hdl_check.specs.Faults.{pin_name}
use Rattle.hdl_check.specs.Inner.Progress.{pin_fault_in}
use Rattle.hdl_check.proofs.search.enter_pins.Given as goal

abbrev pub invariant-loop-pin : goal.invariant-loop-pin
invariant-loop-pin l = record {
  seen : names_in (table_of l.seen) ≡ map pin_name (l.front ++ take l.pin-index l.pins);
  clear : (k : ℕ) → k < l.pin-index → pin_fault_in l.entry l.front l.pins k ≡ None;
}
