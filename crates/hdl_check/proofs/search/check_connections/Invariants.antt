use Rattle.std.proofs.Common.{◌≡◌, ℕ, ◌<◌, take, None}
use Rattle.hdl_check.specs.Inner.Marked.{HasMarks, MarksMore}
use Rattle.hdl_check.specs.Faults.{ports_of, bits_fed, bits_driven, drivers_by, connection_fault_in}
use Rattle.hdl_check.specs.Inner.Progress.{chips_of}
use Rattle.hdl_check.proofs.search.check_connections.Given as goal

abbrev pub invariant-loop-connection : goal.invariant-loop-connection
invariant-loop-connection l = record {
  fed : HasMarks l.fed (bits_fed (ports_of l.inner.chip) (take l.connection-index l.connections));
  driven : MarksMore l.fn.driven l.driven (bits_driven (drivers_by (ports_of l.inner.chip) (take l.connection-index l.connections)));
  clear : (j : ℕ) → j < l.connection-index → connection_fault_in (chips_of l.catalog) l.entry l.i (ports_of l.inner.chip) l.connections j ≡ None;
}
