use Rattle.std.proofs.Common.{take}
use Rattle.hdl_check.specs.Inner.Progress.{ArePorts}
use Rattle.hdl_check.proofs.catalog.port_tables.Given as goal

abbrev pub invariant-loop-entry : goal.invariant-loop-entry
invariant-loop-entry l = ArePorts (take l.entry-index l.entries) l.ports.items
