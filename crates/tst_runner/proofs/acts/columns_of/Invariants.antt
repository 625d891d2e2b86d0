use Rattle.std.proofs.Common.{take}
use Rattle.script_device.specs.Devices.{Device}
use Rattle.script_device.specs.Running.{Stands}
use Rattle.tst_runner.specs.Inner.Columns.{AreColumns}
use Rattle.tst_runner.proofs.acts.columns_of.Given as goal

abbrev pub invariant-loop-item : goal.invariant-loop-item
invariant-loop-item l = (d : Device) → Stands l.device d → AreColumns d (take l.item-index l.items) l.columns.items
