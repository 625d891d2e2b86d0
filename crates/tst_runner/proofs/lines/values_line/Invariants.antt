use Rattle.std.proofs.Common.{◌≡◌, ℕ, Bool, List, take}
use Rattle.gate_sim.specs.Calls.{Call}
use Rattle.script_device.specs.Devices.{Device, SeesAll}
use Rattle.script_device.specs.Running.{Stands}
use Rattle.tst_runner.proofs.Lined.{line_of}
use Rattle.tst_runner.proofs.lines.values_line.Given as goal

abbrev pub invariant-loop-column : goal.invariant-loop-column
invariant-loop-column l = (d : Device) (told : List Call) (v : ℕ → ℕ → Bool) → Stands l.device d → SeesAll d told v → l.line.items ≡ line_of d told v (take l.column-index l.columns)
