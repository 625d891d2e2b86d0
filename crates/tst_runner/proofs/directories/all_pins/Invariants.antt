use Rattle.std.proofs.Common.{◌≡◌, map, take}
use Rattle.tst_runner.specs.Directories.{pin_nodes}
use Rattle.tst_runner.proofs.directories.all_pins.Given as goal

abbrev pub invariant-loop-pin : goal.invariant-loop-pin
invariant-loop-pin l = l.named.items ≡ map pin_nodes (take l.pin-index l.pins)
