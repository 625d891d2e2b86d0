use Rattle.std.proofs.Common.{◌≡◌, take}
use Rattle.chip_basic.proofs.hdl.pins_of.Given as goal

abbrev pub invariant-loop-port : goal.invariant-loop-port
invariant-loop-port l = l.pins.items ≡ take l.port-index l.ports
