use Rattle.std.proofs.Common.{◌≡◌, ◌++◌, take}
use Rattle.std.specs.List.{flat_map}
use Rattle.script_device.proofs.naming.push_pins.Given as goal

abbrev pub invariant-loop-pin : goal.invariant-loop-pin
invariant-loop-pin l = l.nodes.items ≡ l.fn.nodes.items ++ flat_map (λ pin. pin.nodes) (take l.pin-index l.pins)
