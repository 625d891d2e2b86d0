use Rattle.std.proofs.Common.{◌≡◌, map, take}
use Rattle.hdl_elab.specs.Moved.{moved_pin}
use Rattle.hdl_elab.proofs.moving.moved_pins.Given as goal

abbrev pub invariant-loop-pin : goal.invariant-loop-pin
invariant-loop-pin l = l.moved.items ≡ map (moved_pin l.places) (take l.pin-index l.pins)
