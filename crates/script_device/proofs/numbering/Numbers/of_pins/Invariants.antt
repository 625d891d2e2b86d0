use Rattle.std.proofs.Common.{take}
use Rattle.script_device.specs.Inner.Numbers.{AreNumbers, pin_names}
use Rattle.script_device.proofs.numbering.Numbers.of_pins.Given as goal

abbrev pub invariant-loop-place : goal.invariant-loop-place
invariant-loop-place l = AreNumbers l.numbers (pin_names (take l.place l.pins))
