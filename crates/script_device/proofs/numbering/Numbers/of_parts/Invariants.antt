use Rattle.std.proofs.Common.{take}
use Rattle.script_device.specs.Inner.Numbers.{AreNumbers, part_names}
use Rattle.script_device.proofs.numbering.Numbers.of_parts.Given as goal

abbrev pub invariant-loop-place : goal.invariant-loop-place
invariant-loop-place l = AreNumbers l.numbers (part_names (take l.place l.parts))
