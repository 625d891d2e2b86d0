use Rattle.std.proofs.Common.{◌≡◌, min, take}
use Rattle.script_device.specs.Variables.{number_after}
use Rattle.script_device.proofs.brackets.capped_number.Given as goal

abbrev pub invariant-loop-digit : goal.invariant-loop-digit
invariant-loop-digit l = l.number ≡ min (number_after 0 (take l.digit-index l.digits)) 4294967296
