use Rattle.std.proofs.Common.{◌≡◌, ◌≤◌, take}
use Rattle.std.specs.Str.Parse.{AllDigits, digits_value}
use Rattle.command_line.proofs.number.number.Given as goal

abbrev pub invariant-loop-byte : goal.invariant-loop-byte
invariant-loop-byte l = AllDigits 10 (take l.byte-index l.text) × (digits_value 10 (take l.byte-index l.text) ≡ l.value) × (l.value ≤ l.most)
