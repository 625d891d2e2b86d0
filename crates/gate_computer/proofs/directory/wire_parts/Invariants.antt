use Rattle.std.proofs.Common.{◌≡◌, map, take}
use Rattle.gate_computer.specs.Inner.Directory.{wired_part}
use Rattle.gate_computer.proofs.directory.wire_parts.Given as goal

abbrev pub invariant-loop-part : goal.invariant-loop-part
invariant-loop-part l = l.wired.items ≡ map (wired_part l.library.entries) (take l.part-index l.parts)
