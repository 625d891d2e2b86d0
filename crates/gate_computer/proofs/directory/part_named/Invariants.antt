use Rattle.std.proofs.Common.{◌≡◌, drop}
use Rattle.gate_computer.specs.Inner.Directory.{first_named}
use Rattle.gate_computer.proofs.directory.part_named.Given as goal

abbrev pub invariant-loop-part : goal.invariant-loop-part
invariant-loop-part l = first_named l.chip (drop l.part-index l.parts) ≡ first_named l.chip l.parts
