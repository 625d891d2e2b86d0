use Rattle.std.proofs.Common.{◌≡◌, ◌++◌, drop}
use Rattle.vm_link.specs.Faults.{names}
use Rattle.vm_link.specs.Inner.Maps.{texts, all_seen}
use Rattle.vm_link.proofs.section.names.Given as goal

abbrev pub invariant-loop-part : goal.invariant-loop-part
invariant-loop-part l = texts l.names.items ++ names (all_seen (drop l.part-index l.parts)) ≡ names (all_seen l.parts)
