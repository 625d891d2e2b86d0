use Rattle.std.proofs.Common.{◌≡◌, drop}
use Rattle.vm_link.specs.Faults.{first_of, label_twice}
use Rattle.vm_link.specs.Inner.Maps.{all_seen}
use Rattle.vm_link.proofs.text_faults.label_twice.Given as goal

abbrev pub invariant-loop-part : goal.invariant-loop-part
invariant-loop-part l = first_of label_twice (all_seen (drop l.part-index l.parts)) ≡ first_of label_twice (all_seen l.parts)
