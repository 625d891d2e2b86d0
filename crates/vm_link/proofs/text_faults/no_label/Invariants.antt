use Rattle.std.proofs.Common.{◌≡◌, drop}
use Rattle.vm_link.specs.Faults.{first_of, no_label}
use Rattle.vm_link.specs.Inner.Maps.{all_seen}
use Rattle.vm_link.proofs.text_faults.no_label.Given as goal

abbrev pub invariant-loop-part : goal.invariant-loop-part
invariant-loop-part l = first_of no_label (all_seen (drop l.part-index l.parts)) ≡ first_of no_label (all_seen l.parts)
