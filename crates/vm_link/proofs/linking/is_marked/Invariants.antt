use Rattle.std.proofs.Common.{◌≡◌, drop}
use Rattle.vm_link.specs.Inner.Maps.{all_seen}
use Rattle.vm_link.specs.Resolved.{is_marked}
use Rattle.vm_link.proofs.linking.is_marked.Given as goal

abbrev pub invariant-loop-part : goal.invariant-loop-part
invariant-loop-part l = is_marked (all_seen (drop l.part-index l.kept)) ≡ is_marked (all_seen l.kept)
