use Rattle.std.proofs.Common.{◌+◌, ◌*◌, length}
use Rattle.vm_link.specs.Inner.Marks.{unmarked_count}
use Rattle.vm_link.specs.Inner.Maps.{all_seen}
use Rattle.vm_link.proofs.Marking.{Looks}
use Rattle.vm_link.proofs.reach.reached.Given as goal

abbrev pub invariant-waiting : goal.invariant-waiting
invariant-waiting l = Looks (all_seen l.parts) l.numbers l.marks.items l.pending.items

abbrev pub decreases-waiting : goal.decreases-waiting
decreases-waiting l = 2 * unmarked_count l.marks.items + length l.pending.items
