use Rattle.std.proofs.Common.{◌≡◌, ℕ, false, length}
use Rattle.vm_link.specs.Inner.Marks.{is_marked}
use Rattle.vm_link.proofs.reach.no_marks.Given as goal

abbrev pub invariant-loop-part : goal.invariant-loop-part
invariant-loop-part l = (length l.marks.items ≡ l._part-index) × ((i : ℕ) → is_marked l.marks.items i ≡ false)
