use Rattle.std.proofs.Common.{◌≡◌, ℕ, false, length}
use Rattle.vm_link.specs.Inner.Marks.{is_marked}
use Rattle.jack_compiler.proofs.reached.no_marks.Given as goal

abbrev pub invariant-loop-subroutine : goal.invariant-loop-subroutine
invariant-loop-subroutine l = (length l.marks.items ≡ l._subroutine-index) × ((i : ℕ) → is_marked l.marks.items i ≡ false)
