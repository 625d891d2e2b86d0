use Rattle.std.proofs.Common.{◌≡◌, ◌⊎◌, ℕ, true, drop}
use Rattle.vm_link.specs.Inner.Marks.{AreCalling, Marks, is_marked}
use Rattle.vm_link.proofs.reach.visit.Given as goal

abbrev pub invariant-loop-line : goal.invariant-loop-line
invariant-loop-line l = Marks (AreCalling l.numbers l.lines) l.fn.marks.items l.marks.items l.fn.pending.items l.pending.items
    × ((i : ℕ) → AreCalling l.numbers l.lines i → (is_marked l.marks.items i ≡ true) ⊎ AreCalling l.numbers (drop l.line-index l.lines) i)
    × ((i : ℕ) → AreCalling l.numbers (drop l.line-index l.lines) i → AreCalling l.numbers l.lines i)
