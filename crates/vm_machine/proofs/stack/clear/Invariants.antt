use Rattle.std.proofs.Common.{◌≡◌, ◌+◌, ◌<◌, ℕ, length}
use Rattle.std.specs.Prelude.{slice_index}
use Rattle.vm_machine.proofs.stack.clear.Given as goal

abbrev pub invariant-loop-k : goal.invariant-loop-k
invariant-loop-k l = (length l.words.items ≡ length l.fn.words.items)
    × ((j : ℕ) → j < l.from → slice_index l.words.items j ≡ slice_index l.fn.words.items j)
    × ((j : ℕ) → j < l.k → slice_index l.words.items (l.from + j) ≡ 0)
