use Rattle.std.proofs.Common.{◌≡◌, ◌<◌, ℕ, length, slice_index}
use Rattle.vm_link.proofs.statics.no_words.Given as goal

abbrev pub invariant-loop : goal.invariant-loop
invariant-loop l = (length l.words.items ≡ l.counter) × ((k : ℕ) → k < l.counter → slice_index l.words.items k ≡ 0)
