use Rattle.std.proofs.Common.{◌≡◌, ◌<◌, ℕ, drop, max, length, slice_index}
use Rattle.vm_link.specs.Faults.{file_words}
use Rattle.vm_link.specs.Inner.Maps.{all_seen}
use Rattle.vm_link.proofs.statics.file_words.Given as goal

abbrev pub invariant-loop-part : goal.invariant-loop-part
invariant-loop-part l = (length l.words.items ≡ l.fn.files)
    × ((k : ℕ) → k < l.fn.files → max (slice_index l.words.items k) (file_words (all_seen (drop l.part-index l.kept)) k) ≡ file_words (all_seen l.kept) k)
