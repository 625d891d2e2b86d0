use Rattle.std.proofs.Common.{◌≡◌, ◌-◌, ◌^◌, List, min, length}
use Rattle.vm_link.specs.Sections.{Section}
use Rattle.vm_link.specs.Faults.{words_before}
use Rattle.vm_link.specs.Inner.Words.{AreWords}
use Rattle.vm_link.proofs.statics.all_words.Given as goal

abbrev pub invariant-loop-more : goal.invariant-loop-more
invariant-loop-more l = (kept : List Section) → AreWords kept (length l.words) l.words → l.all ≡ min (words_before kept l.more-index) (2 ^ 64 - 1)
