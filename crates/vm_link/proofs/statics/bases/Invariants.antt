use Rattle.std.proofs.Common.{◌≡◌, ◌-◌, ◌^◌, List, min, length}
use Rattle.vm_link.specs.Sections.{Section}
use Rattle.vm_link.specs.Faults.{words_before}
use Rattle.vm_link.specs.Inner.Words.{AreWords, AreBases}
use Rattle.vm_link.proofs.statics.bases.Given as goal

abbrev pub invariant-loop-more : goal.invariant-loop-more
invariant-loop-more l = (kept : List Section) → AreWords kept (length l.words) l.words
    → (l.before ≡ min (words_before kept l.more-index) (2 ^ 64 - 1)) × AreBases kept l.more-index l.bases.items
