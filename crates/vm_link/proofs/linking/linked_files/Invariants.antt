use Rattle.std.proofs.Common.{◌≡◌, ◌++◌, List, drop, length}
use Rattle.vm_link.specs.Sections.{Section}
use Rattle.vm_link.specs.Resolved.{files_from}
use Rattle.vm_link.specs.Inner.Words.{AreWords}
use Rattle.vm_link.proofs.linking.linked_files.Given as goal

abbrev pub invariant-loop-place : goal.invariant-loop-place
invariant-loop-place l = (kept : List Section) → AreWords kept (length l.words) l.words
    → l.linked.items ++ files_from kept l.place (drop l.place l.files) ≡ files_from kept 0 l.files
