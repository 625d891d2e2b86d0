use Rattle.std.proofs.Common.{◌≡◌, ◌++◌, drop}
use Rattle.vm_link.specs.Inner.Marks.{selected_sections}
use Rattle.vm_link.specs.Inner.Maps.{all_seen}
use Rattle.vm_link.proofs.keep.select.Given as goal

abbrev pub invariant-loop-place : goal.invariant-loop-place
invariant-loop-place l = all_seen l.kept.items ++ selected_sections (drop l.place l.marks) (all_seen (drop l.place l.parts)) ≡ selected_sections l.marks (all_seen l.parts)
