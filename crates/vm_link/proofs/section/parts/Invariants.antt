use Rattle.std.proofs.Common.{◌≡◌, ◌+◌, ◌++◌, drop, length}
use Rattle.vm_link.specs.Sections.{sections, sections_from}
use Rattle.vm_link.specs.Inner.Maps.{all_seen}
use Rattle.vm_link.proofs.section.parts.Given as goal

abbrev pub invariant-loop-file : goal.invariant-loop-file
invariant-loop-file l = all_seen l.parts.items ++ sections_from l.bare l.file (length l.parts.items + 1) (drop l.file l.files) ≡ sections l.bare l.files
