use Rattle.std.proofs.Common.{◌≡◌, ◌++◌, drop}
use Rattle.vm_link.specs.Sections.{labels}
use Rattle.vm_link.specs.Inner.Maps.{texts}
use Rattle.vm_link.proofs.section.labels.Given as goal

abbrev pub invariant-loop-line : goal.invariant-loop-line
invariant-loop-line l = texts l.labels.items ++ labels (drop l.line-index l.lines) ≡ labels l.lines
