use Rattle.std.proofs.Common.{◌≡◌, drop}
use Rattle.vm_link.specs.Sections.{target}
use Rattle.vm_link.specs.Faults.{first_of, lacking}
use Rattle.vm_link.specs.Inner.Maps.{has_number}
use Rattle.vm_link.proofs.text_faults.target_lacking.Given as goal

abbrev pub invariant-loop-line : goal.invariant-loop-line
invariant-loop-line l = first_of (λ x. lacking (has_number l.places) (target x.command)) (drop l.line-index l.lines)
    ≡ first_of (λ x. lacking (has_number l.places) (target x.command)) l.lines
