use Rattle.std.proofs.Common.{◌∙◌, ap, is_some}
use Rattle.vm_link.specs.Sections.{target, labels, stands_in}
use Rattle.vm_link.specs.Inner.Maps.{has_number, seen_section}
use Rattle.vm_link.specs.Resolved.{first_place}
use Rattle.vm_link.proofs.Notes.{first_lacking, place_there}
use Rattle.vm_link.proofs.text_faults.label_missing.Goals as goal

pub returns : goal.returns
returns c = c.target_lacking.ensures
    ∙ first_lacking (λ x. target x.command) (has_number c.in_ok-places.places) (stands_in (labels c.args.part.now.lines.now)) c.args.part.now.lines.now
    (λ n. ap is_some (c.in_ok-places.ensures n) ∙ place_there n (first_place (seen_section c.args.part.now)) c.args.part.now.lines.now)
