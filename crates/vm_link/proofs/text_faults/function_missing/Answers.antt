use Rattle.std.proofs.Common.{◌∙◌, ap, is_some}
use Rattle.std.specs.List.{list_any}
use Rattle.vm_link.specs.Sections.{called_name, is_named}
use Rattle.vm_link.specs.Inner.Maps.{has_number}
use Rattle.vm_link.proofs.Notes.{first_lacking, position_there}
use Rattle.vm_link.proofs.text_faults.function_missing.Goals as goal

pub returns : goal.returns
returns c = λ ss h. c.call_lacking.ensures
    ∙ first_lacking (λ x. called_name x.command) (has_number c.args.numbers.now) (λ f. list_any (is_named f) ss) c.args.part.now.lines.now
    (λ n. ap is_some (h n) ∙ position_there (is_named n) 0 ss)
