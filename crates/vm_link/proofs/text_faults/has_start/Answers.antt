use Rattle.std.proofs.Common.{◌∙◌, ap, is_some}
use Rattle.vm_link.specs.Sections.{is_named}
use Rattle.vm_link.specs.Faults.{sys_init}
use Rattle.vm_link.proofs.Notes.{position_there}
use Rattle.vm_link.proofs.text_faults.has_start.Goals as goal

pub returns : goal.returns
returns c = λ ss h. c.contains_key.ensures ∙ ap is_some (h sys_init) ∙ position_there (is_named sys_init) 0 ss
