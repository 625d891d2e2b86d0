-- What is reported is the first fault.
use Rattle.std.proofs.Common.{map, List, Result, Ok, Err, sym, ◌∙◌}
use Rattle.jack_core.specs.declared.program.Core.{Core}
use Rattle.jack_tree.specs.declared.tree.Class.{Class}
use Rattle.jack_tree.specs.Seen.{the_file}
use Rattle.jack_names.specs.Faults.{diagnostic_of}
use Rattle.jack_names.specs.Inner.Whole.{first_name_fault}
use Rattle.jack_names.specs.Resolved.{Resolves, Tells}
use Rattle.jack_names.specs.declared.fault.NameError.{NameError}
use Rattle.jack_names.specs.declared.fault.NameError.TheVariants as errors
use Rattle.jack_names.proofs.Found.{finds_first, finds_none}
use Rattle.jack_names.proofs.Wholly.{search_same}
use Rattle.jack_names.proofs.MeantWholly.{program_same}
use Rattle.jack_core.specs.Texts.{the_program}
use Rattle.jack_names.specs.Inner.Whole.{program_meant}
use Rattle.jack_names.specs.Meaning.{program_meaning}
use Rattle.std.proofs.Common.{◌≡◌, IfOk}

pub tells : (own os : List Class) (r : Result Core NameError) → Resolves (first_name_fault own os) r → Tells (map the_file own) (map the_file os) r
tells own os (Ok core) h = (finds_none (map the_file own) (map the_file os)).0 (sym (search_same own os) ∙ h)
tells own os (Err errors.Memory) h = tt
tells own os (Err (errors.Fault f)) h = (finds_first (map the_file own) (map the_file os) (diagnostic_of f)).0 (sym (search_same own os) ∙ h)

pub means : (own os : List Class) (r : Result Core NameError) → IfOk r (λ core. the_program core ≡ program_meant own os) → IfOk r (λ core. the_program core ≡ program_meaning (map the_file own) (map the_file os))
means own os (Ok core) h = h ∙ program_same own os
means own os (Err e) h = h
