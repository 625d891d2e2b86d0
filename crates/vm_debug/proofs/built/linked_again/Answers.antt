use Rattle.std.proofs.Common.{false}
use Rattle.jack_compiler.specs.Files.{files_of}
use Rattle.vm_debug.proofs.Few.{few_statics, no_fault}
use Rattle.vm_debug.proofs.built.linked_again.Goals as goal

pub unreachable-requires : goal.unreachable-requires
unreachable-requires c =
    no_fault false (files_of c.args.core.now) c.requires.linked.0 _ c.requires.linked.1 c.in-Err-TooManyStatics.ensures.links (λ e. let no : ⊥ = cc in no)

pub returns-in-Ok-clause-few : goal.returns-in-Ok-clause-few
returns-in-Ok-clause-few c = few_statics false (files_of c.args.core.now) c.in-Ok.linked c.in-Ok.ensures.links
