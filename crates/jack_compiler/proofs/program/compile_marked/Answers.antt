use Rattle.std.proofs.Common.{◌∙◌, Some}
use Rattle.jack_compiler.proofs.Functions.{files_made}
use Rattle.jack_compiler.proofs.program.compile_marked.Goals as goal

pub returns : goal.returns
returns c = c.of.ensures ∙ files_made (Some c.args.marks.now) c.args.core.now c.others.result.now c.in_ok-files.files.items c.others.ensures c.in_ok-files.ensures
