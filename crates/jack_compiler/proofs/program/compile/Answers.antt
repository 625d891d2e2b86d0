use Rattle.std.proofs.Common.{◌∙◌}
use Rattle.jack_compiler.proofs.Functions.{all_made}
use Rattle.jack_compiler.proofs.program.compile.Goals as goal

pub returns : goal.returns
returns c = c.of.ensures ∙ all_made c.args.core.now c.others.result.now c.in_ok-files.files.items c.others.ensures c.in_ok-files.ensures
