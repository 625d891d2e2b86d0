use Rattle.std.proofs.Common.{◌∙◌}
use Rattle.vm_translator.proofs.EndLemmas.{starts_name}
use Rattle.vm_translator.proofs.ends.names_end.Goals as goal

pub returns-then-starts : goal.returns-then-starts
returns-then-starts c =
    c.if-starts.true ∙ starts_name c.args.linked.now c.filled-filled.result c.start_names_end-starts.result (rw c.as_slice-functions.ensures at c.filled-filled.ensures)
    c.start_names_end-starts.ensures c.if-starts.true
