use Rattle.std.proofs.lemmas.Result.{err_from_is_err_and}
use Rattle.grammar.specs.Rules.{both, first, second}
use Rattle.grammar.proofs.Steps.{halt}
use Rattle.hack_asm.proofs.hack_lines.all_lines.Goals as goal

pub returns-in_err-lines-clause-reads : goal.returns-in_err-lines-clause-reads
returns-in_err-lines-clause-reads c =
    let p = err_from_is_err_and c.from_residual.result c.from_residual.ensures.1 in
    rw (p.1, p.2) (halt (λ f h. first h) c.in_err-lines.ensures.reads)

pub returns-in_err-finish-clause-reads : goal.returns-in_err-finish-clause-reads
returns-in_err-finish-clause-reads c =
    let p = err_from_is_err_and c.from_residual-in_err-finish.result c.from_residual-in_err-finish.ensures.1 in
    rw (p.1, p.2) (halt (λ f h. second c.in_ok-lines.ensures.reads h) c.in_err-finish.ensures)

pub returns-clause-reads : goal.returns-clause-reads
returns-clause-reads c = both c.in_ok-lines.ensures.reads c.in_ok-finish.ensures
