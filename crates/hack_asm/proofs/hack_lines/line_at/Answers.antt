use Rattle.std.proofs.Common.{sym, ◌∙◌, refl}
use Rattle.std.proofs.lemmas.Result.{err_from_is_err_and}
use Rattle.grammar.specs.Rules.{both, left}
use Rattle.grammar.proofs.Exits.{halt_first, halt_second, halt_left}
use Rattle.grammar.proofs.Entered.{skip, halt_skip}
use Rattle.hack_asm.proofs.hack_lines.line_at.Goals as goal

pub returns-in_err-rest-clause-reads : goal.returns-in_err-rest-clause-reads
returns-in_err-rest-clause-reads c =
    let p = err_from_is_err_and c.from_residual.result c.from_residual.ensures.1 in
    rw (p.1, p.2) (halt_left (sym c.ends.ensures ∙ c.if-ends.true) c.in_err-rest.ensures)

pub returns-then-ends-clause-reads : goal.returns-then-ends-clause-reads
returns-then-ends-clause-reads c =
    left (sym c.ends.ensures ∙ c.if-ends.true) c.in_ok-rest.ensures

pub returns-in_err-word-clause-reads : goal.returns-in_err-word-clause-reads
returns-in_err-word-clause-reads c =
    let p = err_from_is_err_and c.from_residual-in_err-word.result c.from_residual-in_err-word.ensures.1 in
    rw (p.1, p.2) (halt_skip (sym c.ends.ensures ∙ c.if-ends.false) refl (halt_first c.in_err-word.ensures.reads))

pub returns-in_err-rest-2-clause-reads : goal.returns-in_err-rest-2-clause-reads
returns-in_err-rest-2-clause-reads c =
    let p = err_from_is_err_and c.from_residual-in_err-rest-2.result c.from_residual-in_err-rest-2.ensures.1 in
    rw (p.1, p.2) (halt_skip (sym c.ends.ensures ∙ c.if-ends.false) refl (halt_second c.in_ok-word.ensures.reads c.in_err-rest-2.ensures))

pub returns-clause-reads : goal.returns-clause-reads
returns-clause-reads c =
    skip (sym c.ends.ensures ∙ c.if-ends.false) refl (both c.in_ok-word.ensures.reads c.in_ok-rest-2.ensures)
