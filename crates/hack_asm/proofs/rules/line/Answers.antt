use Rattle.std.proofs.Common.{sym, ◌∙◌, refl}
use Rattle.std.proofs.lemmas.Result.{err_from_is_err_and}
use Rattle.grammar.specs.Rules.{both, left}
use Rattle.grammar.proofs.Exits.{halt_first, halt_second, halt_left}
use Rattle.grammar.proofs.Entered.{skip, halt_skip}
use Rattle.hack_asm.proofs.rules.line.Goals as goal

pub returns-in_err-rest : goal.returns-in_err-rest
returns-in_err-rest c =
    let p = err_from_is_err_and c.from_residual.result c.from_residual.ensures.1 in
    rw (p.1, p.2) (halt_left (sym c.ends.ensures ∙ c.if-ends.true) c.in_err-rest.ensures)

pub returns-then-ends : goal.returns-then-ends
returns-then-ends c =
    left (sym c.ends.ensures ∙ c.if-ends.true) c.in_ok-rest.ensures

pub returns-in_err-item : goal.returns-in_err-item
returns-in_err-item c =
    let p = err_from_is_err_and c.from_residual-in_err-item.result c.from_residual-in_err-item.ensures.1 in
    rw (p.1, p.2) (halt_skip (sym c.ends.ensures ∙ c.if-ends.false) refl (halt_first c.in_err-item.ensures))

pub returns-in_err-rest-2 : goal.returns-in_err-rest-2
returns-in_err-rest-2 c =
    let p = err_from_is_err_and c.from_residual-in_err-rest-2.result c.from_residual-in_err-rest-2.ensures.1 in
    rw (p.1, p.2) (halt_skip (sym c.ends.ensures ∙ c.if-ends.false) refl (halt_second c.in_ok-item.ensures c.in_err-rest-2.ensures))

pub returns : goal.returns
returns c =
    skip (sym c.ends.ensures ∙ c.if-ends.false) refl (both c.in_ok-item.ensures c.in_ok-rest-2.ensures)
