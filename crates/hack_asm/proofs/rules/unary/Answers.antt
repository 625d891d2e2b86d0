use Rattle.std.proofs.Common.{sym, ◌∙◌, refl}
use Rattle.std.proofs.lemmas.Result.{err_from_is_err_and}
use Rattle.grammar.specs.Rules.{both, left}
use Rattle.grammar.proofs.Exits.{halt_first, halt_second, halt_left}
use Rattle.grammar.proofs.Entered.{skip, halt_skip}
use Rattle.hack_asm.proofs.rules.unary.Goals as goal

pub returns-in_err-rest : goal.returns-in_err-rest
returns-in_err-rest c =
    let p = err_from_is_err_and c.from_residual.result c.from_residual.ensures.1 in
    rw (p.1, p.2) (halt_left (sym c.stands.ensures ∙ c.if-stands.true) (halt_first c.in_err-rest.ensures))

pub returns-in_err-second : goal.returns-in_err-second
returns-in_err-second c =
    let p = err_from_is_err_and c.from_residual-in_err-second.result c.from_residual-in_err-second.ensures.1 in
    rw (p.1, p.2) (halt_left (sym c.stands.ensures ∙ c.if-stands.true) (halt_second c.in_ok-rest.ensures c.in_err-second.ensures))

pub returns-then-stands : goal.returns-then-stands
returns-then-stands c =
    left (sym c.stands.ensures ∙ c.if-stands.true) (both c.in_ok-rest.ensures c.in_ok-second.ensures)

pub returns-in_err-rest-2 : goal.returns-in_err-rest-2
returns-in_err-rest-2 c =
    let p = err_from_is_err_and c.from_residual-in_err-rest-2.result c.from_residual-in_err-rest-2.ensures.1 in
    rw (p.1, p.2) (halt_skip (sym c.stands.ensures ∙ c.if-stands.false) refl (halt_first c.in_err-rest-2.ensures))

pub returns-in_err-second-2 : goal.returns-in_err-second-2
returns-in_err-second-2 c =
    let p = err_from_is_err_and c.from_residual-in_err-second-2.result c.from_residual-in_err-second-2.ensures.1 in
    rw (p.1, p.2) (halt_skip (sym c.stands.ensures ∙ c.if-stands.false) refl (halt_second c.in_ok-rest-2.ensures c.in_err-second-2.ensures))

pub returns : goal.returns
returns c =
    skip (sym c.stands.ensures ∙ c.if-stands.false) refl (both c.in_ok-rest-2.ensures c.in_ok-second-2.ensures)
