use Rattle.std.proofs.Common.{sym, ◌∙◌, refl}
use Rattle.std.proofs.lemmas.Result.{err_from_is_err_and}
use Rattle.grammar.specs.Rules.{left}
use Rattle.grammar.proofs.Exits.{halt_left}
use Rattle.grammar.proofs.Entered.{skip, halt_skip}
use Rattle.hack_asm.proofs.rules.item.Goals as goal

pub returns-in_err-symbol : goal.returns-in_err-symbol
returns-in_err-symbol c =
    let p = err_from_is_err_and c.from_residual.result c.from_residual.ensures.1 in
    rw (p.1, p.2) (halt_left (sym c.stands.ensures ∙ c.if-stands.true) c.in_err-symbol.ensures)

pub returns-then-stands : goal.returns-then-stands
returns-then-stands c =
    left (sym c.stands.ensures ∙ c.if-stands.true) c.in_ok-symbol.ensures

pub returns-in_err-address : goal.returns-in_err-address
returns-in_err-address c =
    let p = err_from_is_err_and c.from_residual-in_err-address.result c.from_residual-in_err-address.ensures.1 in
    rw (p.1, p.2) (halt_skip (sym c.stands.ensures ∙ c.if-stands.false) refl (halt_left (sym c.stands-2.ensures ∙ c.if-stands-2.true) c.in_err-address.ensures))

pub returns-then-stands-2 : goal.returns-then-stands-2
returns-then-stands-2 c =
    skip (sym c.stands.ensures ∙ c.if-stands.false) refl (left (sym c.stands-2.ensures ∙ c.if-stands-2.true) c.in_ok-address.ensures)

pub returns-in_err-compute : goal.returns-in_err-compute
returns-in_err-compute c =
    let p = err_from_is_err_and c.from_residual-in_err-compute.result c.from_residual-in_err-compute.ensures.1 in
    rw (p.1, p.2) (halt_skip (sym c.stands.ensures ∙ c.if-stands.false) refl (halt_skip (sym c.stands-2.ensures ∙ c.if-stands-2.false) refl c.in_err-compute.ensures))

pub returns : goal.returns
returns c =
    skip (sym c.stands.ensures ∙ c.if-stands.false) refl (skip (sym c.stands-2.ensures ∙ c.if-stands-2.false) refl c.in_ok-compute.ensures)
