use Rattle.std.proofs.Common.{sym, ◌∙◌}
use Rattle.std.proofs.lemmas.Result.{err_from_is_err_and}
use Rattle.grammar.specs.Rules.{both, passed, taken}
use Rattle.grammar.proofs.Exits.{halt_first, halt_second, halt_option}
use Rattle.hack_asm.proofs.rules.compute.Goals as goal

pub returns-in_err-dest : goal.returns-in_err-dest
returns-in_err-dest c =
    let p = err_from_is_err_and c.from_residual.result c.from_residual.ensures.1 in
    rw (p.1, p.2) (halt_first c.in_err-dest.ensures)

pub returns-in_err-rest : goal.returns-in_err-rest
returns-in_err-rest c =
    let p = err_from_is_err_and c.from_residual-in_err-rest.result c.from_residual-in_err-rest.ensures.1 in
    rw (p.1, p.2) (halt_second c.in_ok-dest.ensures (halt_option (sym c.stands.ensures ∙ c.if-stands.true) (halt_first c.in_err-rest.ensures)))

pub returns-in_err-bits : goal.returns-in_err-bits
returns-in_err-bits c =
    let p = err_from_is_err_and c.from_residual-in_err-bits.result c.from_residual-in_err-bits.ensures.1 in
    rw (p.1, p.2) (halt_second c.in_ok-dest.ensures (halt_option (sym c.stands.ensures ∙ c.if-stands.true) (halt_second c.in_ok-rest.ensures c.in_err-bits.ensures)))

pub returns-then-stands : goal.returns-then-stands
returns-then-stands c =
    both c.in_ok-dest.ensures (taken (sym c.stands.ensures ∙ c.if-stands.true) (both c.in_ok-rest.ensures c.in_ok-bits.ensures))

pub returns : goal.returns
returns c =
    both c.in_ok-dest.ensures (passed (sym c.stands.ensures ∙ c.if-stands.false))
