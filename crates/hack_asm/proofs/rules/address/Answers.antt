use Rattle.std.proofs.Common.{sym, ◌∙◌, refl}
use Rattle.std.proofs.lemmas.Result.{err_from_is_err_and}
use Rattle.grammar.specs.Rules.{both, left}
use Rattle.grammar.proofs.Exits.{halt_first, halt_second, halt_left}
use Rattle.grammar.proofs.Entered.{skip, halt_skip}
use Rattle.hack_asm.proofs.rules.address.Goals as goal

pub returns-in_err-rest : goal.returns-in_err-rest
returns-in_err-rest c =
    let p = err_from_is_err_and c.from_residual.result c.from_residual.ensures.1 in
    rw (p.1, p.2) (halt_first c.in_err-rest.ensures)

pub returns-in_err-n : goal.returns-in_err-n
returns-in_err-n c =
    let p = err_from_is_err_and c.from_residual-in_err-n.result c.from_residual-in_err-n.ensures.1 in
    rw (p.1, p.2) (halt_second c.in_ok-rest.ensures (halt_left (sym c.counts.ensures ∙ c.if-counts.true) c.in_err-n.ensures))

pub returns-then-counts : goal.returns-then-counts
returns-then-counts c =
    both c.in_ok-rest.ensures (left (sym c.counts.ensures ∙ c.if-counts.true) c.in_ok-n.ensures)

pub returns-in_err-symbol : goal.returns-in_err-symbol
returns-in_err-symbol c =
    let p = err_from_is_err_and c.from_residual-in_err-symbol.result c.from_residual-in_err-symbol.ensures.1 in
    rw (p.1, p.2) (halt_second c.in_ok-rest.ensures (halt_skip (sym c.counts.ensures ∙ c.if-counts.false) refl c.in_err-symbol.ensures))

pub returns : goal.returns
returns c =
    both c.in_ok-rest.ensures (skip (sym c.counts.ensures ∙ c.if-counts.false) refl c.in_ok-symbol.ensures)
