use Rattle.std.proofs.Common.{sym, refl}
use Rattle.std.proofs.lemmas.Result.{err_from_is_err_and}
use Rattle.grammar.specs.Rules.{inside}
use Rattle.grammar.proofs.Exits.{halt_within}
use Rattle.jack_parser.proofs.classes.subroutine.Goals as goal

pub returns-in_err-subroutine-clause-reads : goal.returns-in_err-subroutine-clause-reads
returns-in_err-subroutine-clause-reads c =
    let p = err_from_is_err_and c.from_residual.result c.from_residual.ensures.1 in
    rw (p.1, p.2) (halt_within (sym c.if-not-form_begins.ensures) refl (rw c.fresh.ensures at c.in_err-subroutine.ensures.reads))

pub returns-clause-reads : goal.returns-clause-reads
returns-clause-reads c = inside (sym c.if-not-form_begins.ensures) refl (rw c.fresh.ensures at c.in_ok-subroutine.ensures.reads)
