use Rattle.std.proofs.Common.{sym}
use Rattle.std.proofs.lemmas.Result.{err_from_is_err_and}
use Rattle.grammar.specs.Rules.{both, passed, taken}
use Rattle.grammar.proofs.Exits.{halt_first, halt_second, halt_option}
use Rattle.hdl_parser.proofs.rules.last.Goals as goal

pub returns-then-not-dots_stand-clause-reads : goal.returns-then-not-dots_stand-clause-reads
returns-then-not-dots_stand-clause-reads c = passed (sym c.if-not-dots_stand.ensures)

pub returns-in_err-rest-clause-reads : goal.returns-in_err-rest-clause-reads
returns-in_err-rest-clause-reads c =
    let p = err_from_is_err_and c.from_residual.result c.from_residual.ensures.1 in
    rw (p.1, p.2) (halt_option (sym c.if-not-dots_stand.ensures) (halt_first c.in_err-rest.ensures.reads))

pub returns-in_err-last-clause-reads : goal.returns-in_err-last-clause-reads
returns-in_err-last-clause-reads c =
    let p = err_from_is_err_and c.from_residual-in_err-last.result c.from_residual-in_err-last.ensures.1 in
    rw (p.1, p.2) (halt_option (sym c.if-not-dots_stand.ensures) (halt_second c.in_ok-rest.ensures.reads c.in_err-last.ensures.reads))

pub returns-clause-reads : goal.returns-clause-reads
returns-clause-reads c = taken (sym c.if-not-dots_stand.ensures) (both c.in_ok-rest.ensures.reads c.in_ok-last.ensures.reads)
