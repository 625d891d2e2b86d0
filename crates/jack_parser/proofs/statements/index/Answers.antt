use Rattle.std.proofs.Common.{sym}
use Rattle.std.proofs.lemmas.Result.{err_from_is_err_and}
use Rattle.grammar.specs.Rules.{both, passed, taken}
use Rattle.grammar.proofs.Exits.{halt_first, halt_second, halt_option}
use Rattle.grammar.specs.Reading.{memory}
use Rattle.jack_parser.proofs.statements.index.Goals as goal

pub returns-in_err-rest-clause-reads : goal.returns-in_err-rest-clause-reads
returns-in_err-rest-clause-reads c =
    let p = err_from_is_err_and c.from_residual.result c.from_residual.ensures.1 in
    rw (p.1, p.2) (halt_option (sym c.if-not-stands.ensures) (halt_first c.in_err-rest.ensures.reads))

pub returns-in_err-new-clause-reads : goal.returns-in_err-new-clause-reads
returns-in_err-new-clause-reads c =
    let p = err_from_is_err_and c.from_residual-in_err-new.result c.from_residual-in_err-new.ensures.1 in
    rw (p.1, p.2) (memory)

pub returns-then-not-stands-clause-reads : goal.returns-then-not-stands-clause-reads
returns-then-not-stands-clause-reads c = passed (sym c.if-not-stands.ensures)

pub returns-in_err-index-clause-reads : goal.returns-in_err-index-clause-reads
returns-in_err-index-clause-reads c =
    let p = err_from_is_err_and c.from_residual-in_err-index.result c.from_residual-in_err-index.ensures.1 in
    rw (p.1, p.2) (halt_option (sym c.if-not-stands.ensures) (halt_second c.in_ok-rest.ensures.reads (halt_first c.in_err-index.ensures.reads)))

pub returns-in_err-rest-2-clause-reads : goal.returns-in_err-rest-2-clause-reads
returns-in_err-rest-2-clause-reads c =
    let p = err_from_is_err_and c.from_residual-in_err-rest-2.result c.from_residual-in_err-rest-2.ensures.1 in
    rw (p.1, p.2) (halt_option (sym c.if-not-stands.ensures) (halt_second c.in_ok-rest.ensures.reads (halt_second c.in_ok-index.ensures.reads c.in_err-rest-2.ensures.reads)))

pub returns-clause-reads : goal.returns-clause-reads
returns-clause-reads c = rw c.in_ok-new.ensures.ok (taken (sym c.if-not-stands.ensures) (both c.in_ok-rest.ensures.reads (both c.in_ok-index.ensures.reads c.in_ok-rest-2.ensures.reads)))
