use Rattle.std.proofs.lemmas.Result.{err_from_is_err_and}
use Rattle.grammar.specs.Rules.{both}
use Rattle.grammar.proofs.Exits.{halt_first, halt_second}
use Rattle.jack_parser.proofs.StatementRules.{do_read, do_halts}
use Rattle.jack_parser.proofs.statements.do_statement.Goals as goal

pub returns-in_err-place-clause-reads : goal.returns-in_err-place-clause-reads
returns-in_err-place-clause-reads c =
    let p = err_from_is_err_and c.from_residual.result c.from_residual.ensures.1 in
    rw (p.1, p.2) (do_halts c.requires.begun (halt_first c.in_err-place.ensures.reads))

pub returns-in_err-name-clause-reads : goal.returns-in_err-name-clause-reads
returns-in_err-name-clause-reads c =
    let p = err_from_is_err_and c.from_residual-in_err-name.result c.from_residual-in_err-name.ensures.1 in
    rw (p.1, p.2) (do_halts c.requires.begun (halt_second c.in_ok-place.ensures.reads (halt_first c.in_err-name.ensures.reads)))

pub returns-in_err-call-clause-reads : goal.returns-in_err-call-clause-reads
returns-in_err-call-clause-reads c =
    let p = err_from_is_err_and c.from_residual-in_err-call.result c.from_residual-in_err-call.ensures.1 in
    rw (p.1, p.2) (do_halts c.requires.begun (halt_second c.in_ok-place.ensures.reads (halt_second c.in_ok-name.ensures.reads (halt_first c.in_err-call.ensures.reads))))

pub returns-in_err-rest-clause-reads : goal.returns-in_err-rest-clause-reads
returns-in_err-rest-clause-reads c =
    let p = err_from_is_err_and c.from_residual-in_err-rest.result c.from_residual-in_err-rest.ensures.1 in
    rw (p.1, p.2) (do_halts c.requires.begun (halt_second c.in_ok-place.ensures.reads (halt_second c.in_ok-name.ensures.reads (halt_second c.in_ok-call.ensures.reads c.in_err-rest.ensures.reads))))

pub returns-clause-reads : goal.returns-clause-reads
returns-clause-reads c = rw c.in_ok-call.ensures.front (do_read c.requires.begun (both c.in_ok-place.ensures.reads (both c.in_ok-name.ensures.reads (both c.in_ok-call.ensures.reads c.in_ok-rest.ensures.reads))))
