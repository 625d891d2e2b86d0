use Rattle.std.proofs.lemmas.Result.{err_from_is_err_and}
use Rattle.grammar.specs.Rules.{both}
use Rattle.grammar.proofs.Exits.{halt_first, halt_second}
use Rattle.jack_parser.proofs.StatementRules.{let_read, let_halts}
use Rattle.jack_parser.proofs.statements.let_statement.Goals as goal

pub returns-in_err-place-clause-reads : goal.returns-in_err-place-clause-reads
returns-in_err-place-clause-reads c =
    let p = err_from_is_err_and c.from_residual.result c.from_residual.ensures.1 in
    rw (p.1, p.2) (let_halts c.requires.begun (halt_first c.in_err-place.ensures.reads))

pub returns-in_err-name-clause-reads : goal.returns-in_err-name-clause-reads
returns-in_err-name-clause-reads c =
    let p = err_from_is_err_and c.from_residual-in_err-name.result c.from_residual-in_err-name.ensures.1 in
    rw (p.1, p.2) (let_halts c.requires.begun (halt_second c.in_ok-place.ensures.reads (halt_first c.in_err-name.ensures.reads)))

pub returns-in_err-index-clause-reads : goal.returns-in_err-index-clause-reads
returns-in_err-index-clause-reads c =
    let p = err_from_is_err_and c.from_residual-in_err-index.result c.from_residual-in_err-index.ensures.1 in
    rw (p.1, p.2) (let_halts c.requires.begun (halt_second c.in_ok-place.ensures.reads (halt_second c.in_ok-name.ensures.reads (halt_first c.in_err-index.ensures.reads))))

pub returns-in_err-rest-clause-reads : goal.returns-in_err-rest-clause-reads
returns-in_err-rest-clause-reads c =
    let p = err_from_is_err_and c.from_residual-in_err-rest.result c.from_residual-in_err-rest.ensures.1 in
    rw (p.1, p.2) (let_halts c.requires.begun (halt_second c.in_ok-place.ensures.reads (halt_second c.in_ok-name.ensures.reads (halt_second c.in_ok-index.ensures.reads (halt_first c.in_err-rest.ensures.reads)))))

pub returns-in_err-value-clause-reads : goal.returns-in_err-value-clause-reads
returns-in_err-value-clause-reads c =
    let p = err_from_is_err_and c.from_residual-in_err-value.result c.from_residual-in_err-value.ensures.1 in
    rw (p.1, p.2) (let_halts c.requires.begun (halt_second c.in_ok-place.ensures.reads (halt_second c.in_ok-name.ensures.reads (halt_second c.in_ok-index.ensures.reads (halt_second c.in_ok-rest.ensures.reads (halt_first c.in_err-value.ensures.reads))))))

pub returns-in_err-rest-2-clause-reads : goal.returns-in_err-rest-2-clause-reads
returns-in_err-rest-2-clause-reads c =
    let p = err_from_is_err_and c.from_residual-in_err-rest-2.result c.from_residual-in_err-rest-2.ensures.1 in
    rw (p.1, p.2) (let_halts c.requires.begun (halt_second c.in_ok-place.ensures.reads (halt_second c.in_ok-name.ensures.reads (halt_second c.in_ok-index.ensures.reads (halt_second c.in_ok-rest.ensures.reads (halt_second c.in_ok-value.ensures.reads c.in_err-rest-2.ensures.reads))))))

pub returns-clause-reads : goal.returns-clause-reads
returns-clause-reads c = let_read c.requires.begun (both c.in_ok-place.ensures.reads (both c.in_ok-name.ensures.reads (both c.in_ok-index.ensures.reads (both c.in_ok-rest.ensures.reads (both c.in_ok-value.ensures.reads c.in_ok-rest-2.ensures.reads)))))
