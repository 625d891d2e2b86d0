use Rattle.std.proofs.lemmas.Result.{err_from_is_err_and}
use Rattle.grammar.specs.Rules.{both}
use Rattle.grammar.proofs.Exits.{halt_first, halt_second}
use Rattle.jack_parser.proofs.classes.declaration.Goals as goal

pub returns-in_err-rest-clause-reads : goal.returns-in_err-rest-clause-reads
returns-in_err-rest-clause-reads c =
    let p = err_from_is_err_and c.from_residual.result c.from_residual.ensures.1 in
    rw (p.1, p.2) (halt_first c.in_err-rest.ensures.reads)

pub returns-in_err-kind-clause-reads : goal.returns-in_err-kind-clause-reads
returns-in_err-kind-clause-reads c =
    let p = err_from_is_err_and c.from_residual-in_err-kind.result c.from_residual-in_err-kind.ensures.1 in
    rw (p.1, p.2) (halt_second c.in_ok-rest.ensures.reads (halt_first c.in_err-kind.ensures.reads))

pub returns-in_err-names-clause-reads : goal.returns-in_err-names-clause-reads
returns-in_err-names-clause-reads c =
    let p = err_from_is_err_and c.from_residual-in_err-names.result c.from_residual-in_err-names.ensures.1 in
    rw (p.1, p.2) (halt_second c.in_ok-rest.ensures.reads (halt_second c.in_ok-kind.ensures.reads (halt_first c.in_err-names.ensures.reads)))

pub returns-in_err-rest-2-clause-reads : goal.returns-in_err-rest-2-clause-reads
returns-in_err-rest-2-clause-reads c =
    let p = err_from_is_err_and c.from_residual-in_err-rest-2.result c.from_residual-in_err-rest-2.ensures.1 in
    rw (p.1, p.2) (halt_second c.in_ok-rest.ensures.reads (halt_second c.in_ok-kind.ensures.reads (halt_second c.in_ok-names.ensures.reads c.in_err-rest-2.ensures.reads)))

pub returns-clause-reads : goal.returns-clause-reads
returns-clause-reads c = both c.in_ok-rest.ensures.reads (both c.in_ok-kind.ensures.reads (both c.in_ok-names.ensures.reads c.in_ok-rest-2.ensures.reads))
