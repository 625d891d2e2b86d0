use Rattle.std.proofs.lemmas.Result.{err_from_is_err_and}
use Rattle.grammar.specs.Rules.{both}
use Rattle.grammar.proofs.Exits.{halt_first, halt_second}
use Rattle.jack_parser.proofs.classes.body.Goals as goal

pub returns-in_err-rest-clause-reads : goal.returns-in_err-rest-clause-reads
returns-in_err-rest-clause-reads c =
    let p = err_from_is_err_and c.from_residual.result c.from_residual.ensures.1 in
    rw (p.1, p.2) (halt_first c.in_err-rest.ensures.reads)

pub returns-in_err-locals-clause-reads : goal.returns-in_err-locals-clause-reads
returns-in_err-locals-clause-reads c =
    let p = err_from_is_err_and c.from_residual-in_err-locals.result c.from_residual-in_err-locals.ensures.1 in
    rw (p.1, p.2) (halt_second c.in_ok-rest.ensures.reads (halt_first c.in_err-locals.ensures.reads))

pub returns-in_err-statements-clause-reads : goal.returns-in_err-statements-clause-reads
returns-in_err-statements-clause-reads c =
    let p = err_from_is_err_and c.from_residual-in_err-statements.result c.from_residual-in_err-statements.ensures.1 in
    rw (p.1, p.2) (halt_second c.in_ok-rest.ensures.reads (halt_second c.in_ok-locals.ensures.reads (halt_first c.in_err-statements.ensures.reads)))

pub returns-in_err-close-clause-reads : goal.returns-in_err-close-clause-reads
returns-in_err-close-clause-reads c =
    let p = err_from_is_err_and c.from_residual-in_err-close.result c.from_residual-in_err-close.ensures.1 in
    rw (p.1, p.2) (halt_second c.in_ok-rest.ensures.reads (halt_second c.in_ok-locals.ensures.reads (halt_second c.in_ok-statements.ensures.reads c.in_err-close.ensures.reads)))

pub returns-clause-reads : goal.returns-clause-reads
returns-clause-reads c = both c.in_ok-rest.ensures.reads (both c.in_ok-locals.ensures.reads (both c.in_ok-statements.ensures.reads c.in_ok-close.ensures.reads))
