use Rattle.std.proofs.lemmas.Result.{err_from_is_err_and}
use Rattle.jack_parser.proofs.classes.locals.Goals as goal

pub returns-in_err-kind-clause-reads : goal.returns-in_err-kind-clause-reads
returns-in_err-kind-clause-reads c =
    let p = err_from_is_err_and c.from_residual.result c.from_residual.ensures.1 in
    rw (p.1, p.2) c.in_err-kind.ensures.reads

pub returns-clause-reads : goal.returns-clause-reads
returns-clause-reads c = c.in_ok-kind.ensures.reads
