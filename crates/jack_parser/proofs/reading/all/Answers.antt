use Rattle.std.proofs.lemmas.Result.{err_from_is_err_and}
use Rattle.grammar.specs.Rules.{both}
use Rattle.grammar.proofs.Exits.{halt_first, halt_second}
use Rattle.jack_parser.proofs.reading.all.Goals as goal

pub returns-in_err-class-clause-reads : goal.returns-in_err-class-clause-reads
returns-in_err-class-clause-reads c =
    let p = err_from_is_err_and c.from_residual.result c.from_residual.ensures.1 in
    rw (p.1, p.2) (halt_first (rw c.fresh.ensures at c.in_err-class.ensures.reads))

pub returns-in_err-finish-clause-reads : goal.returns-in_err-finish-clause-reads
returns-in_err-finish-clause-reads c =
    let p = err_from_is_err_and c.from_residual-in_err-finish.result c.from_residual-in_err-finish.ensures.1 in
    rw (p.1, p.2) (halt_second (rw c.fresh.ensures at c.in_ok-class.ensures.reads) (c.in_err-finish.ensures _ _))

pub returns-clause-reads : goal.returns-clause-reads
returns-clause-reads c = both (rw c.fresh.ensures at c.in_ok-class.ensures.reads) (c.in_ok-finish.ensures _ _)
