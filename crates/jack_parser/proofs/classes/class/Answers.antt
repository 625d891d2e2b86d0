use Rattle.std.proofs.lemmas.Result.{err_from_is_err_and}
use Rattle.grammar.specs.Rules.{both}
use Rattle.grammar.proofs.Exits.{halt_first, halt_second}
use Rattle.jack_parser.proofs.classes.class.Goals as goal

pub returns-in_err-rest-clause-reads : goal.returns-in_err-rest-clause-reads
returns-in_err-rest-clause-reads c =
    let p = err_from_is_err_and c.from_residual.result c.from_residual.ensures.1 in
    rw (p.1, p.2) (halt_first c.in_err-rest.ensures.reads)

pub returns-in_err-name-clause-reads : goal.returns-in_err-name-clause-reads
returns-in_err-name-clause-reads c =
    let p = err_from_is_err_and c.from_residual-in_err-name.result c.from_residual-in_err-name.ensures.1 in
    rw (p.1, p.2) (halt_second c.in_ok-rest.ensures.reads (halt_first c.in_err-name.ensures.reads))

pub returns-in_err-rest-2-clause-reads : goal.returns-in_err-rest-2-clause-reads
returns-in_err-rest-2-clause-reads c =
    let p = err_from_is_err_and c.from_residual-in_err-rest-2.result c.from_residual-in_err-rest-2.ensures.1 in
    rw (p.1, p.2) (halt_second c.in_ok-rest.ensures.reads (halt_second c.in_ok-name.ensures.reads (halt_first c.in_err-rest-2.ensures.reads)))

pub returns-in_err-variables-clause-reads : goal.returns-in_err-variables-clause-reads
returns-in_err-variables-clause-reads c =
    let p = err_from_is_err_and c.from_residual-in_err-variables.result c.from_residual-in_err-variables.ensures.1 in
    rw (p.1, p.2) (halt_second c.in_ok-rest.ensures.reads (halt_second c.in_ok-name.ensures.reads (halt_second c.in_ok-rest-2.ensures.reads (halt_first c.in_err-variables.ensures.reads))))

pub returns-in_err-subroutines-clause-reads : goal.returns-in_err-subroutines-clause-reads
returns-in_err-subroutines-clause-reads c =
    let p = err_from_is_err_and c.from_residual-in_err-subroutines.result c.from_residual-in_err-subroutines.ensures.1 in
    rw (p.1, p.2) (halt_second c.in_ok-rest.ensures.reads (halt_second c.in_ok-name.ensures.reads (halt_second c.in_ok-rest-2.ensures.reads (halt_second c.in_ok-variables.ensures.reads (halt_first c.in_err-subroutines.ensures.reads)))))

pub returns-in_err-rest-3-clause-reads : goal.returns-in_err-rest-3-clause-reads
returns-in_err-rest-3-clause-reads c =
    let p = err_from_is_err_and c.from_residual-in_err-rest-3.result c.from_residual-in_err-rest-3.ensures.1 in
    rw (p.1, p.2) (halt_second c.in_ok-rest.ensures.reads (halt_second c.in_ok-name.ensures.reads (halt_second c.in_ok-rest-2.ensures.reads (halt_second c.in_ok-variables.ensures.reads (halt_second c.in_ok-subroutines.ensures.reads c.in_err-rest-3.ensures.reads)))))

pub returns-clause-reads : goal.returns-clause-reads
returns-clause-reads c = both c.in_ok-rest.ensures.reads (both c.in_ok-name.ensures.reads (both c.in_ok-rest-2.ensures.reads (both c.in_ok-variables.ensures.reads (both c.in_ok-subroutines.ensures.reads c.in_ok-rest-3.ensures.reads))))
