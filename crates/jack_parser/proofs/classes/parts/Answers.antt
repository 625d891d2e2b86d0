use Rattle.std.proofs.lemmas.Result.{err_from_is_err_and}
use Rattle.grammar.specs.Rules.{both}
use Rattle.grammar.proofs.Exits.{halt_first, halt_second}
use Rattle.jack_parser.proofs.classes.parts.Goals as goal

pub returns-in_err-form-clause-reads : goal.returns-in_err-form-clause-reads
returns-in_err-form-clause-reads c =
    let p = err_from_is_err_and c.from_residual.result c.from_residual.ensures.1 in
    rw (p.1, p.2) (halt_first c.in_err-form.ensures.reads)

pub returns-in_err-result-clause-reads : goal.returns-in_err-result-clause-reads
returns-in_err-result-clause-reads c =
    let p = err_from_is_err_and c.from_residual-in_err-result.result c.from_residual-in_err-result.ensures.1 in
    rw (p.1, p.2) (halt_second c.in_ok-form.ensures.reads (halt_first c.in_err-result.ensures.reads))

pub returns-in_err-name-clause-reads : goal.returns-in_err-name-clause-reads
returns-in_err-name-clause-reads c =
    let p = err_from_is_err_and c.from_residual-in_err-name.result c.from_residual-in_err-name.ensures.1 in
    rw (p.1, p.2) (halt_second c.in_ok-form.ensures.reads (halt_second c.in_ok-result.ensures.reads (halt_first c.in_err-name.ensures.reads)))

pub returns-in_err-rest-clause-reads : goal.returns-in_err-rest-clause-reads
returns-in_err-rest-clause-reads c =
    let p = err_from_is_err_and c.from_residual-in_err-rest.result c.from_residual-in_err-rest.ensures.1 in
    rw (p.1, p.2) (halt_second c.in_ok-form.ensures.reads (halt_second c.in_ok-result.ensures.reads (halt_second c.in_ok-name.ensures.reads (halt_first c.in_err-rest.ensures.reads))))

pub returns-in_err-parameters-clause-reads : goal.returns-in_err-parameters-clause-reads
returns-in_err-parameters-clause-reads c =
    let p = err_from_is_err_and c.from_residual-in_err-parameters.result c.from_residual-in_err-parameters.ensures.1 in
    rw (p.1, p.2) (halt_second c.in_ok-form.ensures.reads (halt_second c.in_ok-result.ensures.reads (halt_second c.in_ok-name.ensures.reads (halt_second c.in_ok-rest.ensures.reads (halt_first c.in_err-parameters.ensures.reads)))))

pub returns-in_err-rest-2-clause-reads : goal.returns-in_err-rest-2-clause-reads
returns-in_err-rest-2-clause-reads c =
    let p = err_from_is_err_and c.from_residual-in_err-rest-2.result c.from_residual-in_err-rest-2.ensures.1 in
    rw (p.1, p.2) (halt_second c.in_ok-form.ensures.reads (halt_second c.in_ok-result.ensures.reads (halt_second c.in_ok-name.ensures.reads (halt_second c.in_ok-rest.ensures.reads (halt_second c.in_ok-parameters.ensures.reads (halt_first c.in_err-rest-2.ensures.reads))))))

pub returns-in_err-locals-clause-reads : goal.returns-in_err-locals-clause-reads
returns-in_err-locals-clause-reads c =
    let p = err_from_is_err_and c.from_residual-in_err-locals.result c.from_residual-in_err-locals.ensures.1 in
    rw (p.1, p.2) (halt_second c.in_ok-form.ensures.reads (halt_second c.in_ok-result.ensures.reads (halt_second c.in_ok-name.ensures.reads (halt_second c.in_ok-rest.ensures.reads (halt_second c.in_ok-parameters.ensures.reads (halt_second c.in_ok-rest-2.ensures.reads c.in_err-locals.ensures.reads))))))

pub returns-clause-reads : goal.returns-clause-reads
returns-clause-reads c = both c.in_ok-form.ensures.reads (both c.in_ok-result.ensures.reads (both c.in_ok-name.ensures.reads (both c.in_ok-rest.ensures.reads (both c.in_ok-parameters.ensures.reads (both c.in_ok-rest-2.ensures.reads c.in_ok-locals.ensures.reads)))))
