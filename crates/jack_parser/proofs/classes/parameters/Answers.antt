use Rattle.std.proofs.Common.{sym}
use Rattle.std.proofs.lemmas.Result.{err_from_is_err_and}
use Rattle.grammar.specs.Rules.{passed, taken}
use Rattle.grammar.proofs.Exits.{halt_option}
use Rattle.jack_parser.proofs.Parameters.{parameters_tree-some}
use Rattle.jack_parser.proofs.classes.parameters.Goals as goal

pub returns-then-not-type_begins-clause-reads : goal.returns-then-not-type_begins-clause-reads
returns-then-not-type_begins-clause-reads c = rw c.new.ensures.items (passed (sym c.if-not-type_begins.ensures))

pub returns-in_err-parameters-clause-reads : goal.returns-in_err-parameters-clause-reads
returns-in_err-parameters-clause-reads c =
    let p = err_from_is_err_and c.from_residual.result c.from_residual.ensures.1 in
    rw (p.1, p.2) (halt_option (sym c.if-not-type_begins.ensures) c.in_err-parameters.ensures.reads)

pub returns-clause-reads : goal.returns-clause-reads
returns-clause-reads c = rw (parameters_tree-some c.in_ok-parameters.parameters.items c.in_ok-parameters.ensures.some) (taken (sym c.if-not-type_begins.ensures) c.in_ok-parameters.ensures.reads)
