use Rattle.std.proofs.Common.{sym}
use Rattle.std.proofs.lemmas.Result.{err_from_is_err_and}
use Rattle.grammar.specs.Rules.{left, right, neither}
use Rattle.grammar.specs.Reading.{fault}
use Rattle.grammar.proofs.Exits.{halt_left, halt_right}
use Rattle.hdl_parser.proofs.rules.source.Goals as goal

pub returns-in_err-selection-clause-reads : goal.returns-in_err-selection-clause-reads
returns-in_err-selection-clause-reads c =
    let p = err_from_is_err_and c.from_residual.result c.from_residual.ensures.1 in
    rw (p.1, p.2) (halt_left (sym c.if-name_stands.ensures) c.in_err-selection.ensures.reads)

pub returns-then-name_stands-clause-reads : goal.returns-then-name_stands-clause-reads
returns-then-name_stands-clause-reads c = left (sym c.if-name_stands.ensures) c.in_ok-selection.ensures.reads

pub returns-then-not-constant_stands-clause-reads : goal.returns-then-not-constant_stands-clause-reads
returns-then-not-constant_stands-clause-reads c = rw (c.grammar_fault.ensures, c.here.ensures) (fault (neither (sym c.if-name_stands.ensures) (sym c.if-not-constant_stands.ensures)))

pub returns-in_err-value-clause-reads : goal.returns-in_err-value-clause-reads
returns-in_err-value-clause-reads c =
    let p = err_from_is_err_and c.from_residual-in_err-value.result c.from_residual-in_err-value.ensures.1 in
    rw (p.1, p.2) (halt_right (sym c.if-name_stands.ensures) (sym c.if-not-constant_stands.ensures) c.in_err-value.ensures.reads)

pub returns-clause-reads : goal.returns-clause-reads
returns-clause-reads c = right (sym c.if-name_stands.ensures) (sym c.if-not-constant_stands.ensures) c.in_ok-value.ensures.reads
