use Rattle.std.proofs.Common.{sym}
use Rattle.std.proofs.lemmas.Result.{err_from_is_err_and}
use Rattle.grammar.specs.Rules.{left, right, neither}
use Rattle.grammar.specs.Reading.{fault}
use Rattle.grammar.proofs.Exits.{halt_left, halt_right}
use Rattle.hdl_parser.proofs.rules.body.Goals as goal

pub returns-in_err-parts-clause-reads : goal.returns-in_err-parts-clause-reads
returns-in_err-parts-clause-reads c =
    let p = err_from_is_err_and c.from_residual.result c.from_residual.ensures.1 in
    rw (p.1, p.2) (halt_left (sym c.if-keyword_stands.ensures) c.in_err-parts.ensures.reads)

pub returns-then-keyword_stands-clause-reads : goal.returns-then-keyword_stands-clause-reads
returns-then-keyword_stands-clause-reads c = left (sym c.if-keyword_stands.ensures) c.in_ok-parts.ensures.reads

pub returns-then-not-keyword_stands-clause-reads : goal.returns-then-not-keyword_stands-clause-reads
returns-then-not-keyword_stands-clause-reads c = rw (c.grammar_fault.ensures, c.here.ensures) (fault (neither (sym c.if-keyword_stands.ensures) (sym c.if-not-keyword_stands.ensures)))

pub returns-in_err-name-clause-reads : goal.returns-in_err-name-clause-reads
returns-in_err-name-clause-reads c =
    let p = err_from_is_err_and c.from_residual-in_err-name.result c.from_residual-in_err-name.ensures.1 in
    rw (p.1, p.2) (halt_right (sym c.if-keyword_stands.ensures) (sym c.if-not-keyword_stands.ensures) c.in_err-name.ensures.reads)

pub returns-clause-reads : goal.returns-clause-reads
returns-clause-reads c = right (sym c.if-keyword_stands.ensures) (sym c.if-not-keyword_stands.ensures) c.in_ok-name.ensures.reads
