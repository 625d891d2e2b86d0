use Rattle.std.proofs.Common.{sym, refl}
use Rattle.std.proofs.lemmas.Result.{err_from_is_err_and}
use Rattle.grammar.specs.Rules.{inside, not_inside}
use Rattle.grammar.specs.Reading.{fault}
use Rattle.grammar.proofs.Exits.{halt_within}
use Rattle.hdl_parser.proofs.rules.indices.Goals as goal

pub returns-then-not-number_stands-clause-reads : goal.returns-then-not-number_stands-clause-reads
returns-then-not-number_stands-clause-reads c = rw (c.grammar_fault.ensures, c.here.ensures) (fault (not_inside (sym c.if-not-number_stands.ensures)))

pub returns-in_err-subscript-clause-reads : goal.returns-in_err-subscript-clause-reads
returns-in_err-subscript-clause-reads c =
    let p = err_from_is_err_and c.from_residual.result c.from_residual.ensures.1 in
    rw (p.1, p.2) (halt_within (sym c.if-not-number_stands.ensures) refl c.in_err-subscript.ensures.reads)

pub returns-clause-reads : goal.returns-clause-reads
returns-clause-reads c = inside (sym c.if-not-number_stands.ensures) refl c.in_ok-subscript.ensures.reads
