use Rattle.std.proofs.Common.{sym}
use Rattle.std.proofs.lemmas.Result.{err_from_is_err_and}
use Rattle.grammar.specs.Rules.{both, passed, taken}
use Rattle.grammar.proofs.Exits.{halt_first, halt_second, halt_option}
use Rattle.hdl_parser.specs.Trees.{pin_tree}
use Rattle.hdl_parser.proofs.Rows.{listing_tree-some}
use Rattle.hdl_parser.proofs.rules.pins.Goals as goal

pub returns-then-not-keyword_stands-clause-reads : goal.returns-then-not-keyword_stands-clause-reads
returns-then-not-keyword_stands-clause-reads c = rw (c.of.ensures, c.new.ensures.items) (passed (sym c.if-not-keyword_stands.ensures))

pub returns-in_err-rest-clause-reads : goal.returns-in_err-rest-clause-reads
returns-in_err-rest-clause-reads c =
    let p = err_from_is_err_and c.from_residual.result c.from_residual.ensures.1 in
    rw (p.1, p.2) (halt_option (sym c.if-not-keyword_stands.ensures) (halt_first c.in_err-rest.ensures.reads))

pub returns-in_err-pins-clause-reads : goal.returns-in_err-pins-clause-reads
returns-in_err-pins-clause-reads c =
    let p = err_from_is_err_and c.from_residual-in_err-pins.result c.from_residual-in_err-pins.ensures.1 in
    rw (p.1, p.2) (halt_option (sym c.if-not-keyword_stands.ensures) (halt_second c.in_ok-rest.ensures.reads (halt_first c.in_err-pins.ensures.reads)))

pub returns-in_err-rest-2-clause-reads : goal.returns-in_err-rest-2-clause-reads
returns-in_err-rest-2-clause-reads c =
    let p = err_from_is_err_and c.from_residual-in_err-rest-2.result c.from_residual-in_err-rest-2.ensures.1 in
    rw (p.1, p.2) (halt_option (sym c.if-not-keyword_stands.ensures) (halt_second c.in_ok-rest.ensures.reads (halt_second c.in_ok-pins.ensures.reads c.in_err-rest-2.ensures.reads)))

pub returns-clause-reads : goal.returns-clause-reads
returns-clause-reads c = rw (listing_tree-some pin_tree c.in_ok-pins.pins c.in_ok-pins.ensures.some) (taken (sym c.if-not-keyword_stands.ensures) (both c.in_ok-rest.ensures.reads (both c.in_ok-pins.ensures.reads c.in_ok-rest-2.ensures.reads)))
