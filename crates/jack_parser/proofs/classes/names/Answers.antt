use Rattle.std.proofs.Common.{◌∙◌, sym, arith}
use Rattle.std.proofs.lemmas.Result.{err_from_is_err_and}
use Rattle.grammar.specs.Rules.{both}
use Rattle.grammar.proofs.Repeats.{Along-start, Along-more, Along-ended, Along-halts}
use Rattle.grammar.proofs.Exits.{halt_first, halt_second}
use Rattle.jack_parser.specs.Grammar.{jack, next_name}
use Rattle.jack_parser.specs.ClassTrees.{next_name_tree}
use Rattle.grammar.specs.Reading.{memory}
use Rattle.jack_parser.proofs.classes.names.Goals as goal

pub returns-in_err-first-clause-reads : goal.returns-in_err-first-clause-reads
returns-in_err-first-clause-reads c =
    let p = err_from_is_err_and c.from_residual.result c.from_residual.ensures.1 in
    rw (p.1, p.2) (halt_first c.in_err-first.ensures.reads)

pub returns-in_err-push-clause-reads : goal.returns-in_err-push-clause-reads
returns-in_err-push-clause-reads c =
    let p = err_from_is_err_and c.from_residual-in_err-push.result c.from_residual-in_err-push.ensures.1 in
    rw (p.1, p.2) (memory)

pub more-init : goal.more-init
more-init c = record { along = Along-start (jack c.args.end) (next_name c.args.counted) next_name_tree _ _ _ c.new-more.ensures.items; no_longer = omega arith }

pub returns-in_err-after_comma-clause-reads : goal.returns-in_err-after_comma-clause-reads
returns-in_err-after_comma-clause-reads c =
    let p = err_from_is_err_and c.from_residual-in_err-after_comma.result c.from_residual-in_err-after_comma.ensures.1 in
    rw (p.1, p.2) (halt_second c.in_ok-first.ensures.reads (Along-halts (jack c.args.end) (next_name c.args.counted) next_name_tree _ _ _ _ _ _ c.more.invariant.along (sym c.stands.ensures ∙ c.more-test.true) (halt_first c.in_err-after_comma.ensures.reads)))

pub returns-in_err-name-clause-reads : goal.returns-in_err-name-clause-reads
returns-in_err-name-clause-reads c =
    let p = err_from_is_err_and c.from_residual-in_err-name.result c.from_residual-in_err-name.ensures.1 in
    rw (p.1, p.2) (halt_second c.in_ok-first.ensures.reads (Along-halts (jack c.args.end) (next_name c.args.counted) next_name_tree _ _ _ _ _ _ c.more.invariant.along (sym c.stands.ensures ∙ c.more-test.true) (halt_second c.in_ok-after_comma.ensures.reads c.in_err-name.ensures.reads)))

pub more-preserved : goal.more-preserved
more-preserved c = rw c.in_ok-push.ensures.items record {
  along = Along-more (jack c.args.end) (next_name c.args.counted) next_name_tree _ _ _ _ _ _ _ _ c.more.invariant.along (sym c.stands.ensures ∙ c.more-test.true) (both c.in_ok-after_comma.ensures.reads c.in_ok-name.ensures.reads);
  no_longer = omega (arith, c.in_ok-name.ensures.shorter, c.in_ok-after_comma.ensures.shorter, c.more.invariant.no_longer);
}

pub returns-clause-reads : goal.returns-clause-reads
returns-clause-reads c = rw c.shrink_to_fit.ensures.items (both c.in_ok-first.ensures.reads (Along-ended (jack c.args.end) (next_name c.args.counted) next_name_tree _ _ _ _ _ c.more.invariant.along (sym c.stands.ensures ∙ c.more-test.false)))
