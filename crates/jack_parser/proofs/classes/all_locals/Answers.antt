use Rattle.std.proofs.Common.{◌∙◌, sym, arith, [], refl}
use Rattle.std.proofs.lemmas.Result.{err_from_is_err_and}
use Rattle.grammar.specs.Rules.{ended}
use Rattle.grammar.proofs.Repeats.{Along-start, Along-more, Along-ended, Along-halts}
use Rattle.grammar.proofs.Exits.{halt_repeat}
use Rattle.jack_parser.specs.Grammar.{jack, locals_rule}
use Rattle.jack_parser.specs.ClassTrees.{locals_tree}
use Rattle.grammar.specs.Reading.{memory}
use Rattle.jack_parser.proofs.classes.all_locals.Goals as goal

pub returns-in_err-push-clause-reads : goal.returns-in_err-push-clause-reads
returns-in_err-push-clause-reads c =
    let p = err_from_is_err_and c.from_residual-in_err-push.result c.from_residual-in_err-push.ensures.1 in
    rw (p.1, p.2) (memory)

pub returns-in_err-push-2-clause-reads : goal.returns-in_err-push-2-clause-reads
returns-in_err-push-2-clause-reads c =
    let p = err_from_is_err_and c.from_residual-in_err-push-2.result c.from_residual-in_err-push-2.ensures.1 in
    rw (p.1, p.2) (memory)

pub returns-then-not-keyword_stands-clause-reads : goal.returns-then-not-keyword_stands-clause-reads
returns-then-not-keyword_stands-clause-reads c = rw c.new-all.ensures.items (ended (sym c.if-not-keyword_stands.ensures))

pub returns-in_err-first-clause-reads : goal.returns-in_err-first-clause-reads
returns-in_err-first-clause-reads c =
    let p = err_from_is_err_and c.from_residual.result c.from_residual.ensures.1 in
    rw (p.1, p.2) (halt_repeat (sym c.if-not-keyword_stands.ensures) c.in_err-first.ensures.reads)

pub all-init : goal.all-init
all-init c = rw (c.in_ok-push.ensures.items, c.new-all.ensures.items) record {
  along = Along-more (jack c.args.end) locals_rule locals_tree _ _ [] _ _ _ _ _ (Along-start (jack c.args.end) locals_rule locals_tree _ _ [] refl) (sym c.if-not-keyword_stands.ensures) c.in_ok-first.ensures.reads;
  no_longer = omega (arith, c.in_ok-first.ensures.shorter);
}

pub returns-in_err-one-clause-reads : goal.returns-in_err-one-clause-reads
returns-in_err-one-clause-reads c =
    let p = err_from_is_err_and c.from_residual-in_err-one.result c.from_residual-in_err-one.ensures.1 in
    rw (p.1, p.2) (Along-halts (jack c.args.end) locals_rule locals_tree _ _ _ _ _ _ c.all.invariant.along (sym c.keyword_stands-in-all.ensures ∙ c.all-test.true) c.in_err-one.ensures.reads)

pub all-preserved : goal.all-preserved
all-preserved c = rw c.in_ok-push-2.ensures.items record {
  along = Along-more (jack c.args.end) locals_rule locals_tree _ _ _ _ _ _ _ _ c.all.invariant.along (sym c.keyword_stands-in-all.ensures ∙ c.all-test.true) c.in_ok-one.ensures.reads;
  no_longer = omega (arith, c.in_ok-one.ensures.shorter, c.all.invariant.no_longer);
}

pub returns-clause-reads : goal.returns-clause-reads
returns-clause-reads c = rw c.shrink_to_fit.ensures.items (Along-ended (jack c.args.end) locals_rule locals_tree _ _ _ _ _ c.all.invariant.along (sym c.keyword_stands-in-all.ensures ∙ c.all-test.false))
