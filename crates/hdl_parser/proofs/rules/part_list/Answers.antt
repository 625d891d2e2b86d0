use Rattle.std.proofs.Common.{◌∙◌, sym, arith, [], refl}
use Rattle.std.proofs.lemmas.Result.{err_from_is_err_and}
use Rattle.grammar.specs.Rules.{ended}
use Rattle.grammar.proofs.Repeats.{Along-start, Along-more, Along-ended, Along-halts}
use Rattle.grammar.proofs.Exits.{halt_repeat}
use Rattle.hdl_parser.specs.Grammar.{hdl, part}
use Rattle.hdl_parser.specs.Trees.{part_tree}
use Rattle.hdl_parser.proofs.rules.part_list.Goals as goal

pub returns-then-not-name_stands-clause-reads : goal.returns-then-not-name_stands-clause-reads
returns-then-not-name_stands-clause-reads c = rw (c.of.ensures, c.new-parts.ensures.items) (ended (sym c.if-not-name_stands.ensures))

pub returns-in_err-first-clause-reads : goal.returns-in_err-first-clause-reads
returns-in_err-first-clause-reads c =
    let p = err_from_is_err_and c.from_residual.result c.from_residual.ensures.1 in
    rw (p.1, p.2) (halt_repeat (sym c.if-not-name_stands.ensures) c.in_err-first.ensures.reads)

pub all-init : goal.all-init
all-init c = rw (c.in_ok-push.ensures.items, c.new-parts.ensures.items) record {
  along = Along-more (hdl c.args.end) part part_tree _ _ [] _ _ _ _ _ (Along-start (hdl c.args.end) part part_tree _ _ [] refl) (sym c.if-not-name_stands.ensures) c.in_ok-first.ensures.reads;
  no_longer = omega (arith, c.in_ok-first.ensures.shorter);
}

pub returns-in_err-one-clause-reads : goal.returns-in_err-one-clause-reads
returns-in_err-one-clause-reads c =
    let p = err_from_is_err_and c.from_residual-in_err-one.result c.from_residual-in_err-one.ensures.1 in
    rw (p.1, p.2) (Along-halts (hdl c.args.end) part part_tree _ _ _ _ _ _ c.all.invariant.along (sym c.name_stands-in-all.ensures ∙ c.all-test.true) c.in_err-one.ensures.reads)

pub all-preserved : goal.all-preserved
all-preserved c = rw c.in_ok-push-2.ensures.items record {
  along = Along-more (hdl c.args.end) part part_tree _ _ _ _ _ _ _ _ c.all.invariant.along (sym c.name_stands-in-all.ensures ∙ c.all-test.true) c.in_ok-one.ensures.reads;
  no_longer = omega (arith, c.in_ok-one.ensures.shorter, c.all.invariant.no_longer);
}

pub returns-clause-reads : goal.returns-clause-reads
returns-clause-reads c = rw c.of-2.ensures (Along-ended (hdl c.args.end) part part_tree _ _ _ _ _ c.all.invariant.along (sym c.name_stands-in-all.ensures ∙ c.all-test.false))
