use Rattle.std.proofs.Common.{◌∙◌, sym, arith, length-append, [], ◌∷◌}
use Rattle.std.proofs.lemmas.Result.{err_from_is_err_and}
use Rattle.grammar.proofs.Continues.{begun_seq, go_on_as, done, halt_more}
use Rattle.script_parser.proofs.Blocks.{items_with-push}
use Rattle.script_parser.proofs.rules.items.Goals as goal

pub more-init : goal.more-init
more-init c = rw (c.in_ok-push.ensures.ok, c.new-items.ensures) record {
  so_far = begun_seq c.in_ok-first.ensures.reads;
  shorter = c.in_ok-first.ensures.shorter;
  some = omega arith;
}

pub returns-in_err-one-clause-reads : goal.returns-in_err-one-clause-reads
returns-in_err-one-clause-reads c =
    let p = err_from_is_err_and c.from_residual-in_err-one.result c.from_residual-in_err-one.ensures.1 in
    rw (p.1, p.2) (halt_more c.more.invariant.so_far (c.item_stands.ensures ∙ c.more-test.true) c.in_err-one.ensures.reads)

pub more-preserved : goal.more-preserved
more-preserved c = rw c.in_ok-push-2.ensures.ok record {
  so_far = go_on_as _ (λ y. sym (items_with-push c.more.items c.in_ok-one.one y c.more.invariant.some)) c.more.invariant.so_far (c.item_stands.ensures ∙ c.more-test.true) c.in_ok-one.ensures.reads;
  shorter = omega (arith, c.in_ok-one.ensures.shorter, c.more.invariant.shorter);
  some = omega (arith, c.more.invariant.some, length-append c.more.items (c.in_ok-one.one ∷ []));
}

pub returns-clause-reads : goal.returns-clause-reads
returns-clause-reads c = done c.more.invariant.so_far (c.item_stands.ensures ∙ c.more-test.false)
