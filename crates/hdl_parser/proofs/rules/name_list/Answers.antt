use Rattle.std.proofs.Common.{◌∙◌, sym, arith, length-append, [], ◌∷◌}
use Rattle.grammar.specs.Rules.{both}
use Rattle.grammar.proofs.Continues.{begun_seq, go_on_as, done}
use Rattle.hdl_parser.specs.Trees.{name_leaf}
use Rattle.hdl_parser.proofs.Rows.{row_with-push}
use Rattle.hdl_parser.proofs.rules.name_list.Goals as goal

pub more-init : goal.more-init
more-init c = rw (c.in_ok-push.ensures.items, c.new-names.ensures.items) record {
  so_far = begun_seq c.in_ok-first.ensures.reads;
  shorter = c.in_ok-first.ensures.shorter;
  some = omega arith;
}

pub more-preserved : goal.more-preserved
more-preserved c = rw c.in_ok-push-2.ensures.items record {
  so_far = go_on_as _ (λ y. sym (row_with-push name_leaf c.more.names.items c.in_ok-one.one y c.more.invariant.some)) c.more.invariant.so_far (sym c.stands.ensures ∙ c.more-test.true) (both c.in_ok-after_comma.ensures.reads c.in_ok-one.ensures.reads);
  shorter = omega (arith, c.in_ok-one.ensures.shorter, c.in_ok-after_comma.ensures.shorter, c.more.invariant.shorter);
  some = omega (arith, c.more.invariant.some, length-append c.more.names.items (c.in_ok-one.one ∷ []));
}

pub returns-clause-reads : goal.returns-clause-reads
returns-clause-reads c = rw c.of.ensures (done c.more.invariant.so_far (sym c.stands.ensures ∙ c.more-test.false))
