use Rattle.std.proofs.Common.{[], refl, sym, ◌∙◌}
use Rattle.hdl_loops.proofs.Growing.{added_tree, added_keeps, added_marks, keeps_refl}
use Rattle.hdl_loops.proofs.Lists.{in_get}
use Rattle.hdl_loops.proofs.tree.Tree.follow.Goals as goal

pub returns-then-has : goal.returns-then-has
returns-then-has c = record {
  right = λ hops i tree left. tree;
  kept = keeps_refl c.args.self.now;
  passed = refl;
  followed = λ r. sym c.has.ensures ∙ c.if-has.true;
}

pub returns-in-None : goal.returns-in-None
returns-in-None c = record {
  right = λ hops i tree left. tree;
  kept = keeps_refl c.args.self.now;
  passed = refl;
  followed = λ r. absurd (c.in-None.ensures r);
}

pub returns-in_ok-add-in-Some-clause-right : goal.returns-in_ok-add-in-Some-clause-right
returns-in_ok-add-in-Some-clause-right c = λ hops i tree left.
    let none = sym c.has.ensures ∙ c.if-has.false in
    let q = in_get hops c.args.hop i in
    added_tree hops c.args.self.now c.add.new.self c.args.hop c.in-Some.before c.in_ok-add-in-Some.ensures tree q.0 q.1 c.in-Some.ensures left none

pub returns-in_ok-add-in-Some-clause-kept : goal.returns-in_ok-add-in-Some-clause-kept
returns-in_ok-add-in-Some-clause-kept c = added_keeps [] c.args.self.now c.add.new.self c.args.hop c.in-Some.before c.in_ok-add-in-Some.ensures

pub returns-in_ok-add-in-Some-clause-passed : goal.returns-in_ok-add-in-Some-clause-passed
returns-in_ok-add-in-Some-clause-passed c = c.in_ok-add-in-Some.ensures.passed

pub returns-in_ok-add-in-Some-clause-followed : goal.returns-in_ok-add-in-Some-clause-followed
returns-in_ok-add-in-Some-clause-followed c = λ r.
    let none = sym c.has.ensures ∙ c.if-has.false in
    added_marks [] c.args.self.now c.add.new.self c.args.hop c.in-Some.before c.in_ok-add-in-Some.ensures none
