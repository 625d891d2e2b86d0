use Rattle.std.proofs.Common.{◌≡◌, ◌+◌, ◌<◌, ℕ, false, sym, ap, ◌∙◌, arith}
use Rattle.std.specs.Prelude.{◌&&◌, ◌||◌}
use Rattle.word16.specs.Words.{has_bit}
use Rattle.gate_sim.proofs.Lanes.{has_or, has_none, when_off, choose_same}
use Rattle.gate_sim.proofs.Counting.{same_count, none_count}
use Rattle.gate_sim.proofs.pass.pass_gates.Goals as goal

pub returns-then-touched-eq0-clause-value : goal.returns-then-touched-eq0-clause-value
returns-then-touched-eq0-clause-value g c l less =
    let is = c.touched_lanes-touched.ensures l less ∙ ap (λ x. has_bit c.args.mask l && (c.args.whole || x)) (has_or c.args.a.change c.args.b.change l) in
    ap (λ v. has_bit v l) c.kept.ensures.value ∙ when_off _ _ (has_bit c.args.old l) (sym is ∙ ap (λ w. has_bit w l) c.if-touched-eq0.true ∙ has_none l)

pub returns-then-touched-eq0-clause-counted : goal.returns-then-touched-eq0-clause-counted
returns-then-touched-eq0-clause-counted g c =
    let off : (l : ℕ) → l < 16 → (has_bit c.args.mask l && (c.args.whole || (has_bit c.args.a.change l || has_bit c.args.b.change l))) ≡ false = λ l less. sym (c.touched_lanes-touched.ensures l less ∙ ap (λ x. has_bit c.args.mask l && (c.args.whole || x)) (has_or c.args.a.change c.args.b.change l)) ∙ ap (λ w. has_bit w l) c.if-touched-eq0.true ∙ has_none l in
    let none = none_count (λ l. has_bit c.args.mask l && (c.args.whole || (has_bit c.args.a.change l || has_bit c.args.b.change l))) 16 off in
    let zero : c.args.steps.now ≡ c.args.steps.now + 0 = omega arith in
    zero ∙ ap (λ n. c.args.steps.now + n) (sym none)

pub returns-else-touched-eq0-clause-value : goal.returns-else-touched-eq0-clause-value
returns-else-touched-eq0-clause-value g c l less =
    let is = c.touched_lanes-touched.ensures l less ∙ ap (λ x. has_bit c.args.mask l && (c.args.whole || x)) (has_or c.args.a.change c.args.b.change l) in
    ap (λ v. has_bit v l) c.told.ensures.value ∙ c.chosen-value.ensures l ∙ choose_same _ _ _ _ (has_bit c.args.old l) is (c.nands.ensures l less)

pub returns-else-touched-eq0-clause-counted : goal.returns-else-touched-eq0-clause-counted
returns-else-touched-eq0-clause-counted g c =
    c.tick_lanes.ensures ∙ ap (λ n. c.args.steps.now + n) (same_count (has_bit c.touched_lanes-touched.result) (λ l. has_bit c.args.mask l && (c.args.whole || (has_bit c.args.a.change l || has_bit c.args.b.change l))) 16 (λ l less. c.touched_lanes-touched.ensures l less ∙ ap (λ x. has_bit c.args.mask l && (c.args.whole || x)) (has_or c.args.a.change c.args.b.change l)))
