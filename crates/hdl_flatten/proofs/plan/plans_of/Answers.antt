use Rattle.std.proofs.Common.{◌≡◌, ℕ, ◌+◌, List, [], ◌∷◌, length, length-append, Some, refl, ap, sym, subst, ◌∙◌}
use Rattle.std.specs.Prelude.{slice_get}
use Rattle.std.proofs.lemmas.Option.{slice_get_read}
use Rattle.hdl_check.specs.Inner.Progress.{chips_of}
use Rattle.hdl_flatten.specs.declared.plan.Plan.{Plan}
use Rattle.hdl_flatten.specs.Inner.Nests.{IsNested}
use Rattle.hdl_flatten.specs.Inner.Plans.{IsPlanned, ArePlans, FollowNest}
use Rattle.hdl_flatten.proofs.Planning.{plans_more, follow_more}
use Rattle.hdl_flatten.proofs.plan.plans_of.Goals as goal

pub plan_chip-requires-clause-planned : goal.plan_chip-requires-clause-planned
plan_chip-requires-clause-planned c = subst (λ (ps : List Plan). ArePlans (chips_of c.args.catalog.now) ps) (sym c.deref.ensures.value) c.loop-nested.invariant.planned

pub plan_chip-requires-clause-nested : goal.plan_chip-requires-clause-nested
plan_chip-requires-clause-nested c =
    let nest = c.args.nest.now in
    let nested = c.nested-item.result in
    let here : slice_get nest c.loop-nested.nested-index ≡ Some nested = slice_get_read nest (length nest) c.loop-nested.nested-index nested refl c.loop-nested-test.true c.nested-item.is in
    let long : length c.deref.result.now ≡ c.loop-nested.nested-index = ap length c.deref.ensures.value ∙ c.loop-nested.invariant.long in
    subst (λ (n : ℕ). IsNested (chips_of c.args.catalog.now) nest n nested) (sym long) (c.requires.nest _ _ here)

pub plan_chip-requires-clause-plans : goal.plan_chip-requires-clause-plans
plan_chip-requires-clause-plans c = subst (λ (ps : List Plan). FollowNest c.args.nest.now ps) (sym c.deref.ensures.value) c.loop-nested.invariant.follow

pub loop-nested-preserved : goal.loop-nested-preserved
loop-nested-preserved c =
    let chips = chips_of c.args.catalog.now in
    let nest = c.args.nest.now in
    let items = c.loop-nested.plans.items in
    let plan = c.in_ok-plan.plan in
    let long : length items ≡ c.loop-nested.nested-index = c.loop-nested.invariant.long in
    let here : slice_get nest (length items) ≡ Some c.nested-item.result = ap (slice_get nest) long ∙ slice_get_read nest (length nest) c.loop-nested.nested-index c.nested-item.result refl c.loop-nested-test.true c.nested-item.is in
    let one : IsPlanned chips items (length items) plan = subst (λ (ps : List Plan). IsPlanned chips ps (length ps) plan) c.deref.ensures.value c.in_ok-plan.ensures.plan in
    let pushed = c.in_ok-push.ensures.items in
    record {
      long = ap length pushed ∙ length-append items (plan ∷ []) ∙ ap (λ (n : ℕ). n + 1) long;
      planned = subst (λ (ps : List Plan). ArePlans chips ps) (sym pushed) (plans_more chips items plan c.loop-nested.invariant.planned one);
      follow = subst (λ (ps : List Plan). FollowNest nest ps) (sym pushed) (follow_more nest items c.nested-item.result plan c.loop-nested.invariant.follow here c.in_ok-plan.ensures.number);
    }
