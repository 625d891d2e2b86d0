use Rattle.std.proofs.Common.{◌≡◌, ℕ, ◌<◌, ◌∷◌, [], ◌++◌, List, length, Some, refl, sym, ap, subst, ◌∙◌, arith}
use Rattle.std.specs.Prelude.{slice_get}
use Rattle.std.proofs.lemmas.Option.{slice_get_read}
use Rattle.hdl_flatten.specs.declared.size.Size.{Size}
use Rattle.hdl_flatten.specs.declared.plan.PartPlan.{PartPlan}
use Rattle.hdl_flatten.specs.Inner.Sizes.{joined_size}
use Rattle.hdl_flatten.specs.Inner.Wired.{wires_of}
use Rattle.hdl_flatten.specs.Inner.Plans.{ArePartPlans, IsPartPlan, plans_at, places}
use Rattle.hdl_flatten.proofs.Lists.{assoc, nil_after}
use Rattle.hdl_flatten.proofs.Planning.{part_plans_next, part_plans_end, places_more, tail_below, head_below, joined_is_small}
use Rattle.hdl_flatten.proofs.plan.plan_parts.Goals as goal

pub loop-part-preserved : goal.loop-part-preserved
loop-part-preserved c =
    let plans = c.args.plans.now in
    let wires = wires_of c.args.wires.now in
    let part = c.in-Some.part.now in
    let others = c.in-Some.others.now in
    let place = c.in-Some-split_first.place.now in
    let after = c.in-Some-split_first.after.now in
    let x = c.index-plans-place.result in
    let q = c.in_ok-plan_part.field-0 in
    let size = c.loop-part.size in
    let rest : c.loop-part.rest.now ≡ part ∷ others = c.in-Some.ensures.cases.0 in
    let behind : c.loop-part.behind.now ≡ place ∷ after = c.in-Some-split_first.ensures.cases.0 in
    let lt : place < length plans = head_below (length plans) place after c.loop-part.behind.now behind c.loop-part.invariant.within in
    let here : slice_get plans place ≡ Some x = slice_get_read plans (length plans) place x refl lt c.index-plans-place.is in
    let next : c.join-size.result ≡ joined_size size x.size = c.join-size.ensures in
    let one : IsPartPlan wires size part x q = record { offset = c.in_ok-plan_part.ensures.offset; origins = c.in_ok-plan_part.ensures.origins; few = c.in_ok-plan_part.ensures.few } in
    let long_rest = ap length rest in
    let long_behind = ap length behind in
    let long = c.loop-part.invariant.long in
    record {
      parts = λ tail h.
          let more = part_plans_next wires plans size part others c.loop-part.rest.now place after c.loop-part.behind.now x q tail here rest behind one (subst (λ (s : Size). ArePartPlans wires s others (plans_at plans after) tail) next h) in
          subst (λ (t : List PartPlan). ArePartPlans wires c.args.own c.args.parts.now (plans_at plans c.args.rs.now) t) (sym (ap (λ (t : List PartPlan). t ++ tail) c.in_ok-push.ensures.items ∙ assoc c.loop-part.planned.items (q ∷ []) tail))
          (c.loop-part.invariant.parts (q ∷ tail) more);
      places = ap (λ (t : List PartPlan). places t ++ after) c.in_ok-push.ensures.items
          ∙ ap (λ (t : List ℕ). t ++ after) (places_more c.loop-part.planned.items q)
          ∙ assoc (places c.loop-part.planned.items) (q.place ∷ []) after
          ∙ ap (λ (r : ℕ). places c.loop-part.planned.items ++ r ∷ after) c.in_ok-plan_part.ensures.place
          ∙ ap (λ (t : List ℕ). places c.loop-part.planned.items ++ t) (sym behind)
          ∙ c.loop-part.invariant.places;
      small = joined_is_small size x.size c.join-size.result next;
      within = tail_below (length plans) place after c.loop-part.behind.now behind c.loop-part.invariant.within;
      long = omega arith;
    }

pub returns-clause-parts : goal.returns-clause-parts
returns-clause-parts c =
    let wires = wires_of c.args.wires.now in
    let plans = c.args.plans.now in
    let e : length c.loop-part.rest.now ≡ 0 = c.in_default.ensures.cases in
    subst (λ (t : List PartPlan). ArePartPlans wires c.args.own c.args.parts.now (plans_at plans c.args.rs.now) t) (nil_after c.loop-part.planned.items)
    (c.loop-part.invariant.parts [] (part_plans_end wires c.loop-part.size c.loop-part.rest.now (plans_at plans c.loop-part.behind.now) e))
