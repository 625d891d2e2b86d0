use Rattle.std.proofs.Common.{◌≡◌, ◌<◌, ◌∷◌, length, Some, refl, sym, ap, ◌∙◌}
use Rattle.std.specs.Prelude.{slice_get}
use Rattle.std.proofs.lemmas.Option.{slice_get_read}
use Rattle.hdl_flatten.specs.declared.size.Size.{Size}
use Rattle.hdl_flatten.specs.declared.plan.Plan.{Plan}
use Rattle.hdl_flatten.specs.Inner.Sizes.{joined_size}
use Rattle.hdl_flatten.specs.Inner.Plans.{all_sized, plans_at}
use Rattle.hdl_flatten.proofs.Planning.{sized_next, tail_below, head_below, joined_is_small}
use Rattle.hdl_flatten.proofs.plan.size_with.Goals as goal

pub loop-place-preserved : goal.loop-place-preserved
loop-place-preserved c =
    let plans = c.args.plans.now in
    let place = c.in-Some.place.now in
    let others = c.in-Some.others.now in
    let x = c.index-plans-place.result in
    let size = c.loop-place.size in
    let rest : c.loop-place.rest.now ≡ place ∷ others = c.in-Some.ensures.cases.0 in
    let lt : place < length plans = head_below (length plans) place others c.loop-place.rest.now rest c.loop-place.invariant.within in
    let here : slice_get plans place ≡ Some x = slice_get_read plans (length plans) place x refl lt c.index-plans-place.is in
    let next : c.join-size.result ≡ joined_size size x.size = c.join-size.ensures ∙ ap (λ (y : Plan). joined_size size y.size) (sym c.index-plans-place.is) in
    record {
      sum = ap (λ (s : Size). all_sized s (plans_at plans others)) next ∙ sized_next plans size place others c.loop-place.rest.now x here rest ∙ c.loop-place.invariant.sum;
      small = joined_is_small size x.size c.join-size.result next;
      within = tail_below (length plans) place others c.loop-place.rest.now rest c.loop-place.invariant.within;
    }
