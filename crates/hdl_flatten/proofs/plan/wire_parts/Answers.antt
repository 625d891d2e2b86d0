use Rattle.std.proofs.Common.{◌≡◌, ◌<◌, ◌∷◌, ◌++◌, List, length, Some, refl, ap, subst, ◌∙◌}
use Rattle.std.specs.Prelude.{slice_get}
use Rattle.std.proofs.lemmas.Option.{slice_get_read, slice_get_within}
use Rattle.hdl_tree.specs.declared.tree.Connection.{Connection}
use Rattle.hdl_check.specs.Faults.{ports_of}
use Rattle.hdl_flatten.specs.declared.size.Size.{Size}
use Rattle.hdl_flatten.specs.Inner.Sizes.{joined_size}
use Rattle.hdl_flatten.specs.Inner.Wired.{wires_of, found_bit, FindsMore}
use Rattle.hdl_flatten.specs.Inner.Plans.{all_driven, parts_driven, plans_at}
use Rattle.hdl_flatten.proofs.Planning.{front_more, driven_next, tail_below, head_below, joined_is_small}
use Rattle.hdl_flatten.proofs.plan.wire_parts.Goals as goal

pub ports_at-requires-clause-there : goal.ports_at-requires-clause-there
ports_at-requires-clause-there c =
    let plans = c.args.plans.now in
    let place = c.in-Some-split_first.place.now in
    let x = c.index-plans-place.result in
    let behind : c.loop-part.behind.now ≡ place ∷ c.in-Some-split_first.after.now = c.in-Some-split_first.ensures.cases.0 in
    let lt : place < length plans = head_below (length plans) place c.in-Some-split_first.after.now c.loop-part.behind.now behind c.loop-part.invariant.within in
    let here : slice_get plans place ≡ Some x = slice_get_read plans (length plans) place x refl lt c.index-plans-place.is in
    slice_get_within c.args.catalog.now.entries.now x.number x.entry.now (c.requires.plans.there place x here)

pub loop-part-preserved : goal.loop-part-preserved
loop-part-preserved c =
    let plans = c.args.plans.now in
    let part = c.in-Some.part.now in
    let others = c.in-Some.others.now in
    let place = c.in-Some-split_first.place.now in
    let after = c.in-Some-split_first.after.now in
    let x = c.index-plans-place.result in
    let size = c.loop-part.size in
    let rest : c.loop-part.rest.now ≡ part ∷ others = c.in-Some.ensures.cases.0 in
    let behind : c.loop-part.behind.now ≡ place ∷ after = c.in-Some-split_first.ensures.cases.0 in
    let lt : place < length plans = head_below (length plans) place after c.loop-part.behind.now behind c.loop-part.invariant.within in
    let here : slice_get plans place ≡ Some x = slice_get_read plans (length plans) place x refl lt c.index-plans-place.is in
    let next : c.join-size.result ≡ joined_size size x.size = c.join-size.ensures in
    let ports = ports_of x.entry.now.chip in
    let finds = c.ports_at.ensures x.entry.now (c.requires.plans.there place x here) in
    let more : FindsMore (wires_of c.loop-part.wires) (wires_of c.drive_all.new.wires) (all_driven (wires_of x.wires) size.nodes ports part.connections) =
    subst (λ (cs : List Connection). FindsMore (wires_of c.loop-part.wires) (wires_of c.drive_all.new.wires) (all_driven (wires_of x.wires) size.nodes ports cs)) c.as_slice.ensures (c.in_ok-drive_all.ensures ports finds) in
    record {
      wires = λ name bit.
          ap (λ (s : Size). found_bit name bit (wires_of c.drive_all.new.wires ++ parts_driven s others (plans_at plans after))) next
          ∙ front_more (wires_of c.loop-part.wires) (wires_of c.drive_all.new.wires) (all_driven (wires_of x.wires) size.nodes ports part.connections) (parts_driven (joined_size size x.size) others (plans_at plans after)) more name bit
          ∙ ap (λ t. found_bit name bit (wires_of c.loop-part.wires ++ t)) (driven_next plans size part others c.loop-part.rest.now place after c.loop-part.behind.now x here rest behind)
          ∙ c.loop-part.invariant.wires name bit;
      small = joined_is_small size x.size c.join-size.result next;
      within = tail_below (length plans) place after c.loop-part.behind.now behind c.loop-part.invariant.within;
    }
