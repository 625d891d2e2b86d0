use Rattle.std.proofs.Common.{◌≡◌, ◌<◌, length, List, ℕ, refl, true, subst, arith, below_more}
use Rattle.std.proofs.lemmas.Option.{slice_get_within}
use Rattle.hdl_tree.specs.declared.tree.Pin.{Pin}
use Rattle.hdl_loops.specs.Inner.Pairs.{has_name}
use Rattle.hdl_loops.proofs.Lists.{item_is}
use Rattle.hdl_loops.proofs.PinsOf.{pin_of_bit}
use Rattle.hdl_loops.proofs.pairs.ends_of.Goals as goal

pub loop-pin-preserved : goal.loop-pin-preserved
loop-pin-preserved c =
    let pins = c.args.pins.now in
    let new = c.add_name.new.ends in
    let e = c.in_ok-add_name.ensures in
    below_more _ _ (λ j lt pin at. e.kept pin.name (c.loop-pin.invariant j lt pin at))
    (λ pin at. subst (λ (v : Pin). has_name new v.name ≡ true) (item_is pins pins c.loop-pin.pin-index c.pin-item.result pin refl c.loop-pin-test.true c.pin-item.is at) e.there)

pub returns : goal.returns
returns c = λ m k h.
    let pins = c.args.pins.now in
    let p = pin_of_bit pins m k h in
    let within : p.place < length pins = slice_get_within pins p.place p.pin p.there in
    let lt : p.place < c.loop-pin.pin-index = omega arith in
    subst (λ (v : List ℕ). has_name c.loop-pin.ends v ≡ true) p.named (c.loop-pin.invariant p.place lt p.pin p.there)
