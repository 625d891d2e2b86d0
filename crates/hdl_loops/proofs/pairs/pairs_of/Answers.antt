use Rattle.std.proofs.Common.{◌<◌, ℕ, [], length, List, refl, subst, arith, below_more}
use Rattle.std.proofs.lemmas.Option.{slice_get_within}
use Rattle.hdl_tree.specs.declared.tree.Pin.{Pin}
use Rattle.hdl_plans.specs.Loops.{bit_at}
use Rattle.hdl_loops.specs.Inner.Bundles.{hops_in}
use Rattle.hdl_loops.specs.Inner.Pairs.{PinLeads, BitLeads}
use Rattle.hdl_loops.proofs.Lists.{item_is}
use Rattle.hdl_loops.proofs.Pairing.{leads_kept}
use Rattle.hdl_loops.proofs.PinsOf.{pin_of_bit}
use Rattle.hdl_loops.proofs.pairs.pairs_of.Goals as goal

pub loop-pin-preserved : goal.loop-pin-preserved
loop-pin-preserved c =
    let hs = hops_in c.args.graph.now in
    let ends = c.in_ok-ends.ends in
    let old = c.loop-pin.pairs.keys in
    let new = c.add_pin.new.pairs.keys in
    let e = c.in_ok-add_pin.ensures in
    let pins = c.args.first.now in
    record {
      right = e.right;
      there = below_more _ _ (λ j lt pin at b w. leads_kept hs ends old new (bit_at [] pin.name b) e.kept (c.loop-pin.invariant.there j lt pin at b w))
          (λ pin at. subst (λ (v : Pin). PinLeads hs ends new v) (item_is pins pins c.loop-pin.pin-index c.pin-item.result pin refl c.loop-pin-test.true c.pin-item.is at) e.there);
    }

pub returns-clause-there : goal.returns-clause-there
returns-clause-there c = λ n m b k from to way.
    let pins = c.args.first.now in
    let p = pin_of_bit pins n b from in
    let within : p.place < length pins = slice_get_within pins p.place p.pin p.there in
    let lt : p.place < c.loop-pin.pin-index = omega arith in
    let leads : BitLeads (hops_in c.args.graph.now) c.in_ok-ends.ends c.loop-pin.pairs.keys (bit_at [] n b) =
    subst (λ (v : List ℕ). BitLeads (hops_in c.args.graph.now) c.in_ok-ends.ends c.loop-pin.pairs.keys (bit_at [] v b)) p.named (c.loop-pin.invariant.there p.place lt p.pin p.there b (subst (λ w. b < w) p.wide from.below)) in
    leads m k (c.in_ok-ends.ensures m k to) way
