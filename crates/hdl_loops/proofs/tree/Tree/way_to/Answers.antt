use Rattle.std.proofs.Common.{List, reverse, sym, subst}
use Rattle.std.proofs.lemmas.Option.{slice_get_within}
use Rattle.hdl_plans.specs.Loops.{BitAt}
use Rattle.hdl_loops.specs.Inner.Bundles.{hops_in}
use Rattle.hdl_loops.specs.Inner.Hops.{bit, IsWay}
use Rattle.hdl_loops.specs.declared.hops.Hop.{Hop}
use Rattle.hdl_loops.proofs.tree.Tree.way_to.Goals as goal

pub back-requires-clause-there : goal.back-requires-clause-there
back-requires-clause-there c =
    let p = c.requires.places c.args.to.now.name.now c.args.to.now.bit c.in-Some.place.now (sym c.in-Some.ensures.value) in
    slice_get_within c.args.self.now.nodes.items c.in-Some.place.now p.0 p.1

pub returns-in_ok-way-in-Some : goal.returns-in_ok-way-in-Some
returns-in_ok-way-in-Some c =
    let hs = hops_in c.args.graph.now in
    let root = bit c.args.self.now.root in
    let p = c.requires.places c.args.to.now.name.now c.args.to.now.bit c.in-Some.place.now (sym c.in-Some.ensures.value) in
    subst (λ (v : List Hop). IsWay hs root v (bit c.args.to.now)) (sym c.reverse.ensures.items)
    (subst (λ (v : BitAt). IsWay hs root (reverse c.in_ok-way-in-Some.way.items) v) p.2 (c.in_ok-way-in-Some.ensures p.0 p.1))
