use Rattle.std.proofs.Common.{◌≡◌, true, false, List, Option, sym, ap, subst, ◌∙◌}
use Rattle.std.specs.Prelude.{MatchOption}
use Rattle.std.specs.declared.vec.Vec.{Vec}
use Rattle.std.specs.declared.alloc.Global.{Global}
use Rattle.hdl_plans.specs.Ways.{Way}
use Rattle.hdl_loops.specs.Inner.Hops.{bit, HasHop, IsWay}
use Rattle.hdl_loops.specs.Inner.Bundles.{hops_in}
use Rattle.hdl_loops.specs.Inner.Trees.{is_marked}
use Rattle.hdl_loops.specs.declared.hops.Hop.{Hop}
use Rattle.hdl_loops.proofs.Growing.{way_marked}
use Rattle.hdl_loops.proofs.known.Known.way.Goals as goal

pub unreachable-requires : goal.unreachable-requires
unreachable-requires c =
    let hs = hops_in c.as_slice-graph.result.now in
    let x = bit c.args.input.now in
    let y = bit c.args.to.now in
    let tree = c.in_ok-tree.tree in
    let none : is_marked tree y ≡ false = subst (λ (r : Option (Vec Hop Global)). MatchOption r (is_marked tree y ≡ false) (λ v. IsWay hs (bit tree.root) v.items y)) c.in-None.is c.in_ok-way_to.ensures in
    let w : Way (HasHop hs) x y = subst (λ (v : List Hop). Way (HasHop v) x y) (ap hops_in (sym c.as_slice-graph.ensures.value)) c.requires.leads in
    let there : is_marked tree y ≡ true = way_marked hs tree x y c.in_ok-tree.ensures w in
    let h : true ≡ false = sym there ∙ none in
    cc
