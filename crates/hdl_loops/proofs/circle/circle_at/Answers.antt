use Rattle.std.proofs.Common.{◌≡◌, true, false, Option, sym, subst, ◌∙◌}
use Rattle.std.specs.Prelude.{MatchOption}
use Rattle.std.specs.declared.vec.Vec.{Vec}
use Rattle.std.specs.declared.alloc.Global.{Global}
use Rattle.hdl_plans.specs.Loops.{BitAt}
use Rattle.hdl_loops.specs.Inner.Hops.{bit, IsWay}
use Rattle.hdl_loops.specs.Inner.Bundles.{hops_in}
use Rattle.hdl_loops.specs.Inner.Trees.{is_marked}
use Rattle.hdl_loops.specs.declared.hops.Hop.{Hop}
use Rattle.hdl_loops.proofs.Growing.{way_marked}
use Rattle.hdl_loops.proofs.circle.circle_at.Goals as goal

pub returns-in-None : goal.returns-in-None
returns-in-None c = λ w.
    let hs = hops_in c.args.graph.now in
    let x = bit c.args.at in
    let tree = c.in_ok-tree.tree in
    let none : is_marked tree x ≡ false = subst (λ (r : Option (Vec Hop Global)). MatchOption r (is_marked tree x ≡ false) (λ v. IsWay hs (bit tree.root) v.items x)) c.in-None.is c.in_ok-way_to.ensures in
    let there : is_marked tree x ≡ true = way_marked hs tree x x c.in_ok-tree.ensures w in
    let h : true ≡ false = sym there ∙ none in
    cc

pub returns : goal.returns
returns c =
    let hs = hops_in c.args.graph.now in
    let x = bit c.args.at in
    let tree = c.in_ok-tree.tree in
    let is : IsWay hs (bit tree.root) c.in-Some.way.items x = subst (λ (r : Option (Vec Hop Global)). MatchOption r (is_marked tree x ≡ false) (λ v. IsWay hs (bit tree.root) v.items x)) c.in-Some.is c.in_ok-way_to.ensures in
    subst (λ (v : BitAt). IsWay hs v c.in-Some.way.items x) c.in_ok-tree.ensures.root is
