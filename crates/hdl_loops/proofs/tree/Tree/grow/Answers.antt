use Rattle.std.proofs.Common.{◌≡◌, ◌<◌, ◌≤◌, inl, inr, length, Some, refl, sym, subst, ◌∙◌, arith}
use Rattle.std.proofs.Math.Nat.{eq-or-lt_of_le}
use Rattle.std.specs.Prelude.{slice_get}
use Rattle.std.proofs.lemmas.Option.{slice_get_read}
use Rattle.hdl_loops.specs.Inner.Bundles.{hops_in}
use Rattle.hdl_loops.specs.Inner.Hops.{bit}
use Rattle.hdl_loops.specs.Inner.Trees.{IsLeft, LeftBelow}
use Rattle.hdl_loops.proofs.Growing.{left_kept, left_more, all_left}
use Rattle.hdl_loops.proofs.tree.Tree.grow.Goals as goal

pub loop-k-preserved : goal.loop-k-preserved
loop-k-preserved c =
    let hs = hops_in c.args.graph.now in
    let t = c.loop-k.self in
    let u = c.follow_from-in-loop-k.new.self in
    let k = c.loop-k.k in
    let inv = c.loop-k.invariant in
    let e = c.in_ok-follow_from-2.ensures in
    let item = c.index.result.now in
    let lt : k < length t.nodes.items = omega arith in
    let there : slice_get t.nodes.items k ≡ Some item = slice_get_read t.nodes.items (length t.nodes.items) k item refl lt c.index.ensures in
    let here : IsLeft hs u (bit item.hop.to) = e.left in
    record {
      right = e.right;
      passed = e.passed;
      same = e.kept.root ∙ inv.same;
      root = subst (IsLeft hs u) (sym e.kept.root) (left_kept hs t u (bit t.root) e.kept inv.root);
      left = λ j node less at. left_more hs t u k item e.kept there here inv.left j node (eq-or-lt_of_le (omega (arith, less))) at;
    }

pub returns-clause-closed : goal.returns-clause-closed
returns-clause-closed c =
    let t = c.loop-k.self in
    let le : length t.nodes.items ≤ c.loop-k.k = omega arith in
    all_left (hops_in c.args.graph.now) t c.loop-k.k c.loop-k.invariant.right le c.loop-k.invariant.root c.loop-k.invariant.left

pub follow_from-requires-clause-before : goal.follow_from-requires-clause-before
follow_from-requires-clause-before c = λ j come. absurd (come.1 refl)

pub follow_from-requires-clause-reached : goal.follow_from-requires-clause-reached
follow_from-requires-clause-reached c = inl refl

pub follow_from-requires-in-loop-k-clause-reached : goal.follow_from-requires-in-loop-k-clause-reached
follow_from-requires-in-loop-k-clause-reached c =
    let t = c.loop-k.self in
    let k = c.loop-k.k in
    let item = c.index.result.now in
    let lt : k < length t.nodes.items = omega arith in
    inr (c.loop-k.invariant.right.nodes k item (slice_get_read t.nodes.items (length t.nodes.items) k item refl lt c.index.ensures)).marked

pub follow_from-requires-in-loop-k-clause-before : goal.follow_from-requires-in-loop-k-clause-before
follow_from-requires-in-loop-k-clause-before c = λ j come.
    let t = c.loop-k.self in
    let k = c.loop-k.k in
    let inv = c.loop-k.invariant in
    let item = c.index.result.now in
    let lt : k < length t.nodes.items = omega arith in
    let own = (inv.right.nodes k item (slice_get_read t.nodes.items (length t.nodes.items) k item refl lt c.index.ensures)).own in
    let at = come.0 in
    let same : k ≡ j = cc in
    subst (LeftBelow (hops_in c.args.graph.now) t) same (record { root = inv.root; nodes = inv.left })
