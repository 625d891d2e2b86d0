use Rattle.std.proofs.Common.{◌≡◌, ℕ, ◌<◌, true, length, List, Some, refl, sym, ap, subst, ◌∙◌, arith, below_more}
use Rattle.std.specs.Prelude.{slice_get}
use Rattle.std.proofs.lemmas.Option.{slice_get_read, slice_get_within}
use Rattle.hdl_loops.specs.Inner.Hops.{bit}
use Rattle.hdl_loops.specs.Inner.Bundles.{hop_by, hops_in}
use Rattle.hdl_loops.specs.Inner.Ties.{In}
use Rattle.hdl_loops.specs.Inner.Trees.{is_marked, IsReached, LeftBefore}
use Rattle.hdl_loops.specs.declared.bundle.Bundle.{Bundle}
use Rattle.hdl_loops.specs.declared.hops.Hop.{Hop}
use Rattle.hdl_loops.specs.declared.joint.Joint.{Joint}
use Rattle.hdl_loops.proofs.Bundling.{hop_there}
use Rattle.hdl_loops.proofs.Dooring.{door_within, door_bit}
use Rattle.hdl_loops.proofs.Growing.{keeps_on, reached_kept, before_kept}
use Rattle.hdl_loops.proofs.Lists.{get_in, in_get, there_at, item_got}
use Rattle.hdl_loops.proofs.tree.Tree.pass.Goals as goal

pub loop-leave-preserved : goal.loop-leave-preserved
loop-leave-preserved c =
    let graph = c.args.graph.now in
    let door = c.args.door in
    let own = c.index-graph-door.result in
    let opens = c.requires.opens in
    let within = slice_get_within graph door.bundle opens.1.bundle opens.1.there in
    let there : slice_get graph door.bundle ≡ Some own = slice_get_read graph (length graph) door.bundle own refl within c.index-graph-door.is in
    let enter = c.index-enter.result.now in
    let under = door_within graph door (bit c.args.from.now) own enter opens there in
    let here : slice_get own.enters.items door.enter ≡ Some enter = slice_get_read own.enters.items (length own.enters.items) door.enter enter refl under c.index-enter.ensures in
    let from = door_bit graph door (bit c.args.from.now) own enter opens there here in
    let list = c.as_slice-leaves.result.now in
    let value = c.as_slice-leaves.ensures.value in
    let k = c.loop-leave.leave-index in
    let lt : k < length list = omega arith in
    let leave = there_at list k lt in
    let is : c.hop_by.result ≡ hop_by own.chip enter leave.0 = c.hop_by.ensures ∙ ap (hop_by own.chip enter) (item_got list list k _ leave.0 refl lt leave.1) in
    let starts : bit c.hop_by.result.from ≡ bit c.args.from.now = ap (λ (h : Hop). bit h.from) is ∙ from in
    let inside : In c.hop_by.result (hops_in graph) = subst (λ (h : Hop). In h (hops_in graph)) (sym is) (hop_there graph door.bundle door.enter own enter leave.0 there here (subst (In leave.0) value (get_in list k leave.0 leave.1))) in
    let t = c.loop-leave.self in
    let u = c.follow.new.self in
    let inv = c.loop-leave.invariant in
    let e = c.in_ok-follow.ensures in
    let marked : is_marked u (bit c.hop_by.result.to) ≡ true = e.followed (subst (IsReached t) (sym starts) inv.reached) in
    record {
      right = e.right (hops_in graph) inside inv.right (subst (LeftBefore (hops_in graph) t) (sym starts) inv.before);
      kept = keeps_on c.args.self.now t u inv.kept e.kept;
      passed = e.passed ∙ inv.passed;
      reached = reached_kept t u c.args.from.now.name.now c.args.from.now.bit e.kept inv.reached;
      before = before_kept (hops_in graph) t u inv.right e.kept c.args.from.now inv.reached inv.before;
      there =
          below_more (λ (j : ℕ). (a : Joint) → slice_get list j ≡ Some a → is_marked u (bit a.net) ≡ true) k (λ i below a at. e.kept.marks a.net.name.now a.net.bit (inv.there i below a at))
          (λ a at. (let same : leave.0 ≡ a = (let l = leave.1 in cc) in ap (λ (v : Joint). is_marked u (bit v.net)) (sym same) ∙ (ap (λ (h : Hop). is_marked u (bit h.to)) (sym is) ∙ marked)));
    }

pub returns-clause-there : goal.returns-clause-there
returns-clause-there c = λ b a at i.
    let graph = c.args.graph.now in
    let own = c.index-graph-door.result in
    let opens = c.requires.opens in
    let door = c.args.door in
    let within = slice_get_within graph door.bundle opens.1.bundle opens.1.there in
    let there : slice_get graph door.bundle ≡ Some own = slice_get_read graph (length graph) door.bundle own refl within c.index-graph-door.is in
    let same : own ≡ b = cc in
    let list = c.as_slice-leaves.result.now in
    let value : list ≡ b.leaves.items = c.as_slice-leaves.ensures.value ∙ ap (λ (v : Bundle). v.leaves.items) same in
    let p = in_get b.leaves.items a i in
    let here : slice_get list p.0 ≡ Some a = ap (λ (v : List Joint). slice_get v p.0) value ∙ p.1 in
    let under = slice_get_within list p.0 a here in
    c.loop-leave.invariant.there p.0 (omega (arith, under)) a here
