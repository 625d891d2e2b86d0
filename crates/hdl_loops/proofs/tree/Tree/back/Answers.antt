use Rattle.std.proofs.Common.{rules, ◌≡◌, ◌<◌, [], ◌∷◌, List, length, get_or, Option, Some, None, ℕ, reverse, sym, ap, subst, ◌∙◌}
use Rattle.std.specs.Prelude.{slice_get}
use Rattle.std.proofs.lemmas.List.{reverse-append}
use Rattle.hdl_loops.specs.Inner.Bundles.{hops_in}
use Rattle.hdl_loops.specs.Inner.Hops.{bit}
use Rattle.hdl_loops.specs.Inner.Trees.{IsBack}
use Rattle.hdl_loops.specs.declared.hops.Hop.{Hop}
use Rattle.hdl_loops.specs.declared.tree.Node.{Node}
use Rattle.hdl_loops.proofs.Growing.{back_start, back_more, back_smaller, back_within, back_way}
use Rattle.hdl_loops.proofs.Lists.{there_at, get_there}
use Rattle.hdl_loops.proofs.Parting.{not_some}
use Rattle.hdl_loops.proofs.tree.Tree.back.Goals as goal

pub loop-at-init : goal.loop-at-init
loop-at-init c = λ node e. subst (λ (v : List Hop). IsBack (hops_in c.args.graph.now) c.args.self.now (Some c.args.last) (reverse v) (bit node.hop.to)) (sym c.new-way.ensures.items) (back_start (hops_in c.args.graph.now) c.args.self.now c.args.last node e)

pub bounds-nodes-place : goal.bounds-nodes-place
bounds-nodes-place c =
    let t = c.args.self.now in
    let last = there_at t.nodes.items c.args.last c.requires.there in
    let b : IsBack (hops_in c.args.graph.now) t (Some c.in-Some.place) (reverse c.loop-at.way.items) (bit last.0.hop.to) = subst (λ (o : Option ℕ). IsBack (hops_in c.args.graph.now) t o (reverse c.loop-at.way.items) (bit last.0.hop.to)) c.in-Some.is (c.loop-at.invariant last.0 last.1) in
    subst (λ (v : List Node). c.in-Some.place < length v) (sym c.as_slice-nodes.ensures.value) (back_within (hops_in c.args.graph.now) t c.in-Some.place (reverse c.loop-at.way.items) (bit last.0.hop.to) b)

pub returns : goal.returns
returns c = λ node e.
    let t = c.args.self.now in
    let b : IsBack (hops_in c.args.graph.now) t None (reverse c.loop-at.way.items) (bit node.hop.to) = subst (λ (o : Option ℕ). IsBack (hops_in c.args.graph.now) t o (reverse c.loop-at.way.items) (bit node.hop.to)) (not_some _ c.in_default.not-Some) (c.loop-at.invariant node e) in
    back_way (hops_in c.args.graph.now) t (reverse c.loop-at.way.items) (bit node.hop.to) c.requires.right b

pub loop-at-preserved : goal.loop-at-preserved
loop-at-preserved c = λ node e.
    let hs = hops_in c.args.graph.now in
    let t = c.args.self.now in
    let list = c.as_slice-nodes.result.now in
    let place = c.in-Some.place in
    let same : list ≡ t.nodes.items = c.as_slice-nodes.ensures.value in
    let b : IsBack hs t (Some place) (reverse c.loop-at.way.items) (bit node.hop.to) = subst (λ (o : Option ℕ). IsBack hs t o (reverse c.loop-at.way.items) (bit node.hop.to)) c.in-Some.is (c.loop-at.invariant node e) in
    let within : place < length list = subst (λ (v : List Node). place < length v) (sym same) (back_within hs t place (reverse c.loop-at.way.items) (bit node.hop.to) b) in
    back_more hs t place (get_or list place _) (reverse c.loop-at.way.items) (reverse c.push.new.self.items) (bit node.hop.to) c.requires.right (ap (λ (v : List Node). slice_get v place) (sym same) ∙ get_there list place _ within)
    (ap reverse c.in_ok-push.ensures.items ∙ reverse-append c.loop-at.way.items ((get_or list place _).hop ∷ [])) b

pub loop-at-smaller : goal.loop-at-smaller
loop-at-smaller c =
    let hs = hops_in c.args.graph.now in
    let t = c.args.self.now in
    let list = c.as_slice-nodes.result.now in
    let place = c.in-Some.place in
    let same : list ≡ t.nodes.items = c.as_slice-nodes.ensures.value in
    let last = there_at t.nodes.items c.args.last c.requires.there in
    let b : IsBack hs t (Some place) (reverse c.loop-at.way.items) (bit last.0.hop.to) = subst (λ (o : Option ℕ). IsBack hs t o (reverse c.loop-at.way.items) (bit last.0.hop.to)) c.in-Some.is (c.loop-at.invariant last.0 last.1) in
    let within : place < length list = subst (λ (v : List Node). place < length v) (sym same) (back_within hs t place (reverse c.loop-at.way.items) (bit last.0.hop.to) b) in
    back_smaller hs t place list _ c.loop-at.way.items c.push.new.self.items c.loop-at.at c.requires.right same within c.in-Some.is c.in_ok-push.ensures.items

pub offset_bounds-nodes-place : goal.offset_bounds-nodes-place
offset_bounds-nodes-place c =
    let h : c.in-Some.place < length c.as_slice-nodes.result.now = bounds-nodes-place c in search rules
