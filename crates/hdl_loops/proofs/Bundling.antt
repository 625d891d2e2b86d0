-- The hops of bundles, one by one.
use Rattle.std.proofs.Common.{◌≡◌, ℕ, ◌<◌, List, [], ◌∷◌, map, Option, Some, refl, sym, ap, subst, ◌∙◌, arith}
use Rattle.std.specs.Prelude.{slice_get}
use Rattle.hdl_plans.specs.Loops.{BitAt}
use Rattle.hdl_plans.specs.Ways.{Way}
use Rattle.hdl_loops.specs.Inner.Hops.{bit, HasHop, NoRound}
use Rattle.hdl_loops.specs.Inner.Bundles.{hop_by, bundle_hops, hops_in, turn}
use Rattle.hdl_loops.specs.Inner.Ranked.{rank_at, Rise, HopRises, AllRise, BundleRises}
use Rattle.hdl_loops.specs.Inner.Ties.{In}
use Rattle.hdl_loops.specs.declared.bundle.Bundle.{Bundle}
use Rattle.hdl_loops.specs.declared.hops.Hop.{Hop}
use Rattle.hdl_loops.specs.declared.joint.Joint.{Joint}
use Rattle.hdl_loops.specs.declared.ranks.Ranks.{Ranks}
use Rattle.hdl_loops.proofs.Growing.{no_round}
use Rattle.hdl_loops.proofs.Lists.{in_gather, gathered, get_in, in_get, in_map, mapped, map_at}

-- a hop of a graph goes into a bundle by one joint and out by another
pub record InBundle (bs : List Bundle) (h : Hop) : Type 0 where
  pub g : ℕ
  pub j : ℕ
  pub bundle : Bundle
  pub enter : Joint
  pub leave : Joint
  pub there : slice_get bs g ≡ Some bundle
  pub enters : slice_get bundle.enters.items j ≡ Some enter
  pub leaves : In leave bundle.leaves.items
  pub is : hop_by bundle.chip enter leave ≡ h

pub bundle_of : (bs : List Bundle) (h : Hop) → In h (hops_in bs) → InBundle bs h
bundle_of bs h i =
    let b = gathered bundle_hops bs h i in
    let e = gathered (λ (a : Joint). map (hop_by b.item.chip a) b.item.leaves.items) b.item.enters.items h b.made in
    let l = mapped (hop_by b.item.chip e.item) b.item.leaves.items h e.made in
    let p = in_get bs b.item b.there in
    let q = in_get b.item.enters.items e.item e.there in
    record { g = p.0; j = q.0; bundle = b.item; enter = e.item; leave = l.0; there = p.1; enters = q.1; leaves = l.1; is = l.2 }

pub hop_there : (bs : List Bundle) (g j : ℕ) (b : Bundle) (e l : Joint) → slice_get bs g ≡ Some b → slice_get b.enters.items j ≡ Some e → In l b.leaves.items → In (hop_by b.chip e l) (hops_in bs)
hop_there bs g j b e l at here i =
    let h = hop_by b.chip e l in
    in_gather bundle_hops bs b h (get_in bs g b at)
    (in_gather (λ (a : Joint). map (hop_by b.chip a) b.leaves.items) b.enters.items e h (get_in b.enters.items j e here) (in_map (hop_by b.chip e) b.leaves.items l i))

-- ranks that rise along the hops of each bundle rise along each hop
pub all_rise : (r : Ranks) (bs : List Bundle) → ((g : ℕ) (b : Bundle) → slice_get bs g ≡ Some b → BundleRises r b) → AllRise r (hops_in bs)
all_rise r bs rises p h e =
    let i = bundle_of bs h (get_in (hops_in bs) p h e) in
    let u = rises i.g i.bundle i.there in
    let low = u.below i.enter (get_in i.bundle.enters.items i.j i.enter i.enters) in
    let high = u.above i.leave i.leaves in
    let under = low.2 in
    let over = high.2 in
    let less : low.0 < high.0 = omega (arith, under, over) in
    subst (HopRises r) i.is
    (subst (λ (o : Option ℕ). Rise o (rank_at r (bit i.leave.net))) (sym low.1) (subst (λ (o : Option ℕ). Rise (Some low.0) o) (sym high.1) less))

-- no way round begins with a joint of a bundle: there is none
pub no_round_in : (bs : List Bundle) → ((g : ℕ) (b : Bundle) → slice_get bs g ≡ Some b → (e : Joint) → In e b.enters.items → Way (HasHop (hops_in bs)) (bit e.net) (bit e.net) → ⊥) → NoRound (hops_in bs)
no_round_in bs none = no_round (hops_in bs) (λ p h e w.
    let i = bundle_of bs h (get_in (hops_in bs) p h e) in
    none i.g i.bundle i.there i.enter (get_in i.bundle.enters.items i.j i.enter i.enters) (subst (λ (v : Hop). Way (HasHop (hops_in bs)) (bit v.from) (bit v.from)) (sym i.is) w))

-- ---- the other way

pub turned_twice : (bs : List Bundle) → map turn (map turn bs) ≡ bs
turned_twice [] = refl
turned_twice (b ∷ bs) = ap (λ (v : List Bundle). b ∷ v) (turned_twice bs)

pub hop_back : (bs : List Bundle) (x y : BitAt) → HasHop (hops_in bs) x y → HasHop (hops_in (map turn bs)) y x
hop_back bs x y s =
    let i = bundle_of bs s.1 (get_in (hops_in bs) s.0 s.1 s.2) in
    let q = in_get i.bundle.leaves.items i.leave i.leaves in
    let h = hop_by i.bundle.chip i.leave i.enter in
    let at = map_at turn bs i.g i.bundle i.there in
    let there = hop_there (map turn bs) i.g q.0 (turn i.bundle) i.leave i.enter at q.1 (get_in i.bundle.enters.items i.j i.enter i.enters) in
    let r = in_get (hops_in (map turn bs)) h there in
    (r.0, h, r.1, ap (λ (v : Hop). bit v.to) i.is ∙ s.4, ap (λ (v : Hop). bit v.from) i.is ∙ s.3)

pub hop_forth : (bs : List Bundle) (x y : BitAt) → HasHop (hops_in (map turn bs)) y x → HasHop (hops_in bs) x y
hop_forth bs x y s = subst (λ (v : List Bundle). HasHop (hops_in v) x y) (turned_twice bs) (hop_back (map turn bs) y x s)
