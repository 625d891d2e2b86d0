-- A way in the own graph of a chip is one of hops, and what was seen of a chip is right.
use Rattle.std.proofs.Common.{◌≡◌, ℕ, ◌<◌, ◌⊎◌, inl, inr, Bool, true, false, List, [], ◌∷◌, Option, Some, None, refl, sym, ap, subst, ◌∙◌}
use Rattle.std.specs.Prelude.{slice_get, is_some}
use Rattle.hdl_tree.specs.declared.tree.Part.{Part}
use Rattle.hdl_tree.specs.declared.library.Entry.{Entry}
use Rattle.hdl_tree.specs.declared.ends.End.{End}
use Rattle.hdl_tree.specs.Chips.{Chips, end_of, find_chip, parts_of, count}
use Rattle.hdl_tree.specs.Behaviour.{chip_of, inner_chip, width_of}
use Rattle.hdl_plans.specs.Plans.{is_input}
use Rattle.hdl_plans.specs.Loops.{BitAt, bit_at, IsLoop}
use Rattle.hdl_plans.specs.Ways.{Chain, Way, HasBit, Depends, TreeFits, Joined, Across, Own, OwnAt, OwnCircle}
use Rattle.hdl_plans.proofs.Circles.{own_way, circle_to_own}
use Rattle.hdl_plans.proofs.Walks.{at_part, part_at, joined_inner, one_step, step_way}
use Rattle.hdl_loops.specs.Inner.Hops.{HasHop, NoRound}
use Rattle.hdl_loops.specs.Inner.Ties.{In, tie, ties_in, gather}
use Rattle.hdl_loops.specs.Inner.Bundles.{AreDoors}
use Rattle.hdl_loops.specs.Inner.Knowing.{hops_of, leads, crosses, crosses_by, crosses_in, place_of, IsGraph, IsFull, IsRight, AreKnown, IsDone, PartsDone, TreeClear}
use Rattle.hdl_loops.specs.declared.hops.Hop.{Hop}
use Rattle.hdl_loops.specs.declared.known.Known.{Known}
use Rattle.hdl_loops.proofs.Ends.{end_clear, end_depends}
use Rattle.hdl_loops.proofs.Hopping.{tie_there, graph_hops, graph_has}
use Rattle.hdl_loops.proofs.Placing.{place_found, place_there}

pub inner_fits : (chips : Chips) (chip : Entry) (i : ℕ) (inner : Entry) → inner_chip chips chip i ≡ Some inner → TreeFits chips chip → TreeFits chips inner
inner_fits chips chip i inner found fit q c h = fit (i ∷ q) c (part_at chips chip i q inner c found h)

-- ---- parts

pub record PartAt (chips : Chips) (chip : Entry) (i : ℕ) (inner : Entry) : Type 0 where
  pub part : Part
  pub k : ℕ
  pub there : slice_get (parts_of chips chip) i ≡ Some part
  pub found : find_chip chips part.chip ≡ Some inner
  pub placed : place_of chips.entries part.chip ≡ Some k
  pub at : slice_get chips.entries k ≡ Some inner

part_by : (chips : Chips) (chip : Entry) (i : ℕ) (inner : Entry) (o : Option Part) → slice_get (parts_of chips chip) i ≡ o → chip_of chips o ≡ Some inner → PartAt chips chip i inner
part_by chips chip i inner None e h = absurd cc
part_by chips chip i inner (Some part) e h =
    let p = place_there chips.entries part.chip inner h in
    record { part = part; k = p.0; there = e; found = h; placed = p.1; at = sym (place_found chips.entries part.chip p.0 p.1) ∙ h }

pub part_of : (chips : Chips) (chip : Entry) (i : ℕ) (inner : Entry) → inner_chip chips chip i ≡ Some inner → PartAt chips chip i inner
part_of chips chip i inner h = part_by chips chip i inner (slice_get (parts_of chips chip) i) refl h

-- the part's chip leads from an input to an output that depends on it
crosses_by_end : (chips : Chips) (known : List (Option Known)) (k : ℕ) (inner : Entry) (o : Option End) → slice_get chips.entries k ≡ Some inner → end_of chips.memories inner ≡ o → TreeFits chips inner → AreKnown chips known → IsDone chips known k →
    (n m : List ℕ) (b l : ℕ) → Depends chips inner n b m l → crosses_by o (slice_get known k) (bit_at [] n b) (bit_at [] m l) ≡ true
crosses_by_end chips known k inner (Some e) at is fit right done n m b l d = end_depends chips inner e is n m b l d
crosses_by_end chips known k inner None at is fit right done n m b l d =
    let r = done inner at is in
    ap (λ (o : Option (Option Known)). crosses_by None o (bit_at [] n b) (bit_at [] m l)) r.1 ∙ (right k inner r.0 at r.1).covers fit n m b l d

pub depends_cross : (chips : Chips) (known : List (Option Known)) (k : ℕ) (inner : Entry) → slice_get chips.entries k ≡ Some inner → TreeFits chips inner → AreKnown chips known → IsDone chips known k →
    (n m : List ℕ) (b l : ℕ) → Depends chips inner n b m l → crosses chips known k (bit_at [] n b) (bit_at [] m l) ≡ true
depends_cross chips known k inner at fit right done n m b l d =
    ap (λ (o : Option Entry). crosses_in chips o (slice_get known k) (bit_at [] n b) (bit_at [] m l)) at ∙ crosses_by_end chips known k inner (end_of chips.memories inner) at refl fit right done n m b l d

clear_by_end : (chips : Chips) (known : List (Option Known)) (k : ℕ) (inner : Entry) (o : Option End) → slice_get chips.entries k ≡ Some inner → end_of chips.memories inner ≡ o → TreeFits chips inner → AreKnown chips known → IsDone chips known k → TreeClear chips inner
clear_by_end chips known k inner (Some e) at is fit right done = end_clear chips inner e is
clear_by_end chips known k inner None at is fit right done = let r = done inner at is in (right k inner r.0 at r.1).clear fit

pub done_clear : (chips : Chips) (known : List (Option Known)) (k : ℕ) (inner : Entry) → slice_get chips.entries k ≡ Some inner → TreeFits chips inner → AreKnown chips known → IsDone chips known k → TreeClear chips inner
done_clear chips known k inner at fit right done = clear_by_end chips known k inner (end_of chips.memories inner) at refl fit right done

-- ---- ways

-- a step from a bit of the chip goes into a part
record Enters (chips : Chips) (chip : Entry) (p n : List ℕ) (b : ℕ) (m : List ℕ) (k : ℕ) : Type 0 where
  i : ℕ
  path : p ≡ i ∷ []
  joined : Joined chips chip i true (bit_at [] n b) (bit_at (i ∷ []) m k)

enters_by : (chips : Chips) (chip : Entry) → end_of chips.memories chip ≡ None → (p n : List ℕ) (b : ℕ) (m : List ℕ) (k : ℕ) → OwnAt chips chip [] p n b m k → Enters chips chip p n b m k
enters_by chips chip no_end [] n b m k f = absurd (let e = f.is in cc)
enters_by chips chip no_end (i ∷ []) n b m k f = record { i = i; path = refl; joined = f }
enters_by chips chip no_end (i ∷ j ∷ q) n b m k f = absurd f

-- a step from a bit of a part's pin goes out, or across the part
record Leaves (chips : Chips) (chip : Entry) (i : ℕ) (p n : List ℕ) (b : ℕ) (m : List ℕ) (k : ℕ) : Type 0 where
  path : p ≡ []
  joined : Joined chips chip i false (bit_at [] m k) (bit_at (i ∷ []) n b)

record Crosses (chips : Chips) (chip : Entry) (i : ℕ) (p n : List ℕ) (b : ℕ) (m : List ℕ) (k : ℕ) : Type 0 where
  path : p ≡ i ∷ []
  across : Across chips chip i i n b m k

moves_by : (chips : Chips) (chip : Entry) (i : ℕ) (p n : List ℕ) (b : ℕ) (m : List ℕ) (k : ℕ) → OwnAt chips chip (i ∷ []) p n b m k → Leaves chips chip i p n b m k ⊎ Crosses chips chip i p n b m k
moves_by chips chip i [] n b m k f = inl (record { path = refl; joined = f })
moves_by chips chip i (j ∷ []) n b m k f = inr (record { path = ap (λ (v : ℕ). v ∷ []) (sym f.same); across = record { same = refl; inner = f.inner; found = f.found; depends = f.depends } })
moves_by chips chip i (j ∷ l ∷ q) n b m k f = absurd f

-- where the second of two steps from a bit of the chip leads: across the part that the first went into
record Second (chips : Chips) (chip : Entry) (n : List ℕ) (b : ℕ) (p q : BitAt) : Type 0 where
  i : ℕ
  enter : Joined chips chip i true (bit_at [] n b) (bit_at (i ∷ []) p.name p.bit)
  path : q.path ≡ i ∷ []
  across : Across chips chip i i p.name p.bit q.name q.bit

-- the third leads to a bit of the chip again
record Third (hs : List Hop) (n : List ℕ) (b : ℕ) (r : BitAt) : Type 0 where
  path : r.path ≡ []
  hop : HasHop hs (bit_at [] n b) (bit_at [] r.name r.bit)

abbrev flat : BitAt → BitAt
flat x = bit_at [] x.name x.bit

module _ (chips : Chips) (known : List (Option Known)) (chip : Entry) (hs : List Hop) (is : IsGraph chips known chip hs) (right : AreKnown chips known) (done : PartsDone chips known chip) (fit : TreeFits chips chip) where
  -- a joint of a part is listed
  tie_in : (i : ℕ) (input : Bool) (x y : BitAt) (f : Joined chips chip i input x y) (inner : Entry) (at : PartAt chips chip i inner) → In (tie f.conn.pin f.w input f.k) (gather (ties_in inner) at.part.connections)
  tie_in i input x y f inner at =
      let j = f.joint in
      let same : chip ≡ j.chip = cc (j.at) in
      let there : slice_get (parts_of chips chip) i ≡ Some j.part = ap (λ (c : Entry). slice_get (parts_of chips c) i) same ∙ j.there in
      let part_is : j.part ≡ at.part = cc (there, at.there) in
      let found : find_chip chips at.part.chip ≡ Some j.inner = subst (λ (v : Part). find_chip chips v.chip ≡ Some j.inner) part_is j.found in
      let inner_is : j.inner ≡ inner = cc (found, at.found) in
      tie_there inner at.part j.j f.conn f.w f.k input (subst (λ (v : Part). slice_get v.connections j.j ≡ Some f.conn) part_is j.here) j.right
      (subst (λ (v : Entry). is_input v f.conn.pin.name ≡ input) inner_is j.way) (subst (λ (v : Entry). f.k < count f.conn.pin.subscript (width_of v f.conn.pin.name)) inner_is j.within)

  -- in by a joint, through, and out by a joint
  hop_through : (i : ℕ) (x p q y : BitAt) → Joined chips chip i true x p → Joined chips chip i false y q → (inner : Entry) → inner_chip chips chip i ≡ Some inner → Depends chips inner p.name p.bit q.name q.bit → HasHop hs x y
  hop_through i x p q y f g inner found d =
      let at = part_of chips chip i inner found in
      let ft = tie f.conn.pin f.w true f.k in
      let gt = tie g.conn.pin g.w false g.k in
      let a = tie_in i true x p f inner at in
      let b = tie_in i false y q g inner at in
      let c : crosses chips known at.k (flat p) (flat q) ≡ true = depends_cross chips known at.k inner at.at (inner_fits chips chip i inner found fit) right (done i at.part at.k at.there at.placed) p.name q.name p.bit q.bit d in
      let p_is : flat p ≡ ft.pin = ap flat f.in_is in
      let q_is : flat q ≡ gt.pin = ap flat g.in_is in
      let c_is : crosses chips known at.k ft.pin gt.pin ≡ true = subst (λ (v : BitAt). crosses chips known at.k ft.pin v ≡ true) q_is (subst (λ (v : BitAt). crosses chips known at.k v (flat q) ≡ true) p_is c) in
      subst (λ (v : BitAt). HasHop hs x v) (sym g.out_is)
      (subst (λ (v : BitAt). HasHop hs v gt.net) (sym f.out_is) (graph_has chips known chip hs is i at.part at.k inner ft gt at.there at.placed at.at a b refl refl c_is))

module _ (chips : Chips) (known : List (Option Known)) (chip : Entry) (hs : List Hop) (no_end : end_of chips.memories chip ≡ None) (is : IsGraph chips known chip hs)
    (right : AreKnown chips known) (done : PartsDone chips known chip) (fit : TreeFits chips chip) where
  -- a bit of a pin of part i
  way_of : (i : ℕ) (input : Bool) (x y : BitAt) (f : Joined chips chip i input x y) (inner : Entry) → inner_chip chips chip i ≡ Some inner → is_input inner y.name ≡ input
  way_of i input x y f inner found =
      let same : f.joint.inner ≡ inner = cc (joined_inner chips chip i input x y f, found) in
      let named : y.name ≡ f.conn.pin.name = ap (λ (v : BitAt). v.name) f.in_is in
      ap (is_input inner) named ∙ (ap (λ (v : Entry). is_input v f.conn.pin.name) (sym same) ∙ f.joint.way)

  -- out of an input there is no way out, and out of an output none across
  input_out : (i : ℕ) (x y : BitAt) (n : List ℕ) (b : ℕ) → Joined chips chip i true x (bit_at (i ∷ []) n b) → Joined chips chip i false y (bit_at (i ∷ []) n b) → ⊥
  input_out i x y n b f g =
      let pin = bit_at (i ∷ []) n b in
      let found = joined_inner chips chip i true x pin f in
      let a = way_of i true x pin f f.joint.inner found in
      let c = way_of i false y pin g f.joint.inner found in
      let h : true ≡ false = sym a ∙ c in
      cc

  has_input : (inner : Entry) (n : List ℕ) (b : ℕ) → HasBit inner.chip.inputs n b → is_input inner n ≡ true
  has_input inner n b h = ap is_some h.there

  across_twice : (i : ℕ) (n m q : List ℕ) (b k l : ℕ) → Across chips chip i i n b m k → Across chips chip i i m k q l → ⊥
  across_twice i n m q b k l f g =
      let same : f.inner ≡ g.inner = cc (f.found, g.found) in
      let a : is_input g.inner m ≡ true = has_input g.inner m k g.depends.from in
      let c : is_input g.inner m ≡ false = subst (λ (v : Entry). is_input v m ≡ false) same f.depends.apart in
      let h : true ≡ false = sym a ∙ c in
      cc

  second_by : (n : List ℕ) (b : ℕ) (p q : BitAt) (i : ℕ) → Joined chips chip i true (bit_at [] n b) (bit_at (i ∷ []) p.name p.bit) → Leaves chips chip i q.path p.name p.bit q.name q.bit ⊎ Crosses chips chip i q.path p.name p.bit q.name q.bit → Second chips chip n b p q
  second_by n b p q i f (inl g) = absurd (input_out i (bit_at [] n b) (bit_at [] q.name q.bit) p.name p.bit f g.joined)
  second_by n b p q i f (inr g) = record { i = i; enter = f; path = g.path; across = g.across }

  second_of : (n : List ℕ) (b : ℕ) (p q : BitAt) → OwnAt chips chip [] p.path n b p.name p.bit → Own chips chip p q → Second chips chip n b p q
  second_of n b p q f g =
      let e = enters_by chips chip no_end p.path n b p.name p.bit f in
      let h : OwnAt chips chip (e.i ∷ []) q.path p.name p.bit q.name q.bit = subst (λ (v : List ℕ). OwnAt chips chip v q.path p.name p.bit q.name q.bit) e.path g in
      second_by n b p q e.i e.joined (moves_by chips chip e.i q.path p.name p.bit q.name q.bit h)

  third_by : (n : List ℕ) (b : ℕ) (p q r : BitAt) (s : Second chips chip n b p q) → Leaves chips chip s.i r.path q.name q.bit r.name r.bit ⊎ Crosses chips chip s.i r.path q.name q.bit r.name r.bit → Third hs n b r
  third_by n b p q r s (inl g) =
      record { path = g.path; hop = hop_through chips known chip hs is right done fit s.i (bit_at [] n b) (bit_at (s.i ∷ []) p.name p.bit) (bit_at (s.i ∷ []) q.name q.bit) (bit_at [] r.name r.bit) s.enter g.joined s.across.inner s.across.found s.across.depends }
  third_by n b p q r s (inr g) = absurd (across_twice s.i p.name q.name r.name p.bit q.bit r.bit s.across g.across)

  third_of : (n : List ℕ) (b : ℕ) (p q r : BitAt) → Second chips chip n b p q → Own chips chip q r → Third hs n b r
  third_of n b p q r s g =
      let h : OwnAt chips chip (s.i ∷ []) r.path q.name q.bit r.name r.bit = subst (λ (v : List ℕ). OwnAt chips chip v r.path q.name q.bit r.name r.bit) s.path g in
      third_by n b p q r s (moves_by chips chip s.i r.path q.name q.bit r.name r.bit h)

  -- a way of the own graph between bits of the chip is one of hops
  hops_along : (ms : List BitAt) (n : List ℕ) (b : ℕ) (m : List ℕ) (k : ℕ) → Chain (Own chips chip) (bit_at [] n b) ms (bit_at [] m k) → Way (HasHop hs) (bit_at [] n b) (bit_at [] m k)
  hops_along [] n b m k f = absurd (let e = f.is in cc)
  hops_along (p ∷ []) n b m k f = absurd (let s = second_of n b p (bit_at [] m k) f.0 f.1 in let e = s.path in cc)
  hops_along (p ∷ q ∷ []) n b m k f = one_step (bit_at [] n b) (bit_at [] m k) (third_of n b p q (bit_at [] m k) (second_of n b p q f.0 f.1.0) f.1.1).hop
  hops_along (p ∷ q ∷ r ∷ ms) n b m k f =
      let t = third_of n b p q r (second_of n b p q f.0 f.1.0) f.1.1.0 in
      let r_is : r ≡ flat r = ap (λ (v : List ℕ). bit_at v r.name r.bit) t.path in
      step_way (bit_at [] n b) (flat r) (bit_at [] m k) t.hop (hops_along ms r.name r.bit m k (subst (λ (v : BitAt). Chain (Own chips chip) v ms (bit_at [] m k)) r_is f.1.1.1))

  own_hops : (n : List ℕ) (b : ℕ) (m : List ℕ) (k : ℕ) → Way (Own chips chip) (bit_at [] n b) (bit_at [] m k) → Way (HasHop hs) (bit_at [] n b) (bit_at [] m k)
  own_hops n b m k w = hops_along w.over n b m k w.steps

  depends_hops : (n m : List ℕ) (b k : ℕ) → Depends chips chip n b m k → Way (HasHop hs) (bit_at [] n b) (bit_at [] m k)
  depends_hops n m b k d = own_hops n b m k (own_way chips chip (fit [] chip refl) n m b k d.way)

  clear_of : NoRound hs → TreeClear chips chip
  clear_of none [] c at circle = let same : c ≡ chip = cc in let o = subst (OwnCircle chips) same circle in none (bit_at [] o.name o.bit) (own_hops o.name o.bit o.name o.bit o.way)
  clear_of none (i ∷ q) c at circle =
      let a = at_part chips chip i q c at in
      let p = part_of chips chip i a.inner a.found in
      done_clear chips known p.k a.inner p.at (inner_fits chips chip i a.inner a.found fit) right (done i p.part p.k p.there p.placed) q c a.rest circle

pub graph_full : (chips : Chips) (known : List (Option Known)) (chip : Entry) (hs : List Hop) → IsGraph chips known chip hs → AreKnown chips known → PartsDone chips known chip → TreeFits chips chip → IsFull chips chip hs
graph_full chips known chip hs is right done fit i inner x p q y found f g d = hop_through chips known chip hs is right done fit i x p q y f g inner found d

-- what was seen of a chip is right
pub seen_right : (chips : Chips) (known : List (Option Known)) (chip : Entry) (inside : Known) → end_of chips.memories chip ≡ None → IsGraph chips known chip (hops_of inside) → AreKnown chips known → PartsDone chips known chip → NoRound (hops_of inside) →
    AreDoors inside.graph.items inside.doors → ((n m : List ℕ) (b k : ℕ) → leads inside (bit_at [] n b) (bit_at [] m k) ≡ true → Way (HasHop (hops_of inside)) (bit_at [] n b) (bit_at [] m k)) →
    ((n m : List ℕ) (b k : ℕ) → HasBit chip.chip.inputs n b → HasBit chip.chip.outputs m k → Way (HasHop (hops_of inside)) (bit_at [] n b) (bit_at [] m k) → leads inside (bit_at [] n b) (bit_at [] m k) ≡ true) → IsRight chips known chip inside
seen_right chips known chip inside no_end is right done none linked sound there = record {
  hops = graph_hops chips known chip (hops_of inside) is;
  linked = linked;
  sound = sound;
  covers = λ fit n m b k d. there n m b k d.from d.to (depends_hops chips known chip (hops_of inside) no_end is right done fit n m b k d);
  clear = λ fit. clear_of chips known chip (hops_of inside) no_end is right done fit none;
  full = λ fit. graph_full chips known chip (hops_of inside) is right done fit;
}

-- a chip whose own graph has no circle, and whose parts are known
pub seen_clear : (chips : Chips) (known : List (Option Known)) (chip : Entry) (hs : List Hop) → end_of chips.memories chip ≡ None → IsGraph chips known chip hs → AreKnown chips known → PartsDone chips known chip → NoRound hs → TreeFits chips chip → TreeClear chips chip
seen_clear chips known chip hs no_end is right done none fit = clear_of chips known chip hs no_end is right done fit none

-- no loop is in a tree in which the own graph of no chip has a circle
pub clear_no_loop : (chips : Chips) (top : Entry) → TreeFits chips top → TreeClear chips top → (nets : List (List ℕ)) → IsLoop chips top nets → ⊥
clear_no_loop chips top fit clear nets l = let h = circle_to_own chips top fit (l.first ∷ l.rest) l.circle.walk in clear h.path h.chip h.at h.circle
