-- A way that no hop cuts short passes no bit twice: two of its hops that pass one bit of a part would leave a shorter way.
use Rattle.std.proofs.Common.{◌≡◌, ℕ, zero, suc, ◌-◌, ◌<◌, ◌⊎◌, inl, inr, Bool, true, false, List, [], ◌∷◌, length, Some, refl, sym, ap, subst, ◌∙◌, arith}
use Rattle.std.specs.Prelude.{slice_get}
use Rattle.hdl_tree.specs.declared.library.Entry.{Entry}
use Rattle.hdl_tree.specs.Chips.{Chips}
use Rattle.hdl_tree.specs.Behaviour.{inner_chip}
use Rattle.hdl_plans.specs.Plans.{is_input}
use Rattle.hdl_plans.specs.Loops.{BitAt, bit_at, Feeds}
use Rattle.hdl_plans.specs.Ways.{Way, HasBit, pins_on, JointsFit, Joined}
use Rattle.hdl_plans.proofs.Simple.{Among, once_are, get_among}
use Rattle.hdl_plans.proofs.Walks.{under, join_ways, joined_inner}
use Rattle.hdl_loops.specs.Inner.Hops.{bit, input_of, output_of, HasHop, Linked}
use Rattle.hdl_loops.specs.Inner.Knowing.{IsFull, IsStraight}
use Rattle.hdl_loops.specs.Inner.Report.{Trip}
use Rattle.hdl_loops.specs.declared.hops.Hop.{Hop}
use Rattle.hdl_loops.proofs.Leaping.{InHop, HopTrip}
use Rattle.hdl_loops.proofs.Lists.{there_at}
use Rattle.hdl_loops.proofs.Trips.{DeepTrip, under_same, not_under}

head_of_path : List ℕ → ℕ
head_of_path [] = 0
head_of_path (i ∷ p) = i

under_part : (i j : ℕ) (x y : BitAt) → under i x ≡ under j y → i ≡ j
unfolding head_of_path
under_part i j x y e = ap (λ (v : BitAt). head_of_path v.path) e

-- ---- two hops that pass a bit of a part

module _ (chips : Chips) (chip : Entry) (hs : List Hop) (full : IsFull chips chip hs) (fit : JointsFit chips chip) where
  -- the bit of a joint is one of a pin of the part
  joint_bit : (i : ℕ) (input : Bool) (x p : BitAt) (inner : Entry) → inner_chip chips chip i ≡ Some inner → Joined chips chip i input x p → HasBit (pins_on input inner) p.name p.bit
  joint_bit i input x p inner found f =
      let there = joined_inner chips chip i input x p f in
      let same : f.joint.inner ≡ inner = cc (there, found) in
      subst (λ (v : Entry). HasBit (pins_on input v) p.name p.bit) same
      (subst (λ (v : BitAt). HasBit (pins_on input f.joint.inner) v.name v.bit) (sym f.in_is) (fit i f.conn f.w f.k input f.joint))

  joint_way : (i : ℕ) (input : Bool) (x p : BitAt) (inner : Entry) → inner_chip chips chip i ≡ Some inner → Joined chips chip i input x p → is_input inner p.name ≡ input
  joint_way i input x p inner found f =
      let there = joined_inner chips chip i input x p f in
      let same : f.joint.inner ≡ inner = cc (there, found) in
      ap (is_input inner) (ap (λ (v : BitAt). v.name) f.in_is) ∙ (ap (λ (v : Entry). is_input v f.conn.pin.name) (sym same) ∙ f.joint.way)

  meets : (inner : Entry) (p z q : BitAt) → (p ≡ q → ⊥) → (p ≡ z) ⊎ Way (Feeds chips inner) p z → (z ≡ q) ⊎ Way (Feeds chips inner) z q → Way (Feeds chips inner) p q
  meets inner p z q apart (inl e) (inl f) = absurd (apart (e ∙ f))
  meets inner p z q apart (inl e) (inr w) = subst (λ (v : BitAt). Way (Feeds chips inner) v q) (sym e) w
  meets inner p z q apart (inr w) (inl f) = subst (Way (Feeds chips inner) p) f w
  meets inner p z q apart (inr w) (inr u) = join_ways p z q w u

  cross_at : (i : ℕ) (inner : Entry) (z : BitAt) (x p q y : BitAt) → p.path ≡ [] → q.path ≡ [] → inner_chip chips chip i ≡ Some inner → Joined chips chip i true x (under i p) → Joined chips chip i false y (under i q) →
      (p ≡ z) ⊎ Way (Feeds chips inner) p z → (z ≡ q) ⊎ Way (Feeds chips inner) z q → HasHop hs x y
  cross_at i inner z x p q y at_p at_q found enter leave left right =
      let a = joint_way i true x (under i p) inner found enter in
      let b = joint_way i false y (under i q) inner found leave in
      let apart : p ≡ q → ⊥ = λ e. (let f : true ≡ false = sym a ∙ (ap (λ (v : BitAt). is_input inner v.name) e ∙ b) in cc) in
      let way = meets inner p z q apart left right in
      let flat : Way (Feeds chips inner) (bit_at [] p.name p.bit) (bit_at [] q.name q.bit) =
      subst (λ (v : List ℕ). Way (Feeds chips inner) (bit_at [] p.name p.bit) (bit_at v q.name q.bit)) at_q
      (subst (λ (v : List ℕ). Way (Feeds chips inner) (bit_at v p.name p.bit) q) at_p way) in
      full i inner x (under i p) (under i q) y found enter leave
      (record { from = joint_bit i true x (under i p) inner found enter; to = joint_bit i false y (under i q) inner found leave; apart = b; way = flat })

  cross : (h g : Hop) (v : BitAt) → InHop chips chip h v → InHop chips chip g v → HasHop hs (bit h.from) (bit g.to)
  cross h g v a c =
      let both : under a.i a.inside.z ≡ under c.i c.inside.z = sym a.inside.is ∙ c.inside.is in
      let i_is : c.i ≡ a.i = sym (under_part a.i c.i a.inside.z c.inside.z both) in
      let z_is : c.inside.z ≡ a.inside.z = sym (under_same a.i c.i a.inside.z c.inside.z both) in
      let found : inner_chip chips chip a.i ≡ Some c.inner = subst (λ (i : ℕ). inner_chip chips chip i ≡ Some c.inner) i_is c.found in
      let at = a.found in
      let inner_is : c.inner ≡ a.inner = cc in
      let leave : Joined chips chip a.i false (bit g.to) (under a.i (output_of g.through)) = subst (λ (i : ℕ). Joined chips chip i false (bit g.to) (under i (output_of g.through))) i_is c.leave in
      let right : (a.inside.z ≡ output_of g.through) ⊎ Way (Feeds chips a.inner) a.inside.z (output_of g.through) =
      subst (λ (e : Entry). (a.inside.z ≡ output_of g.through) ⊎ Way (Feeds chips e) a.inside.z (output_of g.through)) inner_is
      (subst (λ (z : BitAt). (z ≡ output_of g.through) ⊎ Way (Feeds chips c.inner) z (output_of g.through)) z_is c.inside.right) in
      cross_at a.i a.inner a.inside.z (bit h.from) (input_of h.through) (output_of g.through) (bit g.to) refl refl a.found a.enter leave a.inside.left right

-- ---- the bits of a way

-- one of the first n hops begins at the bit, or passes it
pub record OnWay (chips : Chips) (chip : Entry) (all : List Hop) (n : ℕ) (v : BitAt) : Type 0 where
  pub j : ℕ
  pub h : Hop
  pub below : j < n
  pub there : slice_get all j ≡ Some h
  pub is : (v ≡ bit h.from) ⊎ InHop chips chip h v

-- a way of the first n hops
pub record Along (chips : Chips) (chip : Entry) (all : List Hop) (n : ℕ) (x m : BitAt) (names : List (List ℕ)) : Type 0 where
  pub deep : DeepTrip chips chip x m names
  pub on : (v : BitAt) → Among v (x ∷ deep.over) → OnWay chips chip all n v

pub on_more : (chips : Chips) (chip : Entry) (all : List Hop) (n : ℕ) (v : BitAt) → OnWay chips chip all n v → OnWay chips chip all (suc n) v
on_more chips chip all n v o = let lt = o.below in record { j = o.j; h = o.h; below = omega (arith, lt); there = o.there; is = o.is }

-- the bits of a way by one hop
pub on_hop : (chips : Chips) (chip : Entry) (all : List Hop) (n : ℕ) (h : Hop) (names : List (List ℕ)) → slice_get all n ≡ Some h → (t : HopTrip chips chip h names) → (v : BitAt) → Among v (bit h.from ∷ t.deep.over) → OnWay chips chip all (suc n) v
on_hop chips chip all n h names e t v (inl f) = record { j = n; h = h; below = omega arith; there = e; is = inl f }
on_hop chips chip all n h names e t v (inr a) = record { j = n; h = h; below = omega arith; there = e; is = inr (t.passed v a) }

module _ (chips : Chips) (chip : Entry) (all : List Hop) (straight : IsStraight chips chip all) (fit : JointsFit chips chip) where
  net_apart : (n : ℕ) (g : Hop) → slice_get all n ≡ Some g → OnWay chips chip all n (bit g.from) → ⊥
  net_apart n g e o = by o.is
    where
      by : (bit g.from ≡ bit o.h.from) ⊎ InHop chips chip o.h (bit g.from) → ⊥
      by (inl f) = let r = straight.inside n g e in straight.direct o.j n r.0 o.h g g o.below o.there e r.1 f refl
      by (inr p) = not_under g.from.name.now g.from.bit p.i p.inside.z p.inside.is

  part_apart : (n : ℕ) (g : Hop) (v : BitAt) → slice_get all n ≡ Some g → InHop chips chip g v → OnWay chips chip all n v → ⊥
  part_apart n g v e a o = by o.is
    where
      by : (v ≡ bit o.h.from) ⊎ InHop chips chip o.h v → ⊥
      by (inl f) = not_under o.h.from.name.now o.h.from.bit a.i a.inside.z (sym f ∙ a.inside.is)
      by (inr p) = let c = cross chips chip straight.all straight.full fit o.h g v p a in straight.direct o.j n c.0 o.h g c.1 o.below o.there e c.2 c.3 c.4

  -- a hop passes no bit that those before it pass
  pub hop_apart : (n : ℕ) (g : Hop) (names : List (List ℕ)) → slice_get all n ≡ Some g → (t : HopTrip chips chip g names) → (v : BitAt) → Among v (bit g.from ∷ t.deep.over) → OnWay chips chip all n v → ⊥
  hop_apart n g names e t v (inl f) o = net_apart n g e (subst (OnWay chips chip all n) f o)
  hop_apart n g names e t v (inr a) o = part_apart n g v e (t.passed v a) o

-- ---- the end of a way

linked_next : (ws : List Hop) (x y : BitAt) (j : ℕ) (h g : Hop) → Linked x ws y → slice_get ws j ≡ Some h → slice_get ws (suc j) ≡ Some g → bit h.to ≡ bit g.from
linked_next [] x y j h g l e f = absurd cc
linked_next (w ∷ []) x y j h g l e f = absurd cc
linked_next (w ∷ u ∷ ws) x y zero h g l e f = let a : w ≡ h = cc in let b : u ≡ g = cc in sym (ap (λ (v : Hop). bit v.to) a) ∙ (sym l.1.0 ∙ ap (λ (v : Hop). bit v.from) b)
linked_next (w ∷ u ∷ ws) x y (suc j) h g l e f = linked_next (u ∷ ws) (bit w.to) y j h g l.1 e f

linked_last : (ws : List Hop) (x y : BitAt) (j : ℕ) (h : Hop) → Linked x ws y → slice_get ws j ≡ Some h → suc j ≡ length ws → bit h.to ≡ y
linked_last [] x y j h l e f = absurd cc
linked_last (w ∷ []) x y zero h l e f = let a : w ≡ h = cc in ap (λ (v : Hop). bit v.to) (sym a) ∙ l.1
linked_last (w ∷ []) x y (suc j) h l e f = absurd cc
linked_last (w ∷ u ∷ ws) x y zero h l e f = absurd (omega (arith, f))
linked_last (w ∷ u ∷ ws) x y (suc j) h l e f = linked_last (u ∷ ws) (bit w.to) y j h l.1 e (omega (arith, f))

linked_first : (ws : List Hop) (x y : BitAt) (h : Hop) → Linked x ws y → slice_get ws 0 ≡ Some h → bit h.from ≡ x
linked_first [] x y h l e = absurd cc
linked_first (w ∷ ws) x y h l e = let a : w ≡ h = cc in ap (λ (v : Hop). bit v.from) (sym a) ∙ l.0

module _ (chips : Chips) (chip : Entry) (all : List Hop) (straight : IsStraight chips chip all) (x y : BitAt) (linked : Linked x all y) (apart : x ≡ y → ⊥) where
  record LastHop : Type 0 where
    n : ℕ
    h : Hop
    there : slice_get all n ≡ Some h
    count : suc n ≡ length all
    to : bit h.to ≡ y

  last_by : (k : ℕ) → length all ≡ suc k → LastHop
  last_by k e = let r = there_at all k (omega (arith, e)) in record { n = k; h = r.0; there = r.1; count = sym e; to = linked_last all x y k r.0 linked r.1 (sym e) }

  not_from : (j : ℕ) (h : Hop) → j < length all → slice_get all j ≡ Some h → y ≡ bit h.from → ⊥
  not_from zero h lt there is = apart (sym (linked_first all x y h linked there) ∙ sym is)
  not_from (suc j) h lt there is =
      let before = there_at all j (omega (arith, lt)) in
      let pred : length all ≡ suc (length all - 1) = omega (arith, lt) in
      let last = last_by (length all - 1) pred in
      let r = straight.inside j before.0 before.1 in
      let to : bit before.0.to ≡ bit last.h.to = linked_next all x y j before.0 h linked before.1 there ∙ (sym is ∙ sym last.to) in
      let count = last.count in
      straight.direct j last.n r.0 before.0 last.h before.0 (omega (arith, lt, count)) before.1 last.there r.1 refl to

  -- where the way ends it was not before
  not_before : OnWay chips chip all (length all) y → ⊥
  not_before o = by o.is
    where
      by : (y ≡ bit o.h.from) ⊎ InHop chips chip o.h y → ⊥
      by (inl f) = not_from o.j o.h o.below o.there f
      by (inr p) =
          let lt = o.below in
          let pred : length all ≡ suc (length all - 1) = omega (arith, lt) in
          let last = last_by (length all - 1) pred in
          not_under last.h.to.name.now last.h.to.bit p.i p.inside.z (last.to ∙ p.inside.is)

-- a whole way
pub whole_trip : (chips : Chips) (chip : Entry) (all : List Hop) (x y : BitAt) (names : List (List ℕ)) → IsStraight chips chip all → Linked x all y → Along chips chip all (length all) x y names → Trip chips chip x y names
whole_trip chips chip all x y names straight linked a =
    let over = a.deep.over in
    record {
      over = over;
      steps = a.deep.steps;
      named = a.deep.named;
      once = once_are (x ∷ over) a.deep.once;
      ends = λ apart k e. not_before chips chip all straight x y linked apart (a.on y (inr (get_among over k y e)));
    }
