-- The plain plan is a plan.
use Rattle.std.proofs.Common.{◌≡◌, ℕ, zero, suc, ◌+◌, ◌*◌, ◌%◌, ◌^◌, ◌<◌, true, false, List, [], ◌∷◌, ◌++◌, length, length-append, get_or, Some, refl, ap, sym, ◌∙◌, arith, inl, inr, subst, eq-eqb, ne_eqb}
use Rattle.std.specs.Prelude.{slice_get, slice_index, nat_eq, if◌then◌else◌}
use Rattle.std.proofs.lemmas.Bool.{cases_eq, false≢true}
use Rattle.std.proofs.lemmas.Nat.Bits.{bit_at-pow_other}
use Rattle.std.proofs.lemmas.List.Elements.{All-weaker}
use Rattle.std.proofs.lemmas.Option.{same_Some, slice_get-get_or, slice_get_within}
use Rattle.word16.specs.Words.{has_bit}
use Rattle.netlist.specs.declared.node.Node.{Node}
use Rattle.netlist.specs.declared.node.Node.TheVariants.{Pin, Nand, Flip, Word, Zero}
use Rattle.netlist.specs.declared.node.Block.{Block}
use Rattle.netlist.specs.Order.{AreOrdered, IsReadable}
use Rattle.netlist.specs.Reads.{address_in}
use Rattle.netlist.proofs.Following.{address_early, block_inside}
use Rattle.netlist.proofs.Keeping.{get_there}
use Rattle.gate_sim.specs.declared.plan.Lane.{Lane}
use Rattle.gate_sim.specs.declared.plan.Op.{Op}
use Rattle.gate_sim.specs.Inner.Plans.{node_at, place_of, StandsAt, IsEarlier, IsHeld, IsHeldLane, IsGate, IsFlip, IsSuch, IsLane, IsPlacedBefore, IsPlaced, IsPlan}
use Rattle.gate_sim.specs.declared.plan.Take.{Take}
use Rattle.gate_sim.specs.Inner.Takes.{IsTake, AreTakes}
use Rattle.gate_sim.specs.Inner.Plain.{plain_lane, plain_place, plain_node, plain_op, plain_take, IsPlain}
use Rattle.gate_sim.proofs.Lanes.{has_none, mask_here, mask_other}

-- a lane of a node that has one lane alone
alone_at : (x q l d n : ℕ) → n < 2 ^ 32 → x ≡ (if nat_eq l d then q else 4294967295) → x < n → (l ≡ d) × (x ≡ q)
alone_at x q l d n few e inside = elim (cases_eq l d) [
  | inl same ↦ let t : nat_eq l d ≡ true = eq-eqb l d same in (same, e ∙ (rw t refl))
  | inr ne ↦
      let f : nat_eq l d ≡ false = ne_eqb l d ne in
      let none : x ≡ 4294967295 = e ∙ (rw f refl) in
      absurd (omega arith)
]

module _ (nodes : List Node) (blocks : List Block) (ops : List Op) (lanes : List ℕ) (places : List Lane) (takes : List Take) (ordered : AreOrdered nodes blocks) (plain : IsPlain nodes (length nodes) ops lanes places takes) where
  at_node : (k : ℕ) (node : Node) → slice_get nodes k ≡ Some node → get_or nodes k Pin ≡ node
  at_node k node at = same_Some (get_or nodes k Pin) node (sym (slice_get-get_or nodes k Pin (slice_get_within nodes k node at)) ∙ at)

  such : (P : Node → Type 0) (q k : ℕ) (node : Node) → k ≡ q → slice_get nodes q ≡ Some node → P node → IsSuch nodes k P
  such P q k node same at is other there = subst P (same_Some node other (sym at ∙ ap (slice_get nodes) (sym same) ∙ there)) is

  lane_is : (k : ℕ) (node : Node) → slice_get nodes k ≡ Some node → plain_node k node (plain_lane node) ≡ k
  lane_is k Pin at = refl
  lane_is k (Nand i j) at = refl
  lane_is k (Flip i) at = refl
  lane_is k (Word b bit) at = let t : nat_eq bit bit ≡ true = eq-eqb bit bit refl in rw t refl
  lane_is k Zero at = refl

  lane_small : (k : ℕ) (node : Node) → slice_get nodes k ≡ Some node → plain_lane node < 16
  lane_small k Pin at = omega arith
  lane_small k (Nand i j) at = omega arith
  lane_small k (Flip i) at = omega arith
  lane_small k (Word b bit) at = (ordered.fit k (Word b bit) at).0
  lane_small k Zero at = omega arith

  placed : (k : ℕ) → k < length nodes → IsPlaced (length ops) lanes places k
  placed k less =
      let there = get_there nodes k less in
      let place = plain.place k less in
      let is = at_node k there.0 there.1 in
      let at : (place_of places k).at ≡ plain_lane there.0 = ap (λ p. p.at) place ∙ ap plain_lane is in
      let slot : (place_of places k).slot ≡ k = ap (λ p. p.slot) place in
      let small = lane_small k there.0 there.1 in
      let long = plain.ops_long in
      record {
        slot = omega arith;
        at = omega arith;
        same = ap (λ m. node_at lanes m (place_of places k).at) slot ∙ ap (node_at lanes k) at ∙ plain.lane k (plain_lane there.0) there.0 less small there.1 ∙ lane_is k there.0 there.1;
      }

  -- the place of an input of node q
  earlier : (q i : ℕ) → i < q → q < length nodes → IsEarlier lanes q (plain_place nodes i) i
  earlier q i less inside =
      let is = placed i (omega arith) in
      let place = plain.place i (omega arith) in
      record {
        earlier = less;
        inside = subst (λ p. p.at < 16) place is.at;
        same = subst (λ p. node_at lanes p.slot p.at ≡ i) place is.same;
      }

  -- a pin or a flip-flop in the first lane
  held_lane : (q : ℕ) (node : Node) → slice_get nodes q ≡ Some node → IsHeld node → (l : ℕ) → node_at lanes q l ≡ (if nat_eq l 0 then q else 4294967295) → plain_lane node ≡ 0 → IsHeldLane nodes lanes places q l
  held_lane q node at held l here first =
      let few = ordered.few_nodes in
      let inside = slice_get_within nodes q node at in
      let place = plain.place q inside in
      let is = at_node q node at in
      record {
        held = λ low. such IsHeld q (node_at lanes q l) node (alone_at (node_at lanes q l) q l 0 (length nodes) few here low).1 at held;
        placed = λ low.
            let alone = alone_at (node_at lanes q l) q l 0 (length nodes) few here low in
            subst (λ k. StandsAt places k q l) (sym alone.1) (ap (λ p. p.slot) place, ap (λ p. p.at) place ∙ ap plain_lane is ∙ first ∙ sym alone.0);
      }

  lane_right : (q : ℕ) (node : Node) → slice_get nodes q ≡ Some node → (l : ℕ) → l < 16 → IsLane nodes blocks lanes places q l (plain_op nodes node)
  lane_right q Pin at l less = held_lane q Pin at tt l (plain.lane q l Pin (slice_get_within nodes q Pin at) less at) refl
  lane_right q (Flip i) at l less = held_lane q (Flip i) at tt l (plain.lane q l (Flip i) (slice_get_within nodes q (Flip i) at) less at) refl
  lane_right q Zero at l less = λ inside. such (λ node. node ≡ Zero) q (node_at lanes q l) Zero (plain.lane q l Zero (slice_get_within nodes q Zero at) less at) at refl
  lane_right q (Nand i j) at l less =
      let inside = slice_get_within nodes q (Nand i j) at in
      let here : node_at lanes q l ≡ q = plain.lane q l (Nand i j) inside less at in
      let first : node_at lanes q 0 ≡ q = plain.lane q 0 (Nand i j) inside (omega arith) at in
      let order = ordered.fit q (Nand i j) at in
      let place = plain.place q inside in
      let is = at_node q (Nand i j) at in (
        record {
          inside = omega arith;
          placed = subst (λ k. StandsAt places k q 0) (sym here) (ap (λ p. p.slot) place, ap (λ p. p.at) place ∙ ap plain_lane is);
          first = here ∙ sym first;
          gate = λ other there. subst (IsGate (λ x y. IsEarlier lanes q (plain_place nodes i) x × IsEarlier lanes q (plain_place nodes j) y)) (same_Some (Nand i j) other (sym at ∙ ap (slice_get nodes) (sym here) ∙ there)) (earlier q i order.0 inside, earlier q j order.1 inside);
        },
        refl,
        refl,
      )
  lane_right q (Word b bit) at l less =
      let inside = slice_get_within nodes q (Word b bit) at in
      let here : node_at lanes q l ≡ (if nat_eq l bit then q else 4294967295) = plain.lane q l (Word b bit) inside less at in
      let fits = ordered.fit q (Word b bit) at in
      let place = plain.place q inside in
      let is = at_node q (Word b bit) at in
      let few = ordered.few_nodes in
      record {
        block = block_inside blocks b (IsReadable q (length nodes)) fits.1;
        side = tt;
        read = λ on. elim (cases_eq l bit) [
          | inl e ↦
              let t : nat_eq l bit ≡ true = eq-eqb l bit e in
              let same : node_at lanes q l ≡ q = here ∙ (rw t refl) in
              record {
                inside = omega arith;
                placed = subst (λ k. StandsAt places k q l) (sym same) (ap (λ p. p.slot) place, ap (λ p. p.at) place ∙ ap plain_lane is ∙ sym e);
                bit = such (λ node. node ≡ Word b l) q (node_at lanes q l) (Word b bit) same at (ap (Word b) (sym e));
                address = All-weaker (λ i. i < q) (IsPlacedBefore (length nodes) places q) (λ i low. record { inside = omega arith; earlier = subst (λ p. p.slot < q) (sym (plain.place i (omega arith))) low }) (address_in (slice_get blocks b)) (address_early (slice_get blocks b) q (length nodes) fits.1);
              }
          | inr ne ↦ absurd (false≢true (sym (mask_other bit l fits.0 ne) ∙ on))
        ];
        bare = λ off. elim (cases_eq l bit) [
          | inl e ↦ absurd (false≢true (sym off ∙ ap (has_bit (1 * 2 ^ bit % 2 ^ 16)) e ∙ mask_here bit fits.0))
          | inr ne ↦
              let f : nat_eq l bit ≡ false = ne_eqb l bit ne in
              let none : node_at lanes q l ≡ 4294967295 = here ∙ (rw f refl) in
              omega arith
        ];
      }

  pub plain_is_plan : IsPlan nodes blocks ops lanes places
  plain_is_plan =
      let long = plain.ops_long in
      let few = ordered.few_nodes in
      record {
        few = omega arith;
        lanes_long = plain.lanes_long ∙ ap (λ m. 16 * m) (sym long);
        places_long = plain.places_long;
        each = λ q op at l less.
            let inside = slice_get_within ops q op at in
            let there = get_there nodes q (omega arith) in
            let same = same_Some (plain_op nodes there.0) op (sym (plain.op q there.0 (omega arith) there.1) ∙ at) in
            subst (IsLane nodes blocks lanes places q l) same (lane_right q there.0 there.1 l less);
        placed = placed;
      }

  no_bit : (l : ℕ) → has_bit 0 l ≡ true → ⊥
  no_bit l on = false≢true (sym (has_none l) ∙ on)

  none_taken : (q : ℕ) → q < length ops → IsTake nodes (length ops) lanes places (record { slot = q; source = q; down = 0; mask = 0 })
  none_taken q inside = record { slot = inside; source = inside; down = omega arith; lane = λ l less on. absurd (no_bit l on) }

  first_bit : (l : ℕ) → has_bit 1 l ≡ true → l ≡ 0
  first_bit l on = elim (cases_eq l 0) [
    | inl e ↦ e
    | inr ne ↦ absurd (false≢true (sym (ap (λ x. nat_eq x 1) (bit_at-pow_other 0 l ne)) ∙ on))
  ]

  flip_taken : (q i : ℕ) → slice_get nodes q ≡ Some (Flip i) → IsTake nodes (length ops) lanes places (plain_take nodes q (Flip i))
  flip_taken q i at =
      let long = plain.ops_long in
      let inside = slice_get_within nodes q (Flip i) at in
      let low : i < length nodes = ordered.fit q (Flip i) at in
      let source = get_there nodes i low in
      let is = at_node i source.0 source.1 in
      let lane : plain_lane (get_or nodes i Pin) ≡ plain_lane source.0 = ap plain_lane is in
      let small = lane_small i source.0 source.1 in
      let few = ordered.few_nodes in
      record {
        slot = omega arith;
        source = omega arith;
        down = omega arith;
        lane = λ l less on.
            let first = first_bit l on in
            let here = plain.lane q l (Flip i) inside less at in
            let same : node_at lanes q l ≡ q = here ∙ (let t : nat_eq l 0 ≡ true = eq-eqb l 0 first in rw t refl) in
            let place = plain.place q inside in
            let node = at_node q (Flip i) at in
            record {
              inside = omega arith;
              placed = subst (λ k. StandsAt places k q l) (sym same) (ap (λ p. p.slot) place, ap (λ p. p.at) place ∙ ap plain_lane node ∙ sym first);
              high = omega arith;
              flip =
                  let at_source : l + plain_lane (get_or nodes i Pin) ≡ plain_lane source.0 = omega arith in
                  such (IsFlip (λ x. node_at lanes i (l + plain_lane (get_or nodes i Pin)) ≡ x)) q (node_at lanes q l) (Flip i) same at
                  (ap (node_at lanes i) at_source ∙ plain.lane i (plain_lane source.0) source.0 low small source.1 ∙ lane_is i source.0 source.1);
            };
      }

  take_right : (q : ℕ) (node : Node) → slice_get nodes q ≡ Some node → q < length ops → IsTake nodes (length ops) lanes places (plain_take nodes q node)
  take_right q Pin at inside = none_taken q inside
  take_right q (Nand i j) at inside = none_taken q inside
  take_right q (Flip i) at inside = flip_taken q i at
  take_right q (Word b bit) at inside = none_taken q inside
  take_right q Zero at inside = none_taken q inside

  pub plain_are_takes : AreTakes nodes (length ops) lanes places takes
  plain_are_takes =
      let long = plain.ops_long in
      let takes_long = plain.takes_long in
      record {
        each = λ j take at.
            let inside = slice_get_within takes j take at in
            let there = get_there nodes j (omega arith) in
            let same = same_Some (plain_take nodes j there.0) take (sym (plain.take j there.0 (omega arith) there.1) ∙ at) in
            subst (IsTake nodes (length ops) lanes places) same (take_right j there.0 there.1 (omega arith));
        all = λ k i at.
            let inside = slice_get_within nodes k (Flip i) at in
            let place = plain.place k inside in
            let node = at_node k (Flip i) at in
            let lane : (place_of places k).at ≡ 0 = ap (λ p. p.at) place ∙ ap plain_lane node in
            (k, plain_take nodes k (Flip i), plain.take k (Flip i) inside at, sym (ap (λ p. p.slot) place), ap (has_bit 1) lane);
      }

-- ---- one node more

get_left : {X : Type 0} (xs : List X) (y : X) (i : ℕ) → i < length xs → slice_get (xs ++ y ∷ []) i ≡ slice_get xs i
get_left [] y i h = absurd (omega arith)
get_left (x ∷ xs) y zero h = refl
get_left (x ∷ xs) y (suc i) h = get_left xs y i (omega arith)

get_last : {X : Type 0} (xs : List X) (y : X) → slice_get (xs ++ y ∷ []) (length xs) ≡ Some y
get_last [] y = refl
get_last (x ∷ xs) y = get_last xs y

or_left_of : {X : Type 0} (xs : List X) (y d : X) (i : ℕ) → i < length xs → get_or (xs ++ y ∷ []) i d ≡ get_or xs i d
or_left_of [] y d i h = absurd (omega arith)
or_left_of (x ∷ xs) y d zero h = refl
or_left_of (x ∷ xs) y d (suc i) h = or_left_of xs y d i (omega arith)

or_last : {X : Type 0} (xs : List X) (y d : X) → get_or (xs ++ y ∷ []) (length xs) d ≡ y
or_last [] y d = refl
or_last (x ∷ xs) y d = or_last xs y d

one_longer : {X : Type 0} (xs : List X) (y : X) → length (xs ++ y ∷ []) ≡ length xs + 1
one_longer xs y = length-append xs (y ∷ []) ∙ omega arith

pub plain_none : (nodes : List Node) → IsPlain nodes 0 [] [] [] []
plain_none nodes = record {
  ops_long = refl;
  lanes_long = refl;
  places_long = refl;
  takes_long = refl;
  op = λ k node less at. absurd (omega arith);
  lane = λ k l node less small at. absurd (omega arith);
  place = λ k less. absurd (omega arith);
  take = λ k node less at. absurd (omega arith);
}

pub plain_more : (nodes : List Node) (n : ℕ) (ops : List Op) (lanes new : List ℕ) (places : List Lane) (takes : List Take) (op : Op) (lane : Lane) (take : Take) → ((node : Node) → slice_get nodes n ≡ Some node → op ≡ plain_op nodes node) → ((node : Node) → slice_get nodes n ≡ Some node → take ≡ plain_take nodes n node) → lane ≡ plain_place nodes n → length new ≡ length lanes + 16 → ((m : ℕ) → m < length lanes → slice_index new m ≡ slice_index lanes m) → ((l : ℕ) (node : Node) → l < 16 → slice_get nodes n ≡ Some node → slice_index new (length lanes + l) ≡ plain_node n node l) → IsPlain nodes n ops lanes places takes → IsPlain nodes (n + 1) (ops ++ op ∷ []) new (places ++ lane ∷ []) (takes ++ take ∷ [])
plain_more nodes n ops lanes new places takes op lane take here taken place long kept more plain =
    let ops_long = plain.ops_long in
    let lanes_long = plain.lanes_long in
    let places_long = plain.places_long in
    let takes_long = plain.takes_long in
    record {
      ops_long = one_longer ops op ∙ omega arith;
      lanes_long = long ∙ omega arith;
      places_long = one_longer places lane ∙ omega arith;
      takes_long = one_longer takes take ∙ omega arith;
      op = λ k node less at. elim (cases_eq k n) [
        | inl e ↦
            let same : k ≡ length ops = omega arith in
            ap (slice_get (ops ++ op ∷ [])) same ∙ get_last ops op ∙ ap Some (here node (ap (slice_get nodes) (sym e) ∙ at))
        | inr ne ↦ get_left ops op k (omega arith) ∙ plain.op k node (omega arith) at
      ];
      lane = λ k l node less small at. elim (cases_eq k n) [
        | inl e ↦
            let same : 16 * k + l ≡ length lanes + l = omega arith in
            ap (slice_index new) same ∙ more l node small (ap (slice_get nodes) (sym e) ∙ at) ∙ ap (λ m. plain_node m node l) (sym e)
        | inr ne ↦ kept (16 * k + l) (omega arith) ∙ plain.lane k l node (omega arith) small at
      ];
      place = λ k less. elim (cases_eq k n) [
        | inl e ↦
            let same : k ≡ length places = omega arith in
            ap (place_of (places ++ lane ∷ [])) same ∙ or_last places lane (record { slot = 0; at = 0 }) ∙ place ∙ ap (plain_place nodes) (sym e)
        | inr ne ↦ or_left_of places lane (record { slot = 0; at = 0 }) k (omega arith) ∙ plain.place k (omega arith)
      ];
      take = λ k node less at. elim (cases_eq k n) [
        | inl e ↦
            let same : k ≡ length takes = omega arith in
            ap (slice_get (takes ++ take ∷ [])) same ∙ get_last takes take ∙ ap Some (taken node (ap (slice_get nodes) (sym e) ∙ at) ∙ ap (λ m. plain_take nodes m node) (sym e))
        | inr ne ↦ get_left takes take k (omega arith) ∙ plain.take k node (omega arith) at
      ];
    }
