-- Operations give slots the values of an evaluation.
use Rattle.std.proofs.Common.{◌≡◌, ◌≢◌, ℕ, zero, suc, ◌+◌, ◌-◌, ◌*◌, ◌<◌, ◌≤◌, Bool, true, false, List, length, get_or, set, Some, Option, refl, ap, sym, ◌∙◌, arith, inl, inr, subst, length-set, get_or-set_same, get_or-set_other}
use Rattle.std.specs.Prelude.{not, ◌&&◌, ◌||◌, slice_get, MatchOption, if◌then◌else◌}
use Rattle.std.specs.List.{All, list_any, count_by}
use Rattle.std.proofs.lemmas.Bool.{cases_Bool, cases_eq, and_parts, or_parts}
use Rattle.std.proofs.lemmas.List.{get_or-map}
use Rattle.std.proofs.lemmas.List.Elements.{All-weaker}
use Rattle.std.proofs.lemmas.Option.{same_Some, slice_get-get_or, slice_get_within}
use Rattle.word16.specs.Words.{has_bit}
use Rattle.netlist.specs.declared.node.Node.{Node}
use Rattle.netlist.specs.declared.node.Node.TheVariants.{Pin, Nand, Flip, Word, Zero}
use Rattle.netlist.specs.declared.node.Block.{Block}
use Rattle.netlist.specs.Order.{AreOrdered}
use Rattle.netlist.specs.Present.{IsRow, value_in}
use Rattle.netlist.specs.Reads.{address_in}
use Rattle.netlist.specs.Settled.{AreSettled}
use Rattle.netlist.specs.Touched.{is_other}
use Rattle.netlist.specs.Value.{shown_value}
use Rattle.netlist.specs.Inner.Taken.{is_taken}
use Rattle.netlist.proofs.Following.{other_same, list_any_same, list_any_off, shown_on, taken_gate, taken_bit}
use Rattle.netlist.proofs.Rows.{value_now}
use Rattle.gate_sim.specs.declared.plan.Lane.{Lane}
use Rattle.gate_sim.specs.declared.plan.Slot.{Slot}
use Rattle.gate_sim.specs.Inner.Plans.{node_at, place_of, IsEarlier, IsHeld, IsGate, IsSuch, ArePair, IsGatesLane, IsLoneLane, IsSpreadLane, IsMoveLane, IsPlacedBefore, IsReadLane, IsPlaced}
use Rattle.gate_sim.specs.Inner.Slots.{slot_at, lane_value, value_at, change_at, values_of, HasValues, IsPassedSlot, AreStored, ArePassed, Evaluates, count_below, is_taken_before, taken_before, PassesOp, Passes}
use Rattle.netlist.proofs.Exist.{has_row}
use Rattle.netlist.proofs.Keeping.{get_there}
use Rattle.gate_sim.proofs.Counting.{more_before, one_before, lanes_before, all_before, same_count}

-- ---- gates

gate_there : (P : ℕ → ℕ → Type 0) (node : Node) → IsGate P node → (i : ℕ) × (j : ℕ) × (node ≡ Nand i j) × P i j
gate_there P Pin h = absurd h
gate_there P (Nand i j) h = (i, j, refl, h)
gate_there P (Flip i) h = absurd h
gate_there P (Word b bit) h = absurd h
gate_there P Zero h = absurd h

pub gate_at : (nodes : List Node) (k : ℕ) (P : ℕ → ℕ → Type 0) → k < length nodes → IsSuch nodes k (IsGate P) → (i : ℕ) × (j : ℕ) × (slice_get nodes k ≡ Some (Nand i j)) × P i j
gate_at nodes k P inside is =
    let there = slice_get-get_or nodes k Pin inside in
    let gate = gate_there P (get_or nodes k Pin) (is (get_or nodes k Pin) there) in
    (gate.0, gate.1, there ∙ ap Some gate.2, gate.3)

-- a gate that is evaluated where an input changed has its value, and so it has where none did
pub gate_kept : (whole wx rx wy ry wk : Bool) → (whole ≡ false → wk ≡ not (wx && wy)) → (if whole || (is_other wx rx || is_other wy ry) then not (rx && ry) else wk) ≡ not (rx && ry)
gate_kept true wx rx wy ry wk s = refl
gate_kept false true true true true wk s = s refl
gate_kept false true true false false wk s = s refl
gate_kept false false false true true wk s = s refl
gate_kept false false false false false wk s = s refl
gate_kept false true false wy ry wk s = refl
gate_kept false false true wy ry wk s = refl
gate_kept false true true true false wk s = refl
gate_kept false true true false true wk s = refl
gate_kept false false false true false wk s = refl
gate_kept false false false false true wk s = refl

and_turned : (x y : Bool) → (x && y) ≡ (y && x)
and_turned true true = refl
and_turned true false = refl
and_turned false true = refl
and_turned false false = refl

or_turned : (x y : Bool) → (x || y) ≡ (y || x)
or_turned true true = refl
or_turned true false = refl
or_turned false true = refl
or_turned false false = refl

pair_and : (f : ℕ → Bool) (x y i j : ℕ) → ArePair x y i j → (f x && f y) ≡ (f i && f j)
pair_and f x y i j (inl h) = let a = h.0 in let b = h.1 in rw (a, b) refl
pair_and f x y i j (inr h) = let a = h.0 in let b = h.1 in rw (a, b) (and_turned (f j) (f i))

pair_or : (f : ℕ → Bool) (x y i j : ℕ) → ArePair x y i j → (f x || f y) ≡ (f i || f j)
pair_or f x y i j (inl h) = let a = h.0 in let b = h.1 in rw (a, b) refl
pair_or f x y i j (inr h) = let a = h.0 in let b = h.1 in rw (a, b) (or_turned (f j) (f i))

pair_below : (x y i j n : ℕ) → ArePair x y i j → i < n → j < n → (x < n) × (y < n)
pair_below x y i j n (inl h) a b = let e = h.0 in let f = h.1 in (omega arith, omega arith)
pair_below x y i j n (inr h) a b = let e = h.0 in let f = h.1 in (omega arith, omega arith)

picked_same : (m m' w ca ca' cb cb' va va' vb vb' o o' : Bool) → m ≡ m' → ca ≡ ca' → cb ≡ cb' → va ≡ va' → vb ≡ vb' → o ≡ o' → (if m && (w || (ca || cb)) then not (va && vb) else o) ≡ (if m' && (w || (ca' || cb')) then not (va' && vb') else o')
picked_same m m' w ca ca' cb cb' va va' vb vb' o o' em ea eb ex ey eo = rw (em, ea, eb, ex, ey, eo) refl

other_both : (a b c d : Bool) → a ≡ b → c ≡ d → is_other a c ≡ is_other b d
other_both a b c d e f = rw (e, f) refl

module _ (nodes : List Node) (blocks : List Block) (lanes : List ℕ) (places : List Lane) (start : ℕ → Bool) (words : ℕ → ℕ → ℕ) (written : ℕ → Bool) (whole : Bool) (was row : ℕ → Bool) (q : ℕ) (slots : List Slot) (ordered : AreOrdered nodes blocks) (ev : Evaluates nodes blocks start words written whole was row) (far : ArePassed (length nodes) lanes was row q slots) (here : q < length slots) where
  old_is : HasValues (length nodes) lanes was q (slot_at slots q).value
  old_is = far.stored q (omega arith) here

  next_slot : (taken : Node → Bool) → count_below (is_taken_before nodes places taken (16 * (q + 1))) (length nodes) ≡ count_below (is_taken_before nodes places taken (16 * q + 16)) (length nodes)
  next_slot taken = let e : 16 * (q + 1) ≡ 16 * q + 16 = omega arith in ap (λ p. count_below (is_taken_before nodes places taken p) (length nodes)) e

  -- a slot of which the values are right, and the changes against what was there
  pub slot_right : (slot : Slot) → HasValues (length nodes) lanes row q slot.value → ((l : ℕ) → l < 16 → has_bit slot.change l ≡ is_other (has_bit (slot_at slots q).value l) (has_bit slot.value l)) → IsPassedSlot (length nodes) lanes was row q slot
  slot_right slot now change = record {
    now = now;
    told = λ l less inside. change l less ∙ other_both (has_bit (slot_at slots q).value l) (was (node_at lanes q l)) (has_bit slot.value l) (row (node_at lanes q l)) (old_is l less inside) (now l less inside);
  }

  held_is : (k : ℕ) (node : Node) → slice_get nodes k ≡ Some node → IsHeld node → row k ≡ start k
  held_is k Pin at h = ev.is_row k Pin at
  held_is k (Nand i j) at h = absurd h
  held_is k (Flip i) at h = ev.is_row k (Flip i) at
  held_is k (Word b bit) at h = absurd h
  held_is k Zero at h = absurd h

  pub held_right : (slot : Slot) → ((l : ℕ) → l < 16 → node_at lanes q l < length nodes → IsSuch nodes (node_at lanes q l) IsHeld) → HasValues (length nodes) lanes start q slot.value → ((l : ℕ) → has_bit slot.change l ≡ is_other (has_bit (slot_at slots q).value l) (has_bit slot.value l)) → IsPassedSlot (length nodes) lanes was row q slot
  held_right slot held has change =
      slot_right slot
      (λ l less inside.
      let there = slice_get-get_or nodes (node_at lanes q l) Pin inside in
      has l less inside ∙ sym (held_is (node_at lanes q l) (get_or nodes (node_at lanes q l) Pin) there (held l less inside (get_or nodes (node_at lanes q l) Pin) there)))
      (λ l less. change l)

  pub zeros_right : (slot : Slot) → ((l : ℕ) → l < 16 → node_at lanes q l < length nodes → IsSuch nodes (node_at lanes q l) (λ node. node ≡ Zero)) → ((l : ℕ) → has_bit slot.value l ≡ false) → ((l : ℕ) → has_bit slot.change l ≡ is_other (has_bit (slot_at slots q).value l) (has_bit slot.value l)) → IsPassedSlot (length nodes) lanes was row q slot
  zeros_right slot zeros none change =
      slot_right slot
      (λ l less inside.
      let there = slice_get-get_or nodes (node_at lanes q l) Pin inside in
      none l ∙ sym (ev.is_row (node_at lanes q l) Zero (there ∙ ap Some (zeros l less inside (get_or nodes (node_at lanes q l) Pin) there))))
      (λ l less. change l)

  -- the gate of two nodes has its value
  gate_is : (k i j x y : ℕ) → slice_get nodes k ≡ Some (Nand i j) → ArePair x y i j → (if whole || (is_other (was x) (row x) || is_other (was y) (row y)) then not (row x && row y) else was k) ≡ row k
  gate_is k i j x y at pair =
      gate_kept whole (was x) (row x) (was y) (row y) (was k) (λ e. (ev.settled e).gates k i j at ∙ ap not (sym (pair_and was x y i j pair)))
      ∙ ap not (pair_and row x y i j pair) ∙ sym (ev.is_row k (Nand i j) at)

  taken_is : (k i j x y : ℕ) → slice_get nodes k ≡ Some (Nand i j) → ArePair x y i j → (whole || (is_other (was x) (row x) || is_other (was y) (row y))) ≡ true → is_taken whole blocks (λ m. is_other (was m) (row m)) written (get_or nodes k Pin) ≡ true
  taken_is k i j x y at pair e =
      let is : get_or nodes k Pin ≡ Nand i j = same_Some (get_or nodes k Pin) (Nand i j) (sym (slice_get-get_or nodes k Pin (slice_get_within nodes k (Nand i j) at)) ∙ at) in
      ap (is_taken whole blocks (λ m. is_other (was m) (row m)) written) is ∙ taken_gate whole blocks (λ m. is_other (was m) (row m)) written i j ∙ ap (λ z. whole || z) (sym (pair_or (λ m. is_other (was m) (row m)) x y i j pair)) ∙ e

  gates_now : (a b mask : ℕ) → ((l : ℕ) → l < 16 → IsGatesLane nodes lanes places q l a b mask) → (slot : Slot) → ((l : ℕ) → l < 16 → has_bit slot.value l ≡ (if has_bit mask l && (whole || (has_bit (slot_at slots a).change l || has_bit (slot_at slots b).change l)) then not (has_bit (slot_at slots a).value l && has_bit (slot_at slots b).value l) else has_bit (slot_at slots q).value l)) → HasValues (length nodes) lanes row q slot.value
  gates_now a b mask right slot value l less inside =
      elim (cases_Bool (has_bit mask l)) [
        | inl on ↦
            let lane = right l less in
            let packed = lane.packed on in
            let gate = gate_at nodes (node_at lanes q l) (ArePair (node_at lanes a l) (node_at lanes b l)) packed.inside packed.gate in
            let order = ordered.fit (node_at lanes q l) (Nand gate.0 gate.1) gate.2 in
            let below = pair_below (node_at lanes a l) (node_at lanes b l) gate.0 gate.1 (length nodes) gate.3 (omega arith) (omega arith) in
            let sa = far.passed a lane.earlier_a in
            let sb = far.passed b lane.earlier_b in
            value l less
            ∙ picked_same (has_bit mask l) true whole (has_bit (slot_at slots a).change l) (is_other (was (node_at lanes a l)) (row (node_at lanes a l))) (has_bit (slot_at slots b).change l) (is_other (was (node_at lanes b l)) (row (node_at lanes b l))) (has_bit (slot_at slots a).value l) (row (node_at lanes a l)) (has_bit (slot_at slots b).value l) (row (node_at lanes b l)) (has_bit (slot_at slots q).value l) (was (node_at lanes q l))
            on (sa.told l less below.0) (sb.told l less below.1) (sa.now l less below.0) (sb.now l less below.1) (old_is l less inside)
            ∙ gate_is (node_at lanes q l) gate.0 gate.1 (node_at lanes a l) (node_at lanes b l) gate.2 gate.3
        | inr off ↦ let past = (right l less).bare off in absurd (omega arith)
      ]

  pub gates_right : (a b mask : ℕ) → ((l : ℕ) → l < 16 → IsGatesLane nodes lanes places q l a b mask) → (slot : Slot) → ((l : ℕ) → l < 16 → has_bit slot.value l ≡ (if has_bit mask l && (whole || (has_bit (slot_at slots a).change l || has_bit (slot_at slots b).change l)) then not (has_bit (slot_at slots a).value l && has_bit (slot_at slots b).value l) else has_bit (slot_at slots q).value l)) → ((l : ℕ) → l < 16 → has_bit slot.change l ≡ is_other (has_bit (slot_at slots q).value l) (has_bit slot.value l)) → IsPassedSlot (length nodes) lanes was row q slot
  gates_right a b mask right slot value change = slot_right slot (gates_now a b mask right slot value) change

  pub gates_counted : (a b mask old new : ℕ) → ((l : ℕ) → l < 16 → IsGatesLane nodes lanes places q l a b mask) → new ≡ old + count_below (λ l. has_bit mask l && (whole || (has_bit (slot_at slots a).change l || has_bit (slot_at slots b).change l))) 16 → new + taken_before nodes blocks places written whole was row q ≤ old + taken_before nodes blocks places written whole was row (q + 1)
  gates_counted a b mask old new right steps =
      let touched : ℕ → Bool = λ l. has_bit mask l && (whole || (has_bit (slot_at slots a).change l || has_bit (slot_at slots b).change l)) in
      let taken : Node → Bool = is_taken whole blocks (λ k. is_other (was k) (row k)) written in
      let all = lanes_before nodes places taken q touched
      (λ l less e.
      let parts = and_parts (has_bit mask l) (whole || (has_bit (slot_at slots a).change l || has_bit (slot_at slots b).change l)) e in
      let lane = right l less in
      let packed = lane.packed parts.0 in
      let gate = gate_at nodes (node_at lanes q l) (ArePair (node_at lanes a l) (node_at lanes b l)) packed.inside packed.gate in
      let order = ordered.fit (node_at lanes q l) (Nand gate.0 gate.1) gate.2 in
      let inside = packed.inside in
      let below = pair_below (node_at lanes a l) (node_at lanes b l) gate.0 gate.1 (length nodes) gate.3 (omega arith) (omega arith) in
      let ca = (far.passed a lane.earlier_a).told l less below.0 in
      let cb = (far.passed b lane.earlier_b).told l less below.1 in
      (node_at lanes q l, packed.inside, packed.placed, taken_is (node_at lanes q l) gate.0 gate.1 (node_at lanes a l) (node_at lanes b l) gate.2 gate.3 (touched_same whole (has_bit (slot_at slots a).change l) (is_other (was (node_at lanes a l)) (row (node_at lanes a l))) (has_bit (slot_at slots b).change l) (is_other (was (node_at lanes b l)) (row (node_at lanes b l))) ca cb parts.1)))
      16 (omega arith) in
      let next = next_slot taken in
      omega arith
    where
      touched_same : (w ca ca' cb cb' : Bool) → ca ≡ ca' → cb ≡ cb' → (w || (ca || cb)) ≡ true → (w || (ca' || cb')) ≡ true
      touched_same w ca ca' cb cb' ea eb e = let same : (w || (ca || cb)) ≡ (w || (ca' || cb')) = rw (ea, eb) refl in sym same ∙ e

  -- the value of an earlier lane, and whether it changed
  lane_now : (lane : Lane) (k : ℕ) → IsEarlier lanes q lane k → k < length nodes → lane_value slots lane ≡ row k
  lane_now lane k is inside =
      let same = is.same in
      (far.passed lane.slot is.earlier).now lane.at is.inside (omega arith) ∙ ap row is.same

  pub lane_told : (lane : Lane) (k : ℕ) → IsEarlier lanes q lane k → k < length nodes → has_bit (slot_at slots lane.slot).change lane.at ≡ is_other (was k) (row k)
  lane_told lane k is inside =
      let same = is.same in
      (far.passed lane.slot is.earlier).told lane.at is.inside (omega arith) ∙ ap (λ i. is_other (was i) (row i)) is.same

  lone_same : (w ca ca' cb cb' va va' vb vb' o o' : Bool) → ca ≡ ca' → cb ≡ cb' → va ≡ va' → vb ≡ vb' → o ≡ o' → (if w || (ca || cb) then not (va && vb) else o) ≡ (if w || (ca' || cb') then not (va' && vb') else o')
  lone_same w ca ca' cb cb' va va' vb vb' o o' ea eb ex ey eo = rw (ea, eb, ex, ey, eo) refl

  pub lone_right : (a b : Lane) → ((l : ℕ) → l < 16 → IsLoneLane nodes lanes places q l a b) → (slot : Slot) → ((l : ℕ) → l < 16 → has_bit slot.value l ≡ (if whole || (has_bit (slot_at slots a.slot).change a.at || has_bit (slot_at slots b.slot).change b.at) then not (lane_value slots a && lane_value slots b) else has_bit (slot_at slots q).value l)) → ((l : ℕ) → l < 16 → has_bit slot.change l ≡ is_other (has_bit (slot_at slots q).value l) (has_bit slot.value l)) → IsPassedSlot (length nodes) lanes was row q slot
  lone_right a b right slot value change =
      slot_right slot
      (λ l less inside.
      let lane = right l less in
      let gate = gate_at nodes (node_at lanes q l) (λ i j. IsEarlier lanes q a i × IsEarlier lanes q b j) lane.inside lane.gate in
      let order = ordered.fit (node_at lanes q l) (Nand gate.0 gate.1) gate.2 in
      let small = lane.inside in
      value l less
      ∙ lone_same whole (has_bit (slot_at slots a.slot).change a.at) (is_other (was gate.0) (row gate.0)) (has_bit (slot_at slots b.slot).change b.at) (is_other (was gate.1) (row gate.1)) (lane_value slots a) (row gate.0) (lane_value slots b) (row gate.1) (has_bit (slot_at slots q).value l) (was (node_at lanes q l))
      (lane_told a gate.0 gate.3.0 (omega arith)) (lane_told b gate.1 gate.3.1 (omega arith)) (lane_now a gate.0 gate.3.0 (omega arith)) (lane_now b gate.1 gate.3.1 (omega arith)) (old_is l less inside)
      ∙ gate_is (node_at lanes q l) gate.0 gate.1 gate.0 gate.1 gate.2 (inl (refl, refl)))
      change

  pub lone_counted : (a b : Lane) (old new : ℕ) → ((l : ℕ) → l < 16 → IsLoneLane nodes lanes places q l a b) → new ≡ old + (if whole || (has_bit (slot_at slots a.slot).change a.at || has_bit (slot_at slots b.slot).change b.at) then 1 else 0) → new + taken_before nodes blocks places written whole was row q ≤ old + taken_before nodes blocks places written whole was row (q + 1)
  lone_counted a b old new right steps =
      let taken : Node → Bool = is_taken whole blocks (λ k. is_other (was k) (row k)) written in
      let lane = right 0 (omega arith) in
      let gate = gate_at nodes (node_at lanes q 0) (λ i j. IsEarlier lanes q a i × IsEarlier lanes q b j) lane.inside lane.gate in
      let order = ordered.fit (node_at lanes q 0) (Nand gate.0 gate.1) gate.2 in
      let small = lane.inside in
      let ca = lane_told a gate.0 gate.3.0 (omega arith) in
      let cb = lane_told b gate.1 gate.3.1 (omega arith) in
      let same : (whole || (has_bit (slot_at slots a.slot).change a.at || has_bit (slot_at slots b.slot).change b.at)) ≡ (whole || (is_other (was gate.0) (row gate.0) || is_other (was gate.1) (row gate.1))) = either_same whole (has_bit (slot_at slots a.slot).change a.at) (is_other (was gate.0) (row gate.0)) (has_bit (slot_at slots b.slot).change b.at) (is_other (was gate.1) (row gate.1)) ca cb in
      go (whole || (has_bit (slot_at slots a.slot).change a.at || has_bit (slot_at slots b.slot).change b.at)) steps
      (λ e. one_before nodes places taken q 0 (node_at lanes q 0) lane.inside lane.placed (taken_is (node_at lanes q 0) gate.0 gate.1 gate.0 gate.1 gate.2 (inl (refl, refl)) (sym same ∙ e)))
      (more_before nodes places taken (16 * q) (16 * (q + 1)) (omega arith))
      (more_before nodes places taken (16 * q + 0 + 1) (16 * (q + 1)) (omega arith))
      (let none : 16 * q + 0 ≡ 16 * q = omega arith in ap (λ p. count_below (is_taken_before nodes places taken p) (length nodes)) none)
    where
      either_same : (w ca ca' cb cb' : Bool) → ca ≡ ca' → cb ≡ cb' → (w || (ca || cb)) ≡ (w || (ca' || cb'))
      either_same w ca ca' cb cb' ea eb = rw (ea, eb) refl

      go : {x y z u : ℕ} (t : Bool) → new ≡ old + (if t then 1 else 0) → (t ≡ true → u + 1 ≤ y) → x ≤ z → y ≤ z → u ≡ x → new + x ≤ old + z
      go true e one more late same = let h = one refl in omega arith
      go false e one more late same = omega arith

  pub spread_right : (a : Lane) → ((l : ℕ) → l < 16 → IsSpreadLane nodes lanes q l a) → (slot : Slot) → ((l : ℕ) → l < 16 → has_bit slot.value l ≡ lane_value slots a) → ((l : ℕ) → l < 16 → has_bit slot.change l ≡ has_bit (slot_at slots a.slot).change a.at) → IsPassedSlot (length nodes) lanes was row q slot
  spread_right a right slot value change = record {
    now = λ l less inside.
        let lane = right l less in
        value l less ∙ lane_now a (node_at lanes q l) (record { earlier = lane.earlier; inside = lane.inside; same = lane.same inside }) inside;
    told = λ l less inside.
        let lane = right l less in
        change l less ∙ lane_told a (node_at lanes q l) (record { earlier = lane.earlier; inside = lane.inside; same = lane.same inside }) inside;
  }

  pub move_right : (below a up down mask : ℕ) → ((l : ℕ) → l < 16 → IsMoveLane nodes lanes q l below a up down mask) → (slot : Slot) → ((l : ℕ) → l < 16 → has_bit mask l ≡ true → up ≤ l + down → l + down < 16 → (has_bit slot.value l ≡ has_bit (slot_at slots a).value (l + down - up)) × (has_bit slot.change l ≡ has_bit (slot_at slots a).change (l + down - up))) → ((l : ℕ) → l < 16 → has_bit mask l ≡ false → (has_bit slot.value l ≡ has_bit (slot_at slots below).value l) × (has_bit slot.change l ≡ has_bit (slot_at slots below).change l)) → IsPassedSlot (length nodes) lanes was row q slot
  move_right below a up down mask right slot moved kept = record {
    now = λ l less inside. elim (cases_Bool (has_bit mask l)) [
      | inl on ↦
          let lane = right l less in
          let from = lane.moved on in
          let same = from.2 in
          (moved l less on from.0 from.1).0 ∙ (far.passed a lane.earlier_a).now (l + down - up) (omega arith) (omega arith) ∙ ap row from.2
      | inr off ↦
          let lane = right l less in
          let same = lane.kept off inside in
          (kept l less off).0 ∙ (far.passed below lane.earlier_below).now l less (omega arith) ∙ ap row same
    ];
    told = λ l less inside. elim (cases_Bool (has_bit mask l)) [
      | inl on ↦
          let lane = right l less in
          let from = lane.moved on in
          let same = from.2 in
          (moved l less on from.0 from.1).1 ∙ (far.passed a lane.earlier_a).told (l + down - up) (omega arith) (omega arith) ∙ ap (λ i. is_other (was i) (row i)) from.2
      | inr off ↦
          let lane = right l less in
          let same = lane.kept off inside in
          (kept l less off).1 ∙ (far.passed below lane.earlier_below).told l less (omega arith) ∙ ap (λ i. is_other (was i) (row i)) same
    ];
  }

  -- nothing is evaluated
  pub none_counted : (old new : ℕ) → new ≡ old → new + taken_before nodes blocks places written whole was row q ≤ old + taken_before nodes blocks places written whole was row (q + 1)
  none_counted old new same =
      let more = more_before nodes places (is_taken whole blocks (λ k. is_other (was k) (row k)) written) (16 * q) (16 * (q + 1)) (omega arith) in
      omega arith

  -- the same where the slots that are read have other names
  pub gates_via : (a b mask : ℕ) → ((l : ℕ) → l < 16 → IsGatesLane nodes lanes places q l a b mask) → (slot sa sb so : Slot) → sa ≡ slot_at slots a → sb ≡ slot_at slots b → so ≡ slot_at slots q → ((l : ℕ) → l < 16 → has_bit slot.value l ≡ (if has_bit mask l && (whole || (has_bit sa.change l || has_bit sb.change l)) then not (has_bit sa.value l && has_bit sb.value l) else has_bit so.value l)) → ((l : ℕ) → l < 16 → has_bit slot.change l ≡ is_other (has_bit so.value l) (has_bit slot.value l)) → IsPassedSlot (length nodes) lanes was row q slot
  gates_via a b mask right slot sa sb so ea eb eo value change =
      gates_right a b mask right slot
      (λ l less. value l less ∙ picked_same (has_bit mask l) (has_bit mask l) whole (has_bit sa.change l) (has_bit (slot_at slots a).change l) (has_bit sb.change l) (has_bit (slot_at slots b).change l) (has_bit sa.value l) (has_bit (slot_at slots a).value l) (has_bit sb.value l) (has_bit (slot_at slots b).value l) (has_bit so.value l) (has_bit (slot_at slots q).value l)
      refl (ap (λ s. has_bit s.change l) ea) (ap (λ s. has_bit s.change l) eb) (ap (λ s. has_bit s.value l) ea) (ap (λ s. has_bit s.value l) eb) (ap (λ s. has_bit s.value l) eo))
      (λ l less. change l less ∙ ap (λ s. is_other (has_bit s.value l) (has_bit slot.value l)) eo)

  pub gates_counted_via : (a b mask old new : ℕ) (sa sb : Slot) → ((l : ℕ) → l < 16 → IsGatesLane nodes lanes places q l a b mask) → sa ≡ slot_at slots a → sb ≡ slot_at slots b → new ≡ old + count_below (λ l. has_bit mask l && (whole || (has_bit sa.change l || has_bit sb.change l))) 16 → new + taken_before nodes blocks places written whole was row q ≤ old + taken_before nodes blocks places written whole was row (q + 1)
  gates_counted_via a b mask old new sa sb right ea eb steps =
      gates_counted a b mask old new right (steps ∙ ap (λ n. old + n) (same_count (λ l. has_bit mask l && (whole || (has_bit sa.change l || has_bit sb.change l))) (λ l. has_bit mask l && (whole || (has_bit (slot_at slots a).change l || has_bit (slot_at slots b).change l))) 16
      (λ l less. ap (λ x. has_bit mask l && (whole || (x || has_bit sb.change l))) (ap (λ s. has_bit s.change l) ea) ∙ ap (λ x. has_bit mask l && (whole || (has_bit (slot_at slots a).change l || x))) (ap (λ s. has_bit s.change l) eb))))

  pub lone_via : (a b : Lane) → ((l : ℕ) → l < 16 → IsLoneLane nodes lanes places q l a b) → (slot so : Slot) → so ≡ slot_at slots q → ((l : ℕ) → l < 16 → has_bit slot.value l ≡ (if whole || (has_bit (slot_at slots a.slot).change a.at || has_bit (slot_at slots b.slot).change b.at) then not (lane_value slots a && lane_value slots b) else has_bit so.value l)) → ((l : ℕ) → l < 16 → has_bit slot.change l ≡ is_other (has_bit so.value l) (has_bit slot.value l)) → IsPassedSlot (length nodes) lanes was row q slot
  lone_via a b right slot so eo value change =
      lone_right a b right slot
      (λ l less. value l less ∙ lone_same whole (has_bit (slot_at slots a.slot).change a.at) (has_bit (slot_at slots a.slot).change a.at) (has_bit (slot_at slots b.slot).change b.at) (has_bit (slot_at slots b.slot).change b.at) (lane_value slots a) (lane_value slots a) (lane_value slots b) (lane_value slots b) (has_bit so.value l) (has_bit (slot_at slots q).value l) refl refl refl refl (ap (λ s. has_bit s.value l) eo))
      (λ l less. change l less ∙ ap (λ s. is_other (has_bit s.value l) (has_bit slot.value l)) eo)

  -- ---- words of blocks

  module _ (placed : (k : ℕ) → k < length nodes → IsPlaced (length slots) lanes places k) where
    node_now : (i : ℕ) → IsPlacedBefore (length nodes) places q i → value_at places slots i ≡ row i
    node_now i before =
        let is = placed i before.inside in
        lane_now (place_of places i) i (record { earlier = before.earlier; inside = is.at; same = is.same }) before.inside

    node_told : (i : ℕ) → IsPlacedBefore (length nodes) places q i → change_at places slots i ≡ is_other (was i) (row i)
    node_told i before =
        let is = placed i before.inside in
        lane_told (place_of places i) i (record { earlier = before.earlier; inside = is.at; same = is.same }) before.inside

    -- a bit of a word that is read where the block was written or its address changed has its value, and so it has where neither
    bit_kept : (o : Option Block) (b l : ℕ) (shown : ℕ → ℕ) (k : ℕ) (old : Bool) → All (IsPlacedBefore (length nodes) places q) (address_in o) → row k ≡ has_bit (shown_value o shown row) l → (whole ≡ false → written b ≡ false → was k ≡ has_bit (shown_value o shown was) l) → old ≡ was k → (if (whole || written b) || list_any (change_at places slots) (address_in o) then has_bit (shown_value o shown (value_at places slots)) l else old) ≡ row k
    bit_kept o b l shown k old before is settled same = go (whole || written b) (list_any (change_at places slots) (address_in o)) refl refl
      where
        read : has_bit (shown_value o shown (value_at places slots)) l ≡ row k
        read = ap (λ w. has_bit w l) (shown_on o shown (value_at places slots) row (All-weaker (IsPlacedBefore (length nodes) places q) (λ i. value_at places slots i ≡ row i) node_now (address_in o) before)) ∙ sym is

        go : (x y : Bool) → (whole || written b) ≡ x → list_any (change_at places slots) (address_in o) ≡ y → (if x || y then has_bit (shown_value o shown (value_at places slots)) l else old) ≡ row k
        go true y ex ey = read
        go false true ex ey = read
        go false false ex ey =
            let parts = or_parts whole (written b) ex in
            let told : list_any (λ i. is_other (was i) (row i)) (address_in o) ≡ false = sym (list_any_same (change_at places slots) (λ i. is_other (was i) (row i)) (address_in o) (All-weaker (IsPlacedBefore (length nodes) places q) (λ i. change_at places slots i ≡ is_other (was i) (row i)) node_told (address_in o) before)) ∙ ey in
            let off = list_any_off (λ i. is_other (was i) (row i)) (address_in o) told in
            let both = All-weaker (λ i. is_other (was i) (row i) ≡ false) (λ i. was i ≡ row i) (λ i e. other_same (was i) (row i) e) (address_in o) off in
            same ∙ settled parts.0 parts.1 ∙ ap (λ w. has_bit w l) (shown_on o shown was row both) ∙ sym is

    word_at_node : (list : List Node) (k b l : ℕ) → k < length list → IsSuch list k (λ node. node ≡ Word b l) → slice_get list k ≡ Some (Word b l)
    word_at_node list k b l inside is = let there = slice_get-get_or list k Pin inside in there ∙ ap Some (is (get_or list k Pin) there)

    pub read_right : (b mask : ℕ) (address : Option Lane) → ((l : ℕ) → l < 16 → IsReadLane nodes blocks lanes places q l b mask address) → (slot : Slot) → ((l : ℕ) → l < 16 → has_bit slot.value l ≡ (if (whole || written b) || list_any (change_at places slots) (address_in (slice_get blocks b)) then has_bit (shown_value (slice_get blocks b) (words b) (value_at places slots)) l else has_bit (slot_at slots q).value l)) → ((l : ℕ) → l < 16 → has_bit slot.change l ≡ is_other (has_bit (slot_at slots q).value l) (has_bit slot.value l)) → IsPassedSlot (length nodes) lanes was row q slot
    read_right b mask address right slot value change =
        slot_right slot
        (λ l less inside.
        elim (cases_Bool (has_bit mask l)) [
          | inl on ↦
              let bit = (right l less).read on in
              let k = node_at lanes q l in
              let at : slice_get nodes k ≡ Some (Word b l) = word_at_node nodes k b l bit.inside bit.bit in
              value l less ∙ bit_kept (slice_get blocks b) b l (words b) k (has_bit (slot_at slots q).value l) bit.address (ev.is_row k (Word b l) at) (λ e off. (ev.settled e).bits k b l at off) (old_is l less inside)
          | inr off ↦ let past = (right l less).bare off in absurd (omega arith)
        ])
        change

    pub read_via : (b mask : ℕ) (address : Option Lane) → ((l : ℕ) → l < 16 → IsReadLane nodes blocks lanes places q l b mask address) → (slot so : Slot) → so ≡ slot_at slots q → ((l : ℕ) → l < 16 → has_bit slot.value l ≡ (if (whole || written b) || list_any (change_at places slots) (address_in (slice_get blocks b)) then has_bit (shown_value (slice_get blocks b) (words b) (value_at places slots)) l else has_bit so.value l)) → ((l : ℕ) → l < 16 → has_bit slot.change l ≡ is_other (has_bit so.value l) (has_bit slot.value l)) → IsPassedSlot (length nodes) lanes was row q slot
    read_via b mask address right slot so eo value change =
        read_right b mask address right slot
        (λ l less. value l less ∙ ap (λ s. if (whole || written b) || list_any (change_at places slots) (address_in (slice_get blocks b)) then has_bit (shown_value (slice_get blocks b) (words b) (value_at places slots)) l else has_bit s.value l) eo)
        (λ l less. change l less ∙ ap (λ s. is_other (has_bit s.value l) (has_bit slot.value l)) eo)

    if_count : (t : Bool) (f : ℕ → Bool) (n : ℕ) → (if t then count_below f n else 0) ≡ count_below (λ l. t && f l) n
    if_count true f zero = refl
    if_count false f zero = refl
    if_count true f (suc n) = let rest = if_count true f n in ap (λ m. m + (if f n then 1 else 0)) rest
    if_count false f (suc n) = let rest = if_count false f n in rest ∙ omega arith

    pub read_counted : (b mask old new : ℕ) (address : Option Lane) → ((l : ℕ) → l < 16 → IsReadLane nodes blocks lanes places q l b mask address) → new ≡ old + (if (whole || written b) || list_any (change_at places slots) (address_in (slice_get blocks b)) then count_below (has_bit mask) 16 else 0) → new + taken_before nodes blocks places written whole was row q ≤ old + taken_before nodes blocks places written whole was row (q + 1)
    read_counted b mask old new address right steps =
        let taken : Node → Bool = is_taken whole blocks (λ k. is_other (was k) (row k)) written in
        let t : Bool = (whole || written b) || list_any (change_at places slots) (address_in (slice_get blocks b)) in
        let all = lanes_before nodes places taken q (λ l. t && has_bit mask l)
        (λ l less e.
        let parts = and_parts t (has_bit mask l) e in
        let bit = (right l less).read parts.1 in
        let k = node_at lanes q l in
        let is : get_or nodes k Pin ≡ Word b l = bit.bit (get_or nodes k Pin) (slice_get-get_or nodes k Pin bit.inside) in
        let before = All-weaker (IsPlacedBefore (length nodes) places q) (λ i. is_other (was i) (row i) ≡ change_at places slots i) (λ i h. sym (node_told i h)) (address_in (slice_get blocks b)) bit.address in
        (k, bit.inside, bit.placed, ap taken is ∙ taken_bit whole blocks (λ i. is_other (was i) (row i)) (change_at places slots) written b l before ∙ parts.0))
        16 (omega arith) in
        let same = if_count t (has_bit mask) 16 in
        let next = next_slot taken in
        omega arith

-- ---- what an operation may read

pub lone_inputs : (nodes : List Node) (lanes : List ℕ) (places : List Lane) (q : ℕ) (a b : Lane) → IsLoneLane nodes lanes places q 0 a b → (a.slot < q) × (a.at < 16) × (b.slot < q) × (b.at < 16)
lone_inputs nodes lanes places q a b lane =
    let gate = gate_at nodes (node_at lanes q 0) (λ i j. IsEarlier lanes q a i × IsEarlier lanes q b j) lane.inside lane.gate in
    (gate.3.0.earlier, gate.3.0.inside, gate.3.1.earlier, gate.3.1.inside)

pub read_address : (nodes : List Node) (blocks : List Block) (n b : ℕ) → AreOrdered nodes blocks → n ≡ length nodes → b < length blocks → MatchOption (slice_get blocks b) ⊥ (λ block. All (λ i. i < n) block.address)
read_address nodes blocks n b ordered long inside =
    let there = get_there blocks b inside in
    subst (λ o. MatchOption o ⊥ (λ block. All (λ i. i < n) block.address)) (sym there.1) (subst (λ m. All (λ i. i < m) there.0.address) (sym long) (ordered.read b there.0 there.1).0)

-- ---- slot after slot

pub passed_more : (n : ℕ) (lanes : List ℕ) (was row : ℕ → Bool) (q : ℕ) (slots : List Slot) (slot : Slot) → q < length slots → ArePassed n lanes was row q slots → IsPassedSlot n lanes was row q slot → ArePassed n lanes was row (q + 1) (set slots q slot)
passed_more n lanes was row q slots slot inside far is = record {
  passed = λ p less. elim (cases_eq p q) [
    | inl e ↦
        subst (λ m. IsPassedSlot n lanes was row m (slot_at (set slots q slot) m)) (sym e)
        (subst (IsPassedSlot n lanes was row q) (sym (get_or-set_same slots q slot (record { value = 0; change = 0 }) inside)) is)
    | inr ne ↦ subst (IsPassedSlot n lanes was row p) (sym (get_or-set_other slots q p slot (record { value = 0; change = 0 }) ne)) (far.passed p (omega arith))
  ];
  stored = λ p le less.
      let ne : p ≢ q = omega arith in
      let long = length-set slots q slot in
      subst (λ x. HasValues n lanes was p x.value) (sym (get_or-set_other slots q p slot (record { value = 0; change = 0 }) ne)) (far.stored p (omega arith) (omega arith));
}

module _ (nodes : List Node) (blocks : List Block) (lanes : List ℕ) (places : List Lane) (start : ℕ → Bool) (words : ℕ → ℕ → ℕ) (written : ℕ → Bool) (whole : Bool) where
  pub passes_none : (q : ℕ) (slots : List Slot) (steps : ℕ) → Passes nodes blocks lanes places start words written whole q q slots slots steps steps
  passes_none q slots steps was row ev far = (far, omega arith)

  pub passes_more : (from q : ℕ) (slots new : List Slot) (slot : Slot) (before now after : ℕ) → q < length new → Passes nodes blocks lanes places start words written whole from q slots new before now → PassesOp nodes blocks lanes places start words written whole q new slot now after → Passes nodes blocks lanes places start words written whole from (q + 1) slots (set new q slot) before after
  passes_more from q slots new slot before now after inside far op was row ev begun =
      let so_far = far was row ev begun in
      let one = op was row ev so_far.0 in
      let a = so_far.1 in
      let b = one.1 in
      (passed_more (length nodes) lanes was row q new slot inside so_far.0 one.0, omega arith)

  pub passes_then : (from mid end : ℕ) (slots between new : List Slot) (before now after : ℕ) → Passes nodes blocks lanes places start words written whole from mid slots between before now → Passes nodes blocks lanes places start words written whole mid end between new now after → Passes nodes blocks lanes places start words written whole from end slots new before after
  passes_then from mid end slots between new before now after first second was row ev begun =
      let a = first was row ev begun in
      let b = second was row ev a.0 in
      let x = a.1 in
      let y = b.1 in
      (b.0, omega arith)

-- ---- all slots

pub value_placed : (places : List Lane) (slots : List Slot) (k : ℕ) → k < length places → value_in (values_of places slots) k ≡ value_at places slots k
value_placed places slots k less = get_or-map (lane_value slots) places k (record { slot = 0; at = 0 }) false less

-- values that agree with a row on all nodes are a row
pub row_agrees : (nodes : List Node) (blocks : List Block) (start : ℕ → Bool) (words : ℕ → ℕ → ℕ) (row v : ℕ → Bool) → AreOrdered nodes blocks → IsRow nodes blocks start words row → ((k : ℕ) → k < length nodes → v k ≡ row k) → IsRow nodes blocks start words v
row_agrees nodes blocks start words row v ordered is agree k node at =
    let inside = slice_get_within nodes k node at in
    agree k inside ∙ is k node at ∙ value_now (length nodes) blocks start words row v k node (ordered.fit k node at) (λ i below. sym (agree i (omega arith)))

-- the values of nodes whose slots are passed
pub passed_value : (n m : ℕ) (lanes : List ℕ) (places : List Lane) (was row : ℕ → Bool) (slots : List Slot) → ArePassed n lanes was row m slots → length places ≡ n → ((k : ℕ) → k < n → IsPlaced m lanes places k) → (k : ℕ) → k < n → value_in (values_of places slots) k ≡ row k
passed_value n m lanes places was row slots far long placed k less =
    let is = placed k less in
    let same = is.same in
    value_placed places slots k (omega arith) ∙ (far.passed (place_of places k).slot is.slot).now (place_of places k).at is.at (omega arith) ∙ ap row is.same

-- nothing is passed yet
pub passed_none : (n : ℕ) (lanes : List ℕ) (was row : ℕ → Bool) (slots : List Slot) → AreStored n lanes was slots → ArePassed n lanes was row 0 slots
passed_none n lanes was row slots stored = record { passed = λ p less. absurd (omega arith); stored = λ p le less. stored p less }

-- all is passed
module _ (nodes : List Node) (blocks : List Block) (lanes : List ℕ) (places : List Lane) (start : ℕ → Bool) (words : ℕ → ℕ → ℕ) (written : ℕ → Bool) (whole : Bool) (slots new : List Slot) (before after : ℕ) (ordered : AreOrdered nodes blocks) (long : length places ≡ length nodes) (placed : (k : ℕ) → k < length nodes → IsPlaced (length new) lanes places k) (stored : AreStored (length nodes) lanes (value_in (values_of places slots)) slots) (settled : whole ≡ false → AreSettled nodes blocks written words (value_in (values_of places slots))) (far : Passes nodes blocks lanes places start words written whole 0 (length new) slots new before after) where
  pub all_row : IsRow nodes blocks start words (value_in (values_of places new))
  all_row =
      let found = has_row nodes blocks start words ordered in
      let row = value_in found.0 in
      let was = value_in (values_of places slots) in
      let end = (far was row (record { settled = settled; is_row = found.1 }) (passed_none (length nodes) lanes was row slots stored)).0 in
      row_agrees nodes blocks start words row (value_in (values_of places new)) ordered found.1 (λ k less. passed_value (length nodes) (length new) lanes places was row new end long placed k less)

  pub at_new : ArePassed (length nodes) lanes (value_in (values_of places slots)) (value_in (values_of places new)) (length new) new × (after + taken_before nodes blocks places written whole (value_in (values_of places slots)) (value_in (values_of places new)) 0 ≤ before + taken_before nodes blocks places written whole (value_in (values_of places slots)) (value_in (values_of places new)) (length new))
  at_new = far (value_in (values_of places slots)) (value_in (values_of places new)) (record { settled = settled; is_row = all_row }) (passed_none (length nodes) lanes (value_in (values_of places slots)) (value_in (values_of places new)) slots stored)

  pub all_stored : AreStored (length nodes) lanes (value_in (values_of places new)) new
  all_stored q less = ((at_new).0.passed q less).now

  pub all_counted : after ≤ before + count_by (is_taken whole blocks (λ k. is_other (value_in (values_of places slots) k) (value_in (values_of places new) k)) written) nodes
  all_counted =
      let steps = (at_new).1 in
      let most = all_before nodes places (is_taken whole blocks (λ k. is_other (value_in (values_of places slots) k) (value_in (values_of places new) k)) written) (16 * length new) in
      omega arith
