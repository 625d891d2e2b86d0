-- Pieces that need not be passed, and what keeps them so.
use Rattle.std.proofs.Common.{◌≡◌, ◌≢◌, ℕ, zero, suc, ◌+◌, ◌-◌, ◌<◌, ◌≤◌, Bool, true, false, List, length, get_or, set, Some, refl, ap, sym, ◌∙◌, arith, inl, inr, subst, get_or-set_same, get_or-set_other}
use Rattle.std.specs.Prelude.{not, ◌&&◌, ◌||◌, slice_get, slice_index, if◌then◌else◌}
use Rattle.std.proofs.lemmas.Bool.{cases_Bool, cases_eq, false≢true}
use Rattle.std.proofs.lemmas.List.{get_or_past}
use Rattle.std.proofs.lemmas.Option.{same_Some, slice_get-get_or, slice_get_within}
use Rattle.word16.specs.Words.{has_bit}
use Rattle.netlist.specs.declared.node.Node.{Node}
use Rattle.netlist.specs.declared.node.Node.TheVariants.{Pin, Nand, Flip, Word, Zero}
use Rattle.netlist.specs.declared.node.Block.{Block}
use Rattle.netlist.specs.Order.{AreOrdered}
use Rattle.netlist.specs.Present.{IsRow, value_in}
use Rattle.netlist.specs.Touched.{is_other}
use Rattle.netlist.proofs.Following.{other_self, other_same}
use Rattle.gate_sim.specs.declared.pieces.Span.{Span}
use Rattle.gate_sim.specs.declared.plan.Lane.{Lane}
use Rattle.gate_sim.specs.declared.plan.Op.{Op}
use Rattle.gate_sim.specs.declared.plan.Op.TheVariants.{Held, Zeros, Gates, Lone, Spread, Move, Read}
use Rattle.gate_sim.specs.declared.plan.Slot.{Slot}
use Rattle.gate_sim.specs.declared.plan.Take.{Take}
use Rattle.gate_sim.specs.Inner.Pieces.{piece_of, pieces_in, span_at, IsReader, IsToldOp, AreReaders, IsIdleOp, AreIdle, AreIdleTakes, AreStill, AreGiven, take_mark}
use Rattle.gate_sim.specs.Inner.Plans.{node_at, place_of, IsFlip, IsHeld, IsLane, IsPlan, IsPlaced}
use Rattle.gate_sim.specs.Inner.Slots.{slot_at, lane_value, values_of, bits_of, word_lane, HasValues, IsPassedSlot, AreStored, ArePassed, Evaluates, Passes}
use Rattle.gate_sim.specs.Inner.Takes.{AreTakes}
use Rattle.gate_sim.proofs.Lanes.{has_none}
use Rattle.gate_sim.proofs.Passing.{gates_right, lone_right, held_right, lane_told, none_counted, passes_none}
use Rattle.gate_sim.proofs.Taking.{bit_placed, flip_there, map_same}

-- ---- marks

-- a mark that is on stays on
pub stays_on : (old new : List Bool) (m : ℕ) → (value_in new m ≡ false → value_in old m ≡ false) → value_in old m ≡ true → value_in new m ≡ true
stays_on old new m grows on = go (value_in new m) refl
  where
    go : (b : Bool) → value_in new m ≡ b → value_in new m ≡ true
    go true e = e
    go false e = absurd (false≢true (sym (grows e) ∙ on))

pub grows_then : (old mid new : List Bool) → ((m : ℕ) → value_in mid m ≡ false → value_in old m ≡ false) → ((m : ℕ) → value_in new m ≡ false → value_in mid m ≡ false) → (m : ℕ) → value_in new m ≡ false → value_in old m ≡ false
grows_then old mid new first second m off = first m (second m off)

-- one mark more
pub grows_set : (marks : List Bool) (p m : ℕ) → p < length marks → value_in (set marks p true) m ≡ false → value_in marks m ≡ false
grows_set marks p m inside off =
    elim (cases_eq m p) [
      | inl e ↦ absurd (false≢true (sym off ∙ ap (value_in (set marks p true)) e ∙ get_or-set_same marks p true false inside))
      | inr ne ↦ sym (get_or-set_other marks p m true false ne) ∙ off
    ]

-- ---- an operation that gives what its slot has

no_other : (x y : Bool) → x ≡ y → is_other x y ≡ false
no_other x y e = ap (is_other x) (sym e) ∙ other_self x

gate_off : (m w x y u v : Bool) → w ≡ false → x ≡ false → y ≡ false → v ≡ (if m && (w || (x || y)) then u else v)
gate_off true w x y u v ew ex ey = rw (ew, ex, ey) refl
gate_off false w x y u v ew ex ey = refl

lone_off : (w x y u v : Bool) → w ≡ false → x ≡ false → y ≡ false → v ≡ (if w || (x || y) then u else v)
lone_off w x y u v ew ex ey = rw (ew, ex, ey) refl

bit_off : (slots : List Slot) (r l : ℕ) → (slot_at slots r).change ≡ 0 → has_bit (slot_at slots r).change l ≡ false
bit_off slots r l still = ap (λ w. has_bit w l) still ∙ has_none l

module _ (nodes : List Node) (blocks : List Block) (lanes : List ℕ) (places : List Lane) (start : ℕ → Bool) (words : ℕ → ℕ → ℕ) (written : ℕ → Bool) (whole : Bool) (was row : ℕ → Bool) (q : ℕ) (slots : List Slot) (ordered : AreOrdered nodes blocks) (ev : Evaluates nodes blocks start words written whole was row) (far : ArePassed (length nodes) lanes was row q slots) (here : q < length slots) (still : (slot_at slots q).change ≡ 0) (begun : whole ≡ false) where
  same_change : (l : ℕ) → has_bit (slot_at slots q).change l ≡ is_other (has_bit (slot_at slots q).value l) (has_bit (slot_at slots q).value l)
  same_change l = bit_off slots q l still ∙ sym (other_self (has_bit (slot_at slots q).value l))

  same_slot : ((l : ℕ) → l < 16 → node_at lanes q l < length nodes → was (node_at lanes q l) ≡ row (node_at lanes q l)) → IsPassedSlot (length nodes) lanes was row q (slot_at slots q)
  same_slot same = record {
    now = λ l less inside. far.stored q (omega arith) here l less inside ∙ same l less inside;
    told = λ l less inside. bit_off slots q l still ∙ sym (no_other (was (node_at lanes q l)) (row (node_at lanes q l)) (same l less inside));
  }

  pub idle_op : (op : Op) → ((l : ℕ) → l < 16 → IsLane nodes blocks lanes places q l op) → IsIdleOp (length nodes) lanes start slots q op → IsPassedSlot (length nodes) lanes was row q (slot_at slots q)
  idle_op Held right idle = held_right nodes blocks lanes places start words written whole was row q slots ordered ev far here (slot_at slots q) (λ l less. (right l less).held) idle same_change
  idle_op Zeros right idle = absurd idle
  idle_op (Gates a b mask) right idle =
      gates_right nodes blocks lanes places start words written whole was row q slots ordered ev far here a b mask right (slot_at slots q)
      (λ l less. gate_off (has_bit mask l) whole (has_bit (slot_at slots a).change l) (has_bit (slot_at slots b).change l) (not (has_bit (slot_at slots a).value l && has_bit (slot_at slots b).value l)) (has_bit (slot_at slots q).value l) begun (bit_off slots a l idle.0) (bit_off slots b l idle.1))
      (λ l less. same_change l)
  idle_op (Lone a b mask_a mask_b) right idle =
      lone_right nodes blocks lanes places start words written whole was row q slots ordered ev far here a b (λ l less. (right l less).0) (slot_at slots q)
      (λ l less. lone_off whole (has_bit (slot_at slots a.slot).change a.at) (has_bit (slot_at slots b.slot).change b.at) (not (has_bit (slot_at slots a.slot).value a.at && has_bit (slot_at slots b.slot).value b.at)) (has_bit (slot_at slots q).value l) begun (bit_off slots a.slot a.at idle.0) (bit_off slots b.slot b.at idle.1))
      (λ l less. same_change l)
  idle_op (Spread a) right idle =
      same_slot
      (λ l less inside.
      let lane = right l less in
      other_same (was (node_at lanes q l)) (row (node_at lanes q l))
      (sym (lane_told nodes blocks lanes places start words written whole was row q slots ordered ev far here a (node_at lanes q l) (record { earlier = lane.earlier; inside = lane.inside; same = lane.same inside }) inside) ∙ bit_off slots a.slot a.at idle))
  idle_op (Move below a up down mask) right idle =
      same_slot
      (λ l less inside. elim (cases_Bool (has_bit mask l)) [
        | inl on ↦
            let lane = right l less in
            let from = lane.moved on in
            let same = from.2 in
            other_same (was (node_at lanes q l)) (row (node_at lanes q l))
            (sym ((far.passed a lane.earlier_a).told (l + down - up) (omega arith) (omega arith) ∙ ap (λ i. is_other (was i) (row i)) from.2) ∙ bit_off slots a (l + down - up) idle.1)
        | inr off ↦
            let lane = right l less in
            let same = lane.kept off inside in
            other_same (was (node_at lanes q l)) (row (node_at lanes q l))
            (sym ((far.passed below lane.earlier_below).told l less (omega arith) ∙ ap (λ i. is_other (was i) (row i)) same) ∙ bit_off slots below l idle.0)
      ])
  idle_op (Read b mask address) right idle = absurd idle

-- ---- a piece that is not passed

passed_kept : (n : ℕ) (lanes : List ℕ) (was row : ℕ → Bool) (q : ℕ) (slots : List Slot) → ArePassed n lanes was row q slots → IsPassedSlot n lanes was row q (slot_at slots q) → ArePassed n lanes was row (q + 1) slots
passed_kept n lanes was row q slots far is = record {
  passed = λ p less. elim (cases_eq p q) [
    | inl e ↦ subst (λ m. IsPassedSlot n lanes was row m (slot_at slots m)) (sym e) is
    | inr ne ↦ far.passed p (omega arith)
  ];
  stored = λ p le less. far.stored p (omega arith) less;
}

module _ (nodes : List Node) (blocks : List Block) (ops : List Op) (lanes : List ℕ) (places : List Lane) (start : ℕ → Bool) (words : ℕ → ℕ → ℕ) (written : ℕ → Bool) (whole : Bool) (slots : List Slot) (marks : List Bool) (ordered : AreOrdered nodes blocks) (plan : IsPlan nodes blocks ops lanes places) (long : length slots ≡ length ops) (begun : whole ≡ false) (idle : AreIdle (length nodes) lanes start ops slots marks) where
  passes_idle_more : (from q steps : ℕ) → q < length ops → value_in marks (piece_of q) ≡ false → Passes nodes blocks lanes places start words written whole from q slots slots steps steps → Passes nodes blocks lanes places start words written whole from (q + 1) slots slots steps steps
  passes_idle_more from q steps inside off so_far was row ev at =
      let rest = so_far was row ev at in
      let bound = rest.1 in
      let there = slice_get-get_or ops q Held inside in
      let here : q < length slots = omega arith in
      let is = idle_op nodes blocks lanes places start words written whole was row q slots ordered ev rest.0 here (idle.still q off) begun (get_or ops q Held) (plan.each q (get_or ops q Held) there) (idle.each q (get_or ops q Held) there off) in
      let more = none_counted nodes blocks lanes places start words written whole was row q slots ordered ev rest.0 here steps steps refl in
      (passed_kept (length nodes) lanes was row q slots rest.0 is, omega arith)

  -- nothing is evaluated from one slot up to another where the marks are off
  pub passes_idle : (from k steps : ℕ) → from + k ≤ length ops → ((q : ℕ) → from ≤ q → q < from + k → value_in marks (piece_of q) ≡ false) → Passes nodes blocks lanes places start words written whole from (from + k) slots slots steps steps
  passes_idle from zero steps inside off =
      let same : from ≡ from + 0 = omega arith in
      subst (λ m. Passes nodes blocks lanes places start words written whole from m slots slots steps steps) same (passes_none nodes blocks lanes places start words written whole from slots steps)
  passes_idle from (suc k) steps inside off =
      let same : from + k + 1 ≡ from + suc k = omega arith in
      subst (λ m. Passes nodes blocks lanes places start words written whole from m slots slots steps steps) same
      (passes_idle_more from (from + k) steps (omega arith) (off (from + k) (omega arith) (omega arith)) (passes_idle from k steps (omega arith) (λ q le less. off q le (omega arith))))

-- ---- a slot of a marked piece gets other values, and its readers are marked

op_kept : (n : ℕ) (lanes : List ℕ) (start : ℕ → Bool) (spans : List Span) (list : List ℕ) (always : List Bool) (slots new : List Slot) (q m : ℕ) → ((r : ℕ) → IsReader spans list r m → (slot_at slots r).change ≡ 0 → (slot_at new r).change ≡ 0) → slot_at new q ≡ slot_at slots q → (op : Op) → IsToldOp spans list always m op → IsIdleOp n lanes start slots q op → IsIdleOp n lanes start new q op
op_kept n lanes start spans list always slots new q m keep same Held told idle = subst (λ s. HasValues n lanes start q s.value) (sym same) idle
op_kept n lanes start spans list always slots new q m keep same Zeros told idle = absurd idle
op_kept n lanes start spans list always slots new q m keep same (Gates a b mask) told idle = (keep a told.0 idle.0, keep b told.1 idle.1)
op_kept n lanes start spans list always slots new q m keep same (Lone a b mask_a mask_b) told idle = (keep a.slot told.0 idle.0, keep b.slot told.1 idle.1)
op_kept n lanes start spans list always slots new q m keep same (Spread a) told idle = keep a.slot told idle
op_kept n lanes start spans list always slots new q m keep same (Move below a up down mask) told idle = (keep below told.0 idle.0, keep a told.1 idle.1)
op_kept n lanes start spans list always slots new q m keep same (Read b mask address) told idle = absurd idle

-- the readers of a slot are marked, where it changed
abbrev pub AreToldOf : List Span → List ℕ → ℕ → ℕ → List Bool → Type 0
AreToldOf spans list q change marks = change ≢ 0 → (i : ℕ) → (span_at spans q).from ≤ i → i < (span_at spans q).end → i < length list → slice_index list i < length marks → value_in marks (slice_index list i) ≡ true

module _ (n : ℕ) (lanes : List ℕ) (start : ℕ → Bool) (ops : List Op) (takes : List Take) (spans : List Span) (list : List ℕ) (always : List Bool) (slots : List Slot) (marks marks' : List Bool) (q : ℕ) (slot : Slot) (readers : AreReaders ops takes spans list always) (inside : q < length slots) (on : value_in marks (piece_of q) ≡ true) (long : pieces_in (length ops) + pieces_in (length takes) ≤ length marks') (grows : (m : ℕ) → value_in marks' m ≡ false → value_in marks m ≡ false) (told : AreToldOf spans list q slot.change marks') where
  reader_still : (r m : ℕ) → m < length marks' → value_in marks' m ≡ false → IsReader spans list r m → (slot_at slots r).change ≡ 0 → (slot_at (set slots q slot) r).change ≡ 0
  reader_still r m less off is still =
      elim (cases_eq r q) [
        | inl e ↦
            let none : slot.change ≡ 0 = elim (cases_eq slot.change 0) [
              | inl z ↦ z
              | inr ne ↦
                  let from : (span_at spans q).from ≤ is.place = subst (λ x. (span_at spans x).from ≤ is.place) e is.from in
                  let end : is.place < (span_at spans q).end = subst (λ x. is.place < (span_at spans x).end) e is.end in
                  let small : slice_index list is.place < length marks' = subst (λ x. x < length marks') (sym is.same) less in
                  absurd (false≢true (sym off ∙ ap (value_in marks') (sym is.same) ∙ told ne is.place from end is.inside small))
            ] in
            ap (λ s. s.change) (ap (slot_at (set slots q slot)) e ∙ get_or-set_same slots q slot (record { value = 0; change = 0 }) inside) ∙ none
        | inr ne ↦ ap (λ s. s.change) (get_or-set_other slots q r slot (record { value = 0; change = 0 }) ne) ∙ still
      ]

  apart : (p : ℕ) → value_in marks' (piece_of p) ≡ false → p ≢ q
  apart p off e = false≢true (sym (grows (piece_of p) off) ∙ ap (λ x. value_in marks (piece_of x)) e ∙ on)

  pub idle_set : AreIdle n lanes start ops slots marks → AreIdle n lanes start ops (set slots q slot) marks'
  idle_set idle = record {
    still = λ p off. ap (λ s. s.change) (get_or-set_other slots q p slot (record { value = 0; change = 0 }) (apart p off)) ∙ idle.still p (grows (piece_of p) off);
    each = λ p op at off.
        let less = slice_get_within ops p op at in
        let small : piece_of p < length marks' = omega arith in
        op_kept n lanes start spans list always slots (set slots q slot) p (piece_of p)
        (λ r is still. reader_still r (piece_of p) small off is still)
        (get_or-set_other slots q p slot (record { value = 0; change = 0 }) (apart p off)) op (readers.each p op at) (idle.each p op at (grows (piece_of p) off));
  }

  pub idle_takes_set : AreIdleTakes (pieces_in (length ops)) takes slots marks → AreIdleTakes (pieces_in (length ops)) takes (set slots q slot) marks'
  idle_takes_set idle t take at off =
      let less = slice_get_within takes t take at in
      let small : pieces_in (length ops) + piece_of t < length marks' = omega arith in
      reader_still take.source (pieces_in (length ops) + piece_of t) small off (readers.takes_told t take at) (idle t take at (grows (pieces_in (length ops) + piece_of t) off))

-- more marks
pub idle_grows : (n : ℕ) (lanes : List ℕ) (start : ℕ → Bool) (ops : List Op) (slots : List Slot) (marks marks' : List Bool) → ((m : ℕ) → value_in marks' m ≡ false → value_in marks m ≡ false) → AreIdle n lanes start ops slots marks → AreIdle n lanes start ops slots marks'
idle_grows n lanes start ops slots marks marks' grows idle = record {
  still = λ q off. idle.still q (grows (piece_of q) off);
  each = λ q op at off. idle.each q op at (grows (piece_of q) off);
}

pub idle_takes_grow : (m : ℕ) (takes : List Take) (slots : List Slot) (marks marks' : List Bool) → ((p : ℕ) → value_in marks' p ≡ false → value_in marks p ≡ false) → AreIdleTakes m takes slots marks → AreIdleTakes m takes slots marks'
idle_takes_grow m takes slots marks marks' grows idle t take at off = idle t take at (grows (m + piece_of t) off)

pub idle_takes_still : (m : ℕ) (takes : List Take) (slots : List Slot) (marks : List Bool) → AreStill slots → AreIdleTakes m takes slots marks
idle_takes_still m takes slots marks still t take at off = still take.source

-- ---- after an evaluation, where no change is left

module _ (nodes : List Node) (blocks : List Block) (ops : List Op) (lanes : List ℕ) (places : List Lane) (start : ℕ → Bool) (words : ℕ → ℕ → ℕ) (takes : List Take) (spans : List Span) (list : List ℕ) (always : List Bool) (slots : List Slot) (marks : List Bool) (plan : IsPlan nodes blocks ops lanes places) (readers : AreReaders ops takes spans list always) (long : length slots ≡ length ops) (quiet : AreStill slots) (stored : AreStored (length nodes) lanes (value_in (values_of places slots)) slots) (row : IsRow nodes blocks start words (value_in (values_of places slots))) (same : (m : ℕ) → m < pieces_in (length ops) → value_in marks m ≡ value_in always m) where
  held_is : (k : ℕ) (node : Node) → slice_get nodes k ≡ Some node → IsHeld node → value_in (values_of places slots) k ≡ start k
  held_is k Pin at h = row k Pin at
  held_is k (Nand i j) at h = absurd h
  held_is k (Flip i) at h = row k (Flip i) at
  held_is k (Word b bit) at h = absurd h
  held_is k Zero at h = absurd h

  op_idle : (q : ℕ) (op : Op) → q < length ops → value_in marks (piece_of q) ≡ false → ((l : ℕ) → l < 16 → IsLane nodes blocks lanes places q l op) → IsToldOp spans list always (piece_of q) op → IsIdleOp (length nodes) lanes start slots q op
  op_idle q Held less off right told =
      λ l small inside.
      let there = slice_get-get_or nodes (node_at lanes q l) Pin inside in
      stored q (omega arith) l small inside ∙ held_is (node_at lanes q l) (get_or nodes (node_at lanes q l) Pin) there ((right l small).held inside (get_or nodes (node_at lanes q l) Pin) there)
  op_idle q Zeros less off right told = let low : piece_of q < pieces_in (length ops) = omega arith in absurd (false≢true (sym off ∙ same (piece_of q) low ∙ told))
  op_idle q (Gates a b mask) less off right told = (quiet a, quiet b)
  op_idle q (Lone a b mask_a mask_b) less off right told = (quiet a.slot, quiet b.slot)
  op_idle q (Spread a) less off right told = quiet a.slot
  op_idle q (Move below a up down mask) less off right told = (quiet below, quiet a)
  op_idle q (Read b mask address) less off right told = let low : piece_of q < pieces_in (length ops) = omega arith in absurd (false≢true (sym off ∙ same (piece_of q) low ∙ told))

  pub idle_end : AreIdle (length nodes) lanes start ops slots marks
  idle_end = record {
    still = λ q off. quiet q;
    each = λ q op at off. op_idle q op (slice_get_within ops q op at) off (plan.each q op at) (readers.each q op at);
  }

-- ---- inputs and states are other ones

module _ (nodes : List Node) (blocks : List Block) (ops : List Op) (lanes : List ℕ) (places : List Lane) (words new : List ℕ) (slots : List Slot) (marks marks' : List Bool) (plan : IsPlan nodes blocks ops lanes places) (grows : (m : ℕ) → value_in marks' m ≡ false → value_in marks m ≡ false) (same : (q : ℕ) → value_in marks' (piece_of q) ≡ false → slice_index new q ≡ slice_index words q) where
  op_started : (q : ℕ) (op : Op) → value_in marks' (piece_of q) ≡ false → ((l : ℕ) → l < 16 → IsLane nodes blocks lanes places q l op) → IsIdleOp (length nodes) lanes (value_in (bits_of places words)) slots q op → IsIdleOp (length nodes) lanes (value_in (bits_of places new)) slots q op
  op_started q Held off right idle =
      λ l small inside.
      let stands = (right l small).placed inside in
      let long = plan.places_long in
      let less : node_at lanes q l < length places = omega arith in
      idle l small inside ∙ bit_placed places words (node_at lanes q l) less
      ∙ ap (λ w. has_bit w (place_of places (node_at lanes q l)).at) (ap (slice_index words) stands.0 ∙ sym (same q off) ∙ ap (slice_index new) (sym stands.0))
      ∙ sym (bit_placed places new (node_at lanes q l) less)
  op_started q Zeros off right idle = absurd idle
  op_started q (Gates a b mask) off right idle = idle
  op_started q (Lone a b mask_a mask_b) off right idle = idle
  op_started q (Spread a) off right idle = idle
  op_started q (Move below a up down mask) off right idle = idle
  op_started q (Read b mask address) off right idle = absurd idle

  pub idle_started : AreIdle (length nodes) lanes (value_in (bits_of places words)) ops slots marks → AreIdle (length nodes) lanes (value_in (bits_of places new)) ops slots marks'
  idle_started idle = record {
    still = λ q off. idle.still q (grows (piece_of q) off);
    each = λ q op at off. op_started q op off (plan.each q op at) (idle.each q op at (grows (piece_of q) off));
  }

-- ---- what flip-flops take

-- after an evaluation what was right is so where the source did not change
pub given_after : (nodes : List Node) (n m : ℕ) (lanes : List ℕ) (places : List Lane) (takes : List Take) (was row : ℕ → Bool) (slots : List Slot) (marks marks' : List Bool) (words : List ℕ) → ((k : ℕ) → k < length nodes → IsPlaced n lanes places k) → AreTakes nodes n lanes places takes → ((k i : ℕ) → slice_get nodes k ≡ Some (Flip i) → i < length nodes) → ArePassed (length nodes) lanes was row n slots → ((p : ℕ) → value_in marks' p ≡ false → value_in marks p ≡ false) → AreIdleTakes m takes slots marks' → AreGiven nodes places takes (take_mark m marks) (λ k i. was i) words → AreGiven nodes places takes (take_mark m marks') (λ k i. row i) words
given_after nodes n m lanes places takes was row slots marks marks' words placed are inputs far grows idle given k i t take off at is =
    let right = are.each t take is.there in
    let there = flip_there nodes n lanes places takes placed take right k (Flip i) at is.slot is.on in
    let inside = inputs k i at in
    let reads = there.0 in
    let small : node_at lanes take.source ((place_of places k).at + take.down) < length nodes = omega arith in
    let told = (far.passed take.source right.source).told ((place_of places k).at + take.down) there.1 small in
    let none = bit_off slots take.source ((place_of places k).at + take.down) (idle t take is.there off) in
    given k i t take (grows (m + piece_of t) off) at is
    ∙ ap was (sym reads)
    ∙ other_same (was (node_at lanes take.source ((place_of places k).at + take.down))) (row (node_at lanes take.source ((place_of places k).at + take.down))) (sym told ∙ none)
    ∙ ap row reads

-- all marks are on
pub given_none : (nodes : List Node) (places : List Lane) (takes : List Take) (mark : ℕ → Bool) (value : ℕ → ℕ → Bool) (words : List ℕ) → ((t : ℕ) → t < length takes → mark t ≡ true) → AreGiven nodes places takes mark value words
given_none nodes places takes mark value words on k i t take off at is = absurd (false≢true (sym off ∙ on t (slice_get_within takes t take is.there)))

-- ---- changes are taken away

pub past_still : (slots : List Slot) (q : ℕ) → length slots ≤ q → (slot_at slots q).change ≡ 0
past_still slots q past = ap (λ s. s.change) (get_or_past slots q (record { value = 0; change = 0 }) past)

module _ (slots : List Slot) (q : ℕ) (inside : q < length slots) where
  pub calm_value : (p : ℕ) → (slot_at (set slots q (record { value = (slot_at slots q).value; change = 0 })) p).value ≡ (slot_at slots p).value
  calm_value p =
      elim (cases_eq p q) [
        | inl e ↦ ap (λ s. s.value) (ap (slot_at (set slots q (record { value = (slot_at slots q).value; change = 0 }))) e ∙ get_or-set_same slots q (record { value = (slot_at slots q).value; change = 0 }) (record { value = 0; change = 0 }) inside) ∙ ap (λ r. (slot_at slots r).value) (sym e)
        | inr ne ↦ ap (λ s. s.value) (get_or-set_other slots q p (record { value = (slot_at slots q).value; change = 0 }) (record { value = 0; change = 0 }) ne)
      ]

  pub calm_here : (p : ℕ) → p ≡ q → (slot_at (set slots q (record { value = (slot_at slots q).value; change = 0 })) p).change ≡ 0
  calm_here p e = ap (λ s. s.change) (ap (slot_at (set slots q (record { value = (slot_at slots q).value; change = 0 }))) e ∙ get_or-set_same slots q (record { value = (slot_at slots q).value; change = 0 }) (record { value = 0; change = 0 }) inside)

  pub calm_kept : (p : ℕ) → (slot_at slots p).change ≡ 0 → (slot_at (set slots q (record { value = (slot_at slots q).value; change = 0 })) p).change ≡ 0
  calm_kept p still =
      elim (cases_eq p q) [
        | inl e ↦ calm_here p e
        | inr ne ↦ ap (λ s. s.change) (get_or-set_other slots q p (record { value = (slot_at slots q).value; change = 0 }) (record { value = 0; change = 0 }) ne) ∙ still
      ]

-- the values are the same
pub values_same : (places : List Lane) (slots new : List Slot) → ((q : ℕ) → (slot_at new q).value ≡ (slot_at slots q).value) → values_of places new ≡ values_of places slots
values_same places slots new same = map_same (lane_value slots) (lane_value new) places (record { slot = 0; at = 0 }) (λ j less. ap (λ v. has_bit v (place_of places j).at) (same (place_of places j).slot))

pub stored_same : (n : ℕ) (lanes : List ℕ) (was row : ℕ → Bool) (slots new : List Slot) → ArePassed n lanes was row (length slots) slots → length new ≡ length slots → ((q : ℕ) → (slot_at new q).value ≡ (slot_at slots q).value) → AreStored n lanes row new
stored_same n lanes was row slots new far long same q less l small inside =
    let here : q < length slots = omega arith in
    ap (λ v. has_bit v l) (same q) ∙ (far.passed q here).now l small inside

-- what takes give whose marks are the same
pub given_same : (nodes : List Node) (places : List Lane) (takes : List Take) (mark mark' : ℕ → Bool) (value : ℕ → ℕ → Bool) (words : List ℕ) → ((t : ℕ) → mark' t ≡ mark t) → AreGiven nodes places takes mark value words → AreGiven nodes places takes mark' value words
given_same nodes places takes mark mark' value words same given k i t take off at is = given k i t take (sym (same t) ∙ off) at is

-- ---- what stays so while a simulator is called

-- all marks are on
pub idle_on : (n : ℕ) (lanes : List ℕ) (start : ℕ → Bool) (ops : List Op) (slots : List Slot) (marks : List Bool) → AreStill slots → ((m : ℕ) → m < pieces_in (length ops) → value_in marks m ≡ true) → AreIdle n lanes start ops slots marks
idle_on n lanes start ops slots marks quiet on = record {
  still = λ q off. quiet q;
  each = λ q op at off.
      let less = slice_get_within ops q op at in
      let low : piece_of q < pieces_in (length ops) = omega arith in
      absurd (false≢true (sym off ∙ on (piece_of q) low));
}

-- the marks of the pieces are the same
pub idle_pieces : (n : ℕ) (lanes : List ℕ) (start : ℕ → Bool) (ops : List Op) (slots : List Slot) (marks marks' : List Bool) → AreStill slots → ((m : ℕ) → m < pieces_in (length ops) → value_in marks' m ≡ value_in marks m) → AreIdle n lanes start ops slots marks → AreIdle n lanes start ops slots marks'
idle_pieces n lanes start ops slots marks marks' quiet same idle = record {
  still = λ q off. quiet q;
  each = λ q op at off.
      let less = slice_get_within ops q op at in
      let low : piece_of q < pieces_in (length ops) = omega arith in
      idle.each q op at (sym (same (piece_of q) low) ∙ off);
}

-- fewer marks are off
pub given_fewer : (nodes : List Node) (places : List Lane) (takes : List Take) (mark mark' : ℕ → Bool) (value : ℕ → ℕ → Bool) (words : List ℕ) → ((t : ℕ) → mark' t ≡ false → mark t ≡ false) → AreGiven nodes places takes mark value words → AreGiven nodes places takes mark' value words
given_fewer nodes places takes mark mark' value words fewer given k i t take off at is = given k i t take (fewer t off) at is

-- all flip-flops are right
pub given_all : (nodes : List Node) (places : List Lane) (takes : List Take) (mark : ℕ → Bool) (value : ℕ → ℕ → Bool) (words : List ℕ) → ((k i : ℕ) → slice_get nodes k ≡ Some (Flip i) → word_lane words (place_of places k) ≡ value k i) → AreGiven nodes places takes mark value words
given_all nodes places takes mark value words right k i t take off at is = right k i at

-- what is due after states were fixed
pub due_after : (nodes : List Node) (places : List Lane) (takes : List Take) (m : ℕ) (marks due due' : List Bool) (value : ℕ → Bool) (start fixed fixed' : List ℕ) → ((c : ℕ) → c < pieces_in (length takes) → value_in due' c ≡ false → (value_in due c ≡ false) × (value_in marks (m + c) ≡ false)) → ((k i : ℕ) → slice_get nodes k ≡ Some (Flip i) → word_lane fixed' (place_of places k) ≡ value i) → AreGiven nodes places takes (take_mark m marks) (λ k i. value i) fixed → AreGiven nodes places takes (λ t. value_in due (piece_of t)) (λ k i. word_lane fixed (place_of places k)) start → AreGiven nodes places takes (λ t. value_in due' (piece_of t)) (λ k i. word_lane fixed' (place_of places k)) start
due_after nodes places takes m marks due due' value start fixed fixed' both right given taken k i t take off at is =
    let less = slice_get_within takes t take is.there in
    let low : piece_of t < pieces_in (length takes) = omega arith in
    let offs = both (piece_of t) low off in
    taken k i t take offs.0 at is ∙ given k i t take offs.1 at is ∙ sym (right k i at)

-- a pin is set
pub taken_set : (nodes : List Node) (places : List Lane) (takes : List Take) (mark : ℕ → Bool) (fixed words new : List ℕ) (node : ℕ) (bit : Bool) → length places ≡ length nodes → slice_get nodes node ≡ Some Pin → bits_of places new ≡ set (bits_of places words) node bit → AreGiven nodes places takes mark (λ k i. word_lane fixed (place_of places k)) words → AreGiven nodes places takes mark (λ k i. word_lane fixed (place_of places k)) new
taken_set nodes places takes mark fixed words new node bit long pin bits taken k i t take off at is =
    let inside = slice_get_within nodes k (Flip i) at in
    let ne : k ≢ node = λ e. pin_flip (same_Some Pin (Flip i) (sym pin ∙ ap (slice_get nodes) (sym e) ∙ at)) in
    sym (bit_placed places new k (omega arith)) ∙ ap (λ l. value_in l k) bits ∙ get_or-set_other (bits_of places words) node k bit false ne ∙ bit_placed places words k (omega arith)
    ∙ taken k i t take off at is
  where
    pin_flip : Pin ≡ Flip i → ⊥
    pin_flip e = subst (IsFlip (λ j. Unit {0})) (sym e) tt
