-- Words of which each slot has one: what flip-flops take in, lane by lane, and a pin that is set.
use Rattle.std.proofs.Common.{◌≡◌, ◌≢◌, ℕ, zero, suc, ◌+◌, ◌<◌, Bool, true, false, List, [], ◌∷◌, length, get_or, map, set, Some, refl, ap, sym, ◌∙◌, arith, inl, inr, get_or-set_same, get_or-set_other}
use Rattle.std.specs.Prelude.{slice_get, slice_index, if◌then◌else◌}
use Rattle.std.proofs.lemmas.Bool.{cases_eq, false≢true}
use Rattle.std.proofs.lemmas.List.{get_or-map, get_or_past}
use Rattle.std.proofs.lemmas.Option.{same_Some, slice_get_within}
use Rattle.word16.specs.Words.{has_bit}
use Rattle.netlist.specs.declared.node.Node.{Node}
use Rattle.netlist.specs.declared.node.Node.TheVariants.{Pin, Flip}
use Rattle.netlist.specs.Present.{value_in}
use Rattle.gate_sim.specs.declared.plan.Lane.{Lane}
use Rattle.gate_sim.specs.declared.plan.Slot.{Slot}
use Rattle.gate_sim.specs.declared.plan.Take.{Take}
use Rattle.gate_sim.specs.Inner.Plans.{node_at, place_of, IsFlip, IsHeldLane, IsPlaced}
use Rattle.gate_sim.specs.Inner.Slots.{slot_at, word_lane, bits_of, values_of, HasValues, AreStored}
use Rattle.gate_sim.specs.Inner.Pieces.{IsGiven}
use Rattle.gate_sim.specs.Inner.Takes.{IsTake}
use Rattle.gate_sim.proofs.Lanes.{has_none}

-- ---- one word is written

pub here_now : (words : List ℕ) (q new : ℕ) (p : Lane) → q < length words → p.slot ≡ q → word_lane (set words q new) p ≡ has_bit new p.at
here_now words q new p inside e = ap (λ w. has_bit w p.at) (ap (λ r. get_or (set words q new) r 0) e ∙ get_or-set_same words q new 0 inside)

pub there_still : (words : List ℕ) (q new : ℕ) (p : Lane) → p.slot ≢ q → word_lane (set words q new) p ≡ word_lane words p
there_still words q new p ne = ap (λ w. has_bit w p.at) (get_or-set_other words q p.slot new 0 ne)

pub chosen_right : (m x y v : Bool) → (m ≡ true → x ≡ v) → (m ≡ false → y ≡ v) → (if m then x else y) ≡ v
chosen_right true x y v a b = a refl
chosen_right false x y v a b = b refl

-- ---- the bits of nodes

pub bit_placed : (places : List Lane) (words : List ℕ) (k : ℕ) → k < length places → value_in (bits_of places words) k ≡ word_lane words (place_of places k)
bit_placed places words k less = get_or-map (word_lane words) places k (record { slot = 0; at = 0 }) false less

pub long_bits : (places : List Lane) (words : List ℕ) → length (bits_of places words) ≡ length places
long_bits [] words = refl
long_bits (p ∷ places) words = ap suc (long_bits places words)

pub bits_none : (places : List Lane) (words : List ℕ) → ((q : ℕ) → slice_index words q ≡ 0) → (k : ℕ) → value_in (bits_of places words) k ≡ false
bits_none [] words none k = get_or_past (bits_of [] words) k false (omega arith)
bits_none (p ∷ places) words none zero = ap (λ w. has_bit w p.at) (none p.slot) ∙ has_none p.at
bits_none (p ∷ places) words none (suc k) = bits_none places words none k

-- the word of a slot of pins and flip-flops has their bits
pub held_has : (nodes : List Node) (lanes : List ℕ) (places : List Lane) (words : List ℕ) (q : ℕ) → length places ≡ length nodes → ((l : ℕ) → l < 16 → IsHeldLane nodes lanes places q l) → HasValues (length nodes) lanes (value_in (bits_of places words)) q (slice_index words q)
held_has nodes lanes places words q long right l less inside =
    let stands = (right l less).placed inside in
    sym (bit_placed places words (node_at lanes q l) (omega arith) ∙ ap (λ r. has_bit (slice_index words r) (place_of places (node_at lanes q l)).at) stands.0 ∙ ap (has_bit (slice_index words q)) stands.1)

-- ---- what flip-flops take

module _ (nodes : List Node) (n : ℕ) (lanes : List ℕ) (places : List Lane) (takes : List Take) (placed : (k : ℕ) → k < length nodes → IsPlaced n lanes places k) where
  -- a lane that is written is the place of the flip-flop that it stands for
  pub flip_there : (take : Take) → IsTake nodes n lanes places take → (k : ℕ) (node : Node) → slice_get nodes k ≡ Some node → take.slot ≡ (place_of places k).slot → has_bit take.mask (place_of places k).at ≡ true → IsFlip (λ i. node_at lanes take.source ((place_of places k).at + take.down) ≡ i) node × ((place_of places k).at + take.down < 16)
  flip_there take is k node at slot on =
      let place = placed k (slice_get_within nodes k node at) in
      let lane = is.lane (place_of places k).at place.at on in
      let same : node_at lanes take.slot (place_of places k).at ≡ k = ap (λ q. node_at lanes q (place_of places k).at) slot ∙ place.same in
      (lane.flip node (ap (slice_get nodes) same ∙ at), lane.high)

  pub pins_more : (words old : List ℕ) (new : ℕ) (take : Take) (from : ℕ) → IsTake nodes n lanes places take → take.slot < length words → ((l : ℕ) → has_bit new l ≡ (if has_bit take.mask l then has_bit from l else has_bit (slice_index words take.slot) l)) → ((k : ℕ) → slice_get nodes k ≡ Some Pin → word_lane words (place_of places k) ≡ word_lane old (place_of places k)) → (k : ℕ) → slice_get nodes k ≡ Some Pin → word_lane (set words take.slot new) (place_of places k) ≡ word_lane old (place_of places k)
  pins_more words old new take from is inside bits far k at =
      elim (cases_eq (place_of places k).slot take.slot) [
        | inl e ↦
            here_now words take.slot new (place_of places k) inside e ∙ bits (place_of places k).at
            ∙ chosen_right (has_bit take.mask (place_of places k).at) (has_bit from (place_of places k).at) (has_bit (slice_index words take.slot) (place_of places k).at) (word_lane old (place_of places k))
            (λ yes. absurd (flip_there take is k Pin at (sym e) yes).0)
            (λ no. ap (λ q. has_bit (slice_index words q) (place_of places k).at) (sym e) ∙ far k at)
        | inr apart ↦ there_still words take.slot new (place_of places k) apart ∙ far k at
      ]

  -- the source has what a flip-flop takes
  pub source_right : (slots : List Slot) (take : Take) (from : ℕ) → n ≡ length slots → IsTake nodes n lanes places take → AreStored (length nodes) lanes (value_in (values_of places slots)) slots → ((k i : ℕ) → slice_get nodes k ≡ Some (Flip i) → i < length nodes) → ((l : ℕ) → has_bit from l ≡ has_bit (slot_at slots take.source).value (l + take.down)) → (k i : ℕ) → slice_get nodes k ≡ Some (Flip i) → take.slot ≡ (place_of places k).slot → has_bit take.mask (place_of places k).at ≡ true → has_bit from (place_of places k).at ≡ value_in (values_of places slots) i
  source_right slots take from long is stored inputs bits k i at slot on =
      let there = flip_there take is k (Flip i) at slot on in
      let inside = inputs k i at in
      let reads = there.0 in
      let low = is.source in
      bits (place_of places k).at ∙ stored take.source (omega arith) ((place_of places k).at + take.down) there.1 (omega arith) ∙ ap (value_in (values_of places slots)) reads

-- a word is written that has what its take gives: what was right stays so, and what the take gives is right
module _ (nodes : List Node) (places : List Lane) (words : List ℕ) (new : ℕ) (take : Take) (from : ℕ) (value : ℕ → ℕ → Bool) (inside : take.slot < length words) (bits : (l : ℕ) → has_bit new l ≡ (if has_bit take.mask l then has_bit from l else has_bit (slice_index words take.slot) l)) (right : (k i : ℕ) → slice_get nodes k ≡ Some (Flip i) → take.slot ≡ (place_of places k).slot → has_bit take.mask (place_of places k).at ≡ true → has_bit from (place_of places k).at ≡ value k i) where
  pub state_kept : (k i : ℕ) → slice_get nodes k ≡ Some (Flip i) → word_lane words (place_of places k) ≡ value k i → word_lane (set words take.slot new) (place_of places k) ≡ value k i
  state_kept k i at old =
      elim (cases_eq (place_of places k).slot take.slot) [
        | inl e ↦
            here_now words take.slot new (place_of places k) inside e ∙ bits (place_of places k).at
            ∙ chosen_right (has_bit take.mask (place_of places k).at) (has_bit from (place_of places k).at) (has_bit (slice_index words take.slot) (place_of places k).at) (value k i)
            (λ yes. right k i at (sym e) yes)
            (λ no. ap (λ q. has_bit (slice_index words q) (place_of places k).at) (sym e) ∙ old)
        | inr apart ↦ there_still words take.slot new (place_of places k) apart ∙ old
      ]

  given_state : (k i : ℕ) → slice_get nodes k ≡ Some (Flip i) → take.slot ≡ (place_of places k).slot → has_bit take.mask (place_of places k).at ≡ true → word_lane (set words take.slot new) (place_of places k) ≡ value k i
  given_state k i at slot on =
      here_now words take.slot new (place_of places k) inside (sym slot) ∙ bits (place_of places k).at
      ∙ chosen_right (has_bit take.mask (place_of places k).at) (has_bit from (place_of places k).at) (has_bit (slice_index words take.slot) (place_of places k).at) (value k i)
      (λ yes. right k i at slot yes)
      (λ no. absurd (false≢true (sym no ∙ on)))

pub state_given : (nodes : List Node) (places : List Lane) (takes : List Take) (words : List ℕ) (new : ℕ) (take : Take) (from : ℕ) (value : ℕ → ℕ → Bool) (t : ℕ) → slice_get takes t ≡ Some take → take.slot < length words → ((l : ℕ) → has_bit new l ≡ (if has_bit take.mask l then has_bit from l else has_bit (slice_index words take.slot) l)) → ((k i : ℕ) → slice_get nodes k ≡ Some (Flip i) → take.slot ≡ (place_of places k).slot → has_bit take.mask (place_of places k).at ≡ true → has_bit from (place_of places k).at ≡ value k i) → (k i : ℕ) (other : Take) → slice_get nodes k ≡ Some (Flip i) → IsGiven places takes k t other → word_lane (set words take.slot new) (place_of places k) ≡ value k i
state_given nodes places takes words new take from value t there inside bits right k i other at is =
    let same : other ≡ take = same_Some other take (sym is.there ∙ there) in
    given_state nodes places words new take from value inside bits right k i at (sym (ap (λ x. x.slot) same) ∙ is.slot) (sym (ap (λ x. has_bit x.mask (place_of places k).at) same) ∙ is.on)

-- ---- a pin is set

pub map_same : (f g : Lane → Bool) (places : List Lane) (d : Lane) → ((j : ℕ) → j < length places → g (get_or places j d) ≡ f (get_or places j d)) → map g places ≡ map f places
map_same f g [] d same = refl
map_same f g (p ∷ places) d same =
    let first = same 0 (omega arith) in
    let rest = map_same f g places d (λ j less. same (suc j) (omega arith)) in
    ap (λ b. b ∷ map g places) first ∙ ap (λ l. f p ∷ l) rest

map_set : (f g : Lane → Bool) (places : List Lane) (k : ℕ) (b : Bool) (d : Lane) → k < length places → g (get_or places k d) ≡ b → ((j : ℕ) → j < length places → j ≢ k → g (get_or places j d) ≡ f (get_or places j d)) → map g places ≡ set (map f places) k b
map_set f g [] k b d less here others = absurd (omega arith)
map_set f g (p ∷ places) zero b d less here others =
    let rest = map_same f g places d (λ j small. others (suc j) (omega arith) (λ e. zero_suc j e)) in
    ap (λ x. x ∷ map g places) here ∙ ap (λ l. b ∷ l) rest
  where
    zero_suc : (j : ℕ) → suc j ≢ 0
    zero_suc j e = absurd (omega arith)
map_set f g (p ∷ places) (suc k) b d less here others =
    let first = others 0 (omega arith) (λ e. suc_zero k e) in
    let rest = map_set f g places k b d (omega arith) here (λ j small ne. others (suc j) (omega arith) (λ e. ne (suc_same j k e))) in
    ap (λ x. x ∷ map g places) first ∙ ap (λ l. f p ∷ l) rest
  where
    suc_zero : (k : ℕ) → 0 ≢ suc k
    suc_zero k e = absurd (omega arith)

    suc_same : (j k : ℕ) → suc j ≡ suc k → j ≡ k
    suc_same j k e = omega arith

pub bits_set : (places : List Lane) (words : List ℕ) (k new : ℕ) (bit : Bool) → k < length places → (place_of places k).slot < length words → has_bit new (place_of places k).at ≡ bit → ((m : ℕ) → m < 16 → m ≢ (place_of places k).at → has_bit new m ≡ has_bit (slice_index words (place_of places k).slot) m) → ((j : ℕ) → j < length places → (place_of places j).at < 16) → ((i j : ℕ) → i < length places → j < length places → (place_of places i).slot ≡ (place_of places j).slot → (place_of places i).at ≡ (place_of places j).at → i ≡ j) → bits_of places (set words (place_of places k).slot new) ≡ set (bits_of places words) k bit
bits_set places words k new bit less inside here others small apart =
    map_set (word_lane words) (word_lane (set words (place_of places k).slot new)) places k bit (record { slot = 0; at = 0 }) less
    (here_now words (place_of places k).slot new (place_of places k) inside refl ∙ here)
    (λ j low ne. elim (cases_eq (place_of places j).slot (place_of places k).slot) [
      | inl e ↦
          here_now words (place_of places k).slot new (place_of places j) inside e
          ∙ others (place_of places j).at (small j low) (λ same. ne (apart j k low less e same))
          ∙ ap (λ q. has_bit (slice_index words q) (place_of places j).at) (sym e)
      | inr far ↦ there_still words (place_of places k).slot new (place_of places j) far
    ])

-- values that are all 0 are stored so
values_none : (places : List Lane) (slots : List Slot) → ((q : ℕ) → slot_at slots q ≡ record { value = 0; change = 0 }) → (k : ℕ) → value_in (values_of places slots) k ≡ false
values_none [] slots none k = get_or_past (values_of [] slots) k false (omega arith)
values_none (p ∷ places) slots none zero = ap (λ s. has_bit s.value p.at) (none p.slot) ∙ has_none p.at
values_none (p ∷ places) slots none (suc k) = values_none places slots none k

pub stored_none : (n : ℕ) (lanes : List ℕ) (places : List Lane) (slots : List Slot) → ((q : ℕ) → slot_at slots q ≡ record { value = 0; change = 0 }) → AreStored n lanes (value_in (values_of places slots)) slots
stored_none n lanes places slots none q less l small inside =
    ap (λ s. has_bit s.value l) (none q) ∙ has_none l ∙ sym (values_none places slots none (node_at lanes q l))
