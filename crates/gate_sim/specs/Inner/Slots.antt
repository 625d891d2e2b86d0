-- What stands in slots, and how far an evaluation has come.
use Rattle.std.specs.Prelude.{◌≡◌, ℕ, zero, suc, ◌+◌, ◌*◌, ◌<◌, ◌≤◌, Bool, false, ◌&&◌, List, length, map, slice_index, slice_index_or, nat_lt, if◌then◌else◌}
use Rattle.word16.specs.Words.{has_bit}
use Rattle.netlist.specs.declared.node.Node.{Node}
use Rattle.netlist.specs.declared.node.Node.TheVariants.{Pin}
use Rattle.netlist.specs.declared.node.Block.{Block}
use Rattle.netlist.specs.Present.{IsRow}
use Rattle.netlist.specs.Settled.{AreSettled}
use Rattle.netlist.specs.Touched.{is_other}
use Rattle.netlist.specs.Inner.Taken.{is_taken}
use Rattle.gate_sim.specs.declared.plan.Lane.{Lane}
use Rattle.gate_sim.specs.declared.plan.Slot.{Slot}
use Rattle.gate_sim.specs.Inner.Plans.{node_at, place_of}

-- slot q
abbrev pub slot_at : List Slot → ℕ → Slot
slot_at slots q = slice_index_or slots q (record { value = 0; change = 0 })

-- the value in a lane
abbrev pub lane_value : List Slot → Lane → Bool
lane_value slots lane = has_bit (slot_at slots lane.slot).value lane.at

-- the value of node k, and whether it is another one than before
abbrev pub value_at : List Lane → List Slot → ℕ → Bool
value_at places slots k = lane_value slots (place_of places k)

abbrev pub change_at : List Lane → List Slot → ℕ → Bool
change_at places slots k = has_bit (slot_at slots (place_of places k).slot).change (place_of places k).at

-- the values of all nodes
abbrev pub values_of : List Lane → List Slot → List Bool
values_of places slots = map (lane_value slots) places

-- the bit of a lane in words, of which each slot has one
abbrev pub word_lane : List ℕ → Lane → Bool
word_lane words lane = has_bit (slice_index words lane.slot) lane.at

-- the bits of all nodes in words
abbrev pub bits_of : List Lane → List ℕ → List Bool
bits_of places words = map (word_lane words) places

-- the lanes of a slot have the values of the nodes that they stand for
abbrev pub HasValues : ℕ → List ℕ → (ℕ → Bool) → ℕ → ℕ → Type 0
HasValues n lanes row q value = (l : ℕ) → l < 16 → node_at lanes q l < n → has_bit value l ≡ row (node_at lanes q l)

-- and it is said of them which were other ones
pub record IsPassedSlot (n : ℕ) (lanes : List ℕ) (was row : ℕ → Bool) (q : ℕ) (slot : Slot) : Type 0 where
  pub now : HasValues n lanes row q slot.value
  pub told : HasValues n lanes (λ k. is_other (was k) (row k)) q slot.change

-- each slot has its values
abbrev pub AreStored : ℕ → List ℕ → (ℕ → Bool) → List Slot → Type 0
AreStored n lanes row slots = (q : ℕ) → q < length slots → HasValues n lanes row q (slot_at slots q).value

-- slots below q are passed, and the others have the values of before
pub record ArePassed (n : ℕ) (lanes : List ℕ) (was row : ℕ → Bool) (q : ℕ) (slots : List Slot) : Type 0 where
  pub passed : (p : ℕ) → p < q → IsPassedSlot n lanes was row p (slot_at slots p)
  pub stored : (p : ℕ) → q ≤ p → p < length slots → HasValues n lanes was p (slot_at slots p).value

-- an evaluation that goes from one row to another
pub record Evaluates (nodes : List Node) (blocks : List Block) (start : ℕ → Bool) (words : ℕ → ℕ → ℕ) (written : ℕ → Bool) (whole : Bool) (was row : ℕ → Bool) : Type 0 where
  pub settled : whole ≡ false → AreSettled nodes blocks written words was
  pub is_row : IsRow nodes blocks start words row

-- how many numbers below n pass a test
abbrev pub count_below : (ℕ → Bool) → ℕ → ℕ
count_below test zero = 0
count_below test (suc n) = count_below test n + (if test n then 1 else 0)

-- node k is evaluated, and its place is before place p, where each slot has sixteen
abbrev pub is_taken_before : List Node → List Lane → (Node → Bool) → ℕ → ℕ → Bool
is_taken_before nodes places taken p k = taken (slice_index_or nodes k Pin) && nat_lt (16 * (place_of places k).slot + (place_of places k).at) p

-- how many nodes are evaluated whose places are before slot q
abbrev pub taken_before : List Node → List Block → List Lane → (ℕ → Bool) → Bool → (ℕ → Bool) → (ℕ → Bool) → ℕ → ℕ
taken_before nodes blocks places written whole was row q = count_below (is_taken_before nodes places (is_taken whole blocks (λ k. is_other (was k) (row k)) written) (16 * q)) (length nodes)

-- slot q is passed, in a slot of these values, and no more steps are taken than nodes are that have their places in it
abbrev pub PassesOp : List Node → List Block → List ℕ → List Lane → (ℕ → Bool) → (ℕ → ℕ → ℕ) → (ℕ → Bool) → Bool → ℕ → List Slot → Slot → ℕ → ℕ → Type 0
PassesOp nodes blocks lanes places start words written whole q slots slot before after =
    (was row : ℕ → Bool) → Evaluates nodes blocks start words written whole was row → ArePassed (length nodes) lanes was row q slots →
    IsPassedSlot (length nodes) lanes was row q slot × (after + taken_before nodes blocks places written whole was row q ≤ before + taken_before nodes blocks places written whole was row (q + 1))

-- the slots from one up to another are passed, and no more steps are taken than nodes are that have their places there
abbrev pub Passes : List Node → List Block → List ℕ → List Lane → (ℕ → Bool) → (ℕ → ℕ → ℕ) → (ℕ → Bool) → Bool → ℕ → ℕ → List Slot → List Slot → ℕ → ℕ → Type 0
Passes nodes blocks lanes places start words written whole from end slots new before after =
    (was row : ℕ → Bool) → Evaluates nodes blocks start words written whole was row → ArePassed (length nodes) lanes was row from slots →
    ArePassed (length nodes) lanes was row end new × (after + taken_before nodes blocks places written whole was row from ≤ before + taken_before nodes blocks places written whole was row end)

-- each node has its place in a lane of a slot
abbrev pub ArePlacedIn : ℕ → List Lane → Type 0
ArePlacedIn n places = (k : ℕ) → k < length places → ((place_of places k).slot < n) × ((place_of places k).at < 16)
