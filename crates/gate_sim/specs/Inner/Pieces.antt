-- Pieces of large plans: sixty-four operations each. A piece whose mark is off need not be passed.
use Rattle.std.specs.Prelude.{◌≡◌, ℕ, ◌+◌, ◌/◌, ◌<◌, ◌≤◌, Bool, true, false, List, length, Some, slice_get, slice_index, slice_index_or}
use Rattle.word16.specs.Words.{has_bit}
use Rattle.netlist.specs.declared.node.Node.{Node}
use Rattle.netlist.specs.declared.node.Node.TheVariants.{Flip}
use Rattle.netlist.specs.Present.{value_in}
use Rattle.gate_sim.specs.declared.pieces.Span.{Span}
use Rattle.gate_sim.specs.declared.plan.Lane.{Lane}
use Rattle.gate_sim.specs.declared.plan.Op.{Op}
use Rattle.gate_sim.specs.declared.plan.Op.TheVariants.{Held, Zeros, Gates, Lone, Spread, Move, Read}
use Rattle.gate_sim.specs.declared.plan.Slot.{Slot}
use Rattle.gate_sim.specs.declared.plan.Take.{Take}
use Rattle.gate_sim.specs.Inner.Plans.{place_of}
use Rattle.gate_sim.specs.Inner.Slots.{slot_at, word_lane, HasValues}

-- the piece of slot q, or of take q among the takes
abbrev pub piece_of : ℕ → ℕ
piece_of q = q / 64

-- how many pieces so many have
abbrev pub pieces_in : ℕ → ℕ
pieces_in n = n / 64 + 1

-- where the readers of slot r stand
abbrev pub span_at : List Span → ℕ → Span
span_at spans r = slice_index_or spans r (record { from = 0; end = 0 })

-- m is among the readers of slot r
pub record IsReader (spans : List Span) (list : List ℕ) (r m : ℕ) : Type 0 where
  pub place : ℕ
  pub from : (span_at spans r).from ≤ place
  pub end : place < (span_at spans r).end
  pub inside : place < length list
  pub same : slice_index list place ≡ m

-- piece m is among the readers of the slots that its operation reads; one whose operation is zeros or a read of a block is always passed
abbrev pub IsToldOp : List Span → List ℕ → List Bool → ℕ → Op → Type 0
IsToldOp spans list always m Held = Unit {0}
IsToldOp spans list always m Zeros = value_in always m ≡ true
IsToldOp spans list always m (Gates a b mask) = IsReader spans list a m × IsReader spans list b m
IsToldOp spans list always m (Lone a b mask_a mask_b) = IsReader spans list a.slot m × IsReader spans list b.slot m
IsToldOp spans list always m (Spread a) = IsReader spans list a.slot m
IsToldOp spans list always m (Move below a up down mask) = IsReader spans list below m × IsReader spans list a m
IsToldOp spans list always m (Read b mask address) = value_in always m ≡ true

-- each piece of operations is told of what it reads, and so is each piece of takes, which come after those
pub record AreReaders (ops : List Op) (takes : List Take) (spans : List Span) (list : List ℕ) (always : List Bool) : Type 0 where
  pub spans_long : length spans ≡ length ops
  pub always_long : length always ≡ pieces_in (length ops)
  pub each : (q : ℕ) (op : Op) → slice_get ops q ≡ Some op
      → IsToldOp spans list always (piece_of q) op
  pub takes_told : (t : ℕ) (take : Take) → slice_get takes t ≡ Some take
      → IsReader spans list take.source (pieces_in (length ops) + piece_of t)

-- an operation gives what its slot has: no slot that it reads changed, and pins and flip-flops have there what they have now
abbrev pub IsIdleOp : ℕ → List ℕ → (ℕ → Bool) → List Slot → ℕ → Op → Type 0
IsIdleOp n lanes start slots q Held = HasValues n lanes start q (slot_at slots q).value
IsIdleOp n lanes start slots q Zeros = ⊥
IsIdleOp n lanes start slots q (Gates a b mask) = ((slot_at slots a).change ≡ 0) × ((slot_at slots b).change ≡ 0)
IsIdleOp n lanes start slots q (Lone a b mask_a mask_b) = ((slot_at slots a.slot).change ≡ 0) × ((slot_at slots b.slot).change ≡ 0)
IsIdleOp n lanes start slots q (Spread a) = (slot_at slots a.slot).change ≡ 0
IsIdleOp n lanes start slots q (Move below a up down mask) = ((slot_at slots below).change ≡ 0) × ((slot_at slots a).change ≡ 0)
IsIdleOp n lanes start slots q (Read b mask address) = ⊥

-- in pieces whose mark is off no slot changed, and no slot that they read
pub record AreIdle (n : ℕ) (lanes : List ℕ) (start : ℕ → Bool) (ops : List Op) (slots : List Slot) (marks : List Bool) : Type 0 where
  pub still : (q : ℕ) → value_in marks (piece_of q) ≡ false → (slot_at slots q).change ≡ 0
  pub each : (q : ℕ) (op : Op) → slice_get ops q ≡ Some op → value_in marks (piece_of q) ≡ false
      → IsIdleOp n lanes start slots q op

-- nor did a slot from which takes take whose mark is off: the marks of takes stand from place m on
abbrev pub AreIdleTakes : ℕ → List Take → List Slot → List Bool → Type 0
AreIdleTakes m takes slots marks = (t : ℕ) (take : Take) → slice_get takes t ≡ Some take → value_in marks (m + piece_of t) ≡ false → (slot_at slots take.source).change ≡ 0

-- nothing changed anywhere
abbrev pub AreStill : List Slot → Type 0
AreStill slots = (q : ℕ) → (slot_at slots q).change ≡ 0

-- take number t gives node k its state
pub record IsGiven (places : List Lane) (takes : List Take) (k t : ℕ) (take : Take) : Type 0 where
  pub there : slice_get takes t ≡ Some take
  pub slot : take.slot ≡ (place_of places k).slot
  pub on : has_bit take.mask (place_of places k).at ≡ true

-- words have at flip-flops what takes give them whose mark is off
abbrev pub AreGiven : List Node → List Lane → List Take → (ℕ → Bool) → (ℕ → ℕ → Bool) → List ℕ → Type 0
AreGiven nodes places takes mark value words = (k i t : ℕ) (take : Take) → mark t ≡ false → slice_get nodes k ≡ Some (Flip i) → IsGiven places takes k t take → word_lane words (place_of places k) ≡ value k i

-- the mark of take t, where the marks of takes stand from place m on
abbrev pub take_mark : ℕ → List Bool → ℕ → Bool
take_mark m marks t = value_in marks (m + piece_of t)
