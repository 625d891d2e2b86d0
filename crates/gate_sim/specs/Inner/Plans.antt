-- A plan: where the values of nodes stand, and the operations that give them, one for each slot of sixteen lanes.
use Rattle.std.specs.Prelude.{◌≡◌, ℕ, ◌+◌, ◌-◌, ◌*◌, ◌%◌, ◌<◌, ◌≤◌, ◌⊎◌, ◌^◌, true, false, List, length, Option, Some, MatchOption, slice_get, slice_index, slice_index_or, nat_lt, if◌then◌else◌}
use Rattle.std.specs.List.{All}
use Rattle.word16.specs.Words.{has_bit}
use Rattle.netlist.specs.declared.node.Node.{Node}
use Rattle.netlist.specs.declared.node.Node.TheVariants.{Pin, Nand, Flip, Word, Zero}
use Rattle.netlist.specs.declared.node.Block.{Block}
use Rattle.netlist.specs.Reads.{address_in}
use Rattle.gate_sim.specs.declared.plan.Lane.{Lane}
use Rattle.gate_sim.specs.declared.plan.Op.{Op}
use Rattle.gate_sim.specs.declared.plan.Op.TheVariants.{Held, Zeros, Gates, Lone, Spread, Move, Read}

-- the node that lane l of slot q stands for; it stands for none where this is no node's number
abbrev pub node_at : List ℕ → ℕ → ℕ → ℕ
node_at lanes q l = slice_index lanes (16 * q + l)

-- the place of node k
abbrev pub place_of : List Lane → ℕ → Lane
place_of places k = slice_index_or places k (record { slot = 0; at = 0 })

-- the word that has the bit of a lane alone
abbrev pub lane_mask : ℕ → ℕ
lane_mask at = if nat_lt at 16 then 1 * 2 ^ at % 2 ^ 16 else 0

-- one gate of two lanes, with their masks
abbrev pub lone_of : Lane → Lane → Op
lone_of a b = Lone a b (lane_mask a.at) (lane_mask b.at)

abbrev pub StandsAt : List Lane → ℕ → ℕ → ℕ → Type 0
StandsAt places k q l = ((place_of places k).slot ≡ q) × ((place_of places k).at ≡ l)

-- the lane is one of an earlier slot than q, and stands for node k
pub record IsEarlier (lanes : List ℕ) (q : ℕ) (lane : Lane) (k : ℕ) : Type 0 where
  pub earlier : lane.slot < q
  pub inside : lane.at < 16
  pub same : node_at lanes lane.slot lane.at ≡ k

-- a pin or a flip-flop
abbrev pub IsHeld : Node → Type 0
IsHeld Pin = Unit {0}
IsHeld (Nand i j) = ⊥
IsHeld (Flip i) = Unit {0}
IsHeld (Word b bit) = ⊥
IsHeld Zero = ⊥

-- a flip-flop of whose input this holds
abbrev pub IsFlip : (ℕ → Type 0) → Node → Type 0
IsFlip P Pin = ⊥
IsFlip P (Nand i j) = ⊥
IsFlip P (Flip i) = P i
IsFlip P (Word b bit) = ⊥
IsFlip P Zero = ⊥

-- a gate of whose inputs this holds
abbrev pub IsGate : (ℕ → ℕ → Type 0) → Node → Type 0
IsGate P Pin = ⊥
IsGate P (Nand i j) = P i j
IsGate P (Flip i) = ⊥
IsGate P (Word b bit) = ⊥
IsGate P Zero = ⊥

-- node k is such
abbrev pub IsSuch : List Node → ℕ → (Node → Type 0) → Type 0
IsSuch nodes k P = (node : Node) → slice_get nodes k ≡ Some node → P node

-- lane l of slot q stands for a pin or a flip-flop that has its place there, where it stands for a node
pub record IsHeldLane (nodes : List Node) (lanes : List ℕ) (places : List Lane) (q l : ℕ) : Type 0 where
  pub held : node_at lanes q l < length nodes → IsSuch nodes (node_at lanes q l) IsHeld
  pub placed : node_at lanes q l < length nodes → StandsAt places (node_at lanes q l) q l

-- these two nodes in one order or the other
abbrev pub ArePair : ℕ → ℕ → ℕ → ℕ → Type 0
ArePair x y i j = ((x ≡ i) × (y ≡ j)) ⊎ ((x ≡ j) × (y ≡ i))

-- lane l of slot q stands for a gate that has its place there, and the inputs of the gate stand in lane l of slots a and b
pub record IsPackedGate (nodes : List Node) (lanes : List ℕ) (places : List Lane) (q l a b : ℕ) : Type 0 where
  pub inside : node_at lanes q l < length nodes
  pub placed : StandsAt places (node_at lanes q l) q l
  pub gate : IsSuch nodes (node_at lanes q l)
      (IsGate (ArePair (node_at lanes a l) (node_at lanes b l)))

pub record IsGatesLane (nodes : List Node) (lanes : List ℕ) (places : List Lane) (q l a b mask : ℕ) : Type 0 where
  pub earlier_a : a < q
  pub earlier_b : b < q
  pub packed : has_bit mask l ≡ true → IsPackedGate nodes lanes places q l a b
  pub bare : has_bit mask l ≡ false → length nodes ≤ node_at lanes q l

-- all lanes stand for one gate, whose place is lane 0
pub record IsLoneLane (nodes : List Node) (lanes : List ℕ) (places : List Lane) (q l : ℕ) (a b : Lane) : Type 0 where
  pub inside : node_at lanes q l < length nodes
  pub placed : StandsAt places (node_at lanes q l) q 0
  pub first : node_at lanes q l ≡ node_at lanes q 0
  pub gate : IsSuch nodes (node_at lanes q l)
      (IsGate (λ i j. IsEarlier lanes q a i × IsEarlier lanes q b j))

-- the lane stands for a node that the other one stands for
pub record IsSpreadLane (nodes : List Node) (lanes : List ℕ) (q l : ℕ) (a : Lane) : Type 0 where
  pub earlier : a.slot < q
  pub inside : a.at < 16
  pub same : node_at lanes q l < length nodes → node_at lanes a.slot a.at ≡ node_at lanes q l

-- where the mask has its bit, the lane stands for what the lane moved there stands for; else for what it stands for in the slot below
pub record IsMoveLane (nodes : List Node) (lanes : List ℕ) (q l below a up down mask : ℕ) : Type 0 where
  pub earlier_below : below < q
  pub earlier_a : a < q
  pub short_up : up < 16
  pub short_down : down < 16
  pub moved : has_bit mask l ≡ true
      → (up ≤ l + down) × (l + down < 16) × (node_at lanes a (l + down - up) ≡ node_at lanes q l)
  pub kept : has_bit mask l ≡ false → node_at lanes q l < length nodes
      → node_at lanes below l ≡ node_at lanes q l

-- node i has its place in an earlier slot than q
pub record IsPlacedBefore (n : ℕ) (places : List Lane) (q i : ℕ) : Type 0 where
  pub inside : i < n
  pub earlier : (place_of places i).slot < q

-- lane l of slot q stands for bit l of a block's word, which has its place there, and the address of the block stands in earlier slots
pub record IsReadBit (nodes : List Node) (blocks : List Block) (lanes : List ℕ) (places : List Lane) (q l b : ℕ) : Type 0 where
  pub inside : node_at lanes q l < length nodes
  pub placed : StandsAt places (node_at lanes q l) q l
  pub bit : IsSuch nodes (node_at lanes q l) (λ node. node ≡ Word b l)
  pub address : All (IsPlacedBefore (length nodes) places q) (address_in (slice_get blocks b))

-- bit i of an address stands i lanes on from the first one, in a slot before q
pub record AreSideBySide (places : List Lane) (q : ℕ) (nodes : List ℕ) (first : Lane) : Type 0 where
  pub earlier : first.slot < q
  pub inside : first.at < 16
  pub fits : first.at + length nodes ≤ 16
  pub lanes : (i : ℕ) → i < length nodes → StandsAt places (slice_index nodes i) first.slot (first.at + i)

-- lane l of slot q stands for bit l of a block's word where the mask has its bit; where a first lane is given, the address stands side by side from there on
pub record IsReadLane (nodes : List Node) (blocks : List Block) (lanes : List ℕ) (places : List Lane) (q l b mask : ℕ) (address : Option Lane) : Type 0 where
  pub block : b < length blocks
  pub side : MatchOption address (Unit {0}) (AreSideBySide places q (address_in (slice_get blocks b)))
  pub read : has_bit mask l ≡ true → IsReadBit nodes blocks lanes places q l b
  pub bare : has_bit mask l ≡ false → length nodes ≤ node_at lanes q l

-- lane l of slot q is right under the slot's operation
abbrev pub IsLane : List Node → List Block → List ℕ → List Lane → ℕ → ℕ → Op → Type 0
IsLane nodes blocks lanes places q l Held = IsHeldLane nodes lanes places q l
IsLane nodes blocks lanes places q l Zeros = node_at lanes q l < length nodes → IsSuch nodes (node_at lanes q l) (λ node. node ≡ Zero)
IsLane nodes blocks lanes places q l (Gates a b mask) = IsGatesLane nodes lanes places q l a b mask
IsLane nodes blocks lanes places q l (Lone a b mask_a mask_b) = IsLoneLane nodes lanes places q l a b × (mask_a ≡ lane_mask a.at) × (mask_b ≡ lane_mask b.at)
IsLane nodes blocks lanes places q l (Spread a) = IsSpreadLane nodes lanes q l a
IsLane nodes blocks lanes places q l (Move below a up down mask) = IsMoveLane nodes lanes q l below a up down mask
IsLane nodes blocks lanes places q l (Read b mask address) = IsReadLane nodes blocks lanes places q l b mask address

-- the place of node k stands for it
pub record IsPlaced (n : ℕ) (lanes : List ℕ) (places : List Lane) (k : ℕ) : Type 0 where
  pub slot : (place_of places k).slot < n
  pub at : (place_of places k).at < 16
  pub same : node_at lanes (place_of places k).slot (place_of places k).at ≡ k

-- each lane of each operation is right, and each node has a place
pub record IsPlan (nodes : List Node) (blocks : List Block) (ops : List Op) (lanes : List ℕ) (places : List Lane) : Type 0 where
  pub few : length ops < 2 ^ 32
  pub lanes_long : length lanes ≡ 16 * length ops
  pub places_long : length places ≡ length nodes
  pub each : (q : ℕ) (op : Op) → slice_get ops q ≡ Some op → (l : ℕ) → l < 16
      → IsLane nodes blocks lanes places q l op
  pub placed : (k : ℕ) → k < length nodes → IsPlaced (length ops) lanes places k
