-- What flip-flops take in at a tick.
use Rattle.std.specs.Prelude.{◌≡◌, ℕ, ◌+◌, ◌<◌, true, List, length, Some, slice_get}
use Rattle.word16.specs.Words.{has_bit}
use Rattle.netlist.specs.declared.node.Node.{Node}
use Rattle.netlist.specs.declared.node.Node.TheVariants.{Flip}
use Rattle.gate_sim.specs.declared.plan.Lane.{Lane}
use Rattle.gate_sim.specs.declared.plan.Take.{Take}
use Rattle.gate_sim.specs.Inner.Plans.{node_at, place_of, StandsAt, IsFlip, IsSuch}

-- lane l of the slot stands for a flip-flop that has its place there, and lane l + down of the source for what the flip-flop takes
pub record IsTakeLane (nodes : List Node) (lanes : List ℕ) (places : List Lane) (take : Take) (l : ℕ) : Type 0 where
  pub inside : node_at lanes take.slot l < length nodes
  pub placed : StandsAt places (node_at lanes take.slot l) take.slot l
  pub high : l + take.down < 16
  pub flip : IsSuch nodes (node_at lanes take.slot l)
      (IsFlip (λ i. node_at lanes take.source (l + take.down) ≡ i))

pub record IsTake (nodes : List Node) (n : ℕ) (lanes : List ℕ) (places : List Lane) (take : Take) : Type 0 where
  pub slot : take.slot < n
  pub source : take.source < n
  pub down : take.down < 16
  pub lane : (l : ℕ) → l < 16 → has_bit take.mask l ≡ true → IsTakeLane nodes lanes places take l

-- one of these gives node k what it takes
abbrev pub IsServed : List Lane → List Take → ℕ → Type 0
IsServed places takes k = (j : ℕ) × (take : Take) × (slice_get takes j ≡ Some take) × (take.slot ≡ (place_of places k).slot) × (has_bit take.mask (place_of places k).at ≡ true)

-- each of these is right, and each flip-flop is served
pub record AreTakes (nodes : List Node) (n : ℕ) (lanes : List ℕ) (places : List Lane) (takes : List Take) : Type 0 where
  pub each : (j : ℕ) (take : Take) → slice_get takes j ≡ Some take
      → IsTake nodes n lanes places take
  pub all : (k i : ℕ) → slice_get nodes k ≡ Some (Flip i) → IsServed places takes k
