-- A simulator of a chip, whose netlist may be a simplified one: what it got by the nodes of the chip, and which of these can be read. (The book,
-- chapters 1 to 3.)
use Rattle.std.specs.Prelude.{◌≡◌, ◌⊎◌, ℕ, ◌<◌, Bool, true, false, ◌||◌, nat_eq, nat_lt, List, [], ◌∷◌, Option, Some, None, MatchOption, length, map, slice_get, slice_index}
use Rattle.std.specs.List.{All, Contains}
use Rattle.netlist.specs.declared.node.Node.{Node}
use Rattle.netlist.specs.declared.node.Node.TheVariants.{Pin}
use Rattle.netlist.specs.Net.{Net}
use Rattle.netlist.specs.Order.{AreOrdered}
use Rattle.netlist.specs.Present.{value_in}
use Rattle.net_simplify.specs.Same.{ShowsSame}
use Rattle.net_simplify.specs.Simplified.{IsSimplified}
use Rattle.net_simplify.specs.Twice.{IsFoldedTwice}
use Rattle.gate_sim.specs.Calls.{Call}
use Rattle.gate_sim.specs.State.{SimState}
use Rattle.gate_sim.specs.Stands.{StandsFor}
use Rattle.script_device.specs.declared.chip_sim.WholeNet.{WholeNet}

-- the netlist of its simulator, and the whole one, where that is simplified
pub record Frame : Type 0 where
  pub whole : Option WholeNet
  pub net : Net

-- its simulator, and what never changes of it
pub record ChipState : Type 0 where
  pub sim : SimState
  pub frame : Frame

-- the netlist of the chip
abbrev pub whole_net : Option WholeNet → Net → Net
whole_net None net = net
whole_net (Some whole) net = whole.net

abbrev pub net_of : Frame → Net
net_of f = whole_net f.whole f.net

-- the place of a node in the netlist of the simulator
abbrev pub place_in : Option WholeNet → ℕ → ℕ
place_in None k = k
place_in (Some whole) k = slice_index whole.places.items k

-- It got these calls. The simplified netlist has the pins and blocks of the whole one in the same order, so they are calls of the chip too.
abbrev pub WasTold : ChipState → List Call → Type 0
WasTold s calls = StandsFor s.sim calls

-- a node is one of these
abbrev pub is_among : List ℕ → ℕ → Bool
is_among [] k = false
is_among (x ∷ xs) k = nat_eq x k || is_among xs k

-- a node can be read: it is there, or it was kept
abbrev pub can_read : Option WholeNet → Net → ℕ → Bool
can_read None net k = nat_lt k (length net.nodes)
can_read (Some whole) net k = is_among whole.kept.items k

abbrev pub IsSeen : Frame → ℕ → Type 0
IsSeen f k = can_read f.whole f.net k ≡ true

-- The netlist that runs reads as that of the chip. Nodes that can be read show at their places what they show in the chip, and blocks hold the same
-- words, whatever comes in (`ShowsSame`). So it is of the chip's own netlist, and of a simplified one.
abbrev pub ReadsAs : Frame → Type 0
ReadsAs f = (nodes : List ℕ) → All (IsSeen f) nodes → ShowsSame (net_of f) f.net nodes (map (place_in f.whole) nodes)

-- The simulator's netlist is what the simplifier gives for the whole one and the nodes that are kept, all pins among them.
pub record IsPlaced (whole : WholeNet) (net : Net) : Type 0 where
  pub place : List ℕ
  pub simplified : IsSimplified whole.net net whole.kept.items place
  pub folded : IsFoldedTwice whole.net net whole.kept.items place
  pub ordered : AreOrdered whole.net.nodes whole.net.blocks
  pub own_ordered : AreOrdered net.nodes net.blocks
  pub inside : All (λ k. k < length whole.net.nodes) whole.kept.items
  pub at : (i : ℕ) → i < length whole.kept.items
      → slice_index whole.places.items (slice_index whole.kept.items i) ≡ slice_index place i
  pub pins : (k : ℕ) → slice_get whole.net.nodes k ≡ Some Pin → Contains whole.kept.items k

-- what is stored at the place of each node
abbrev pub stored_at : ChipState → ℕ → Bool
stored_at s k = value_in s.sim.values (place_in s.frame.whole k)

-- a node is a pin, or one of these
abbrev pub IsWanted : List Node → List ℕ → ℕ → Type 0
IsWanted nodes named k = (slice_get nodes k ≡ Some Pin) ⊎ Contains named k

-- The netlist that runs is a simplified one; of the whole one no node is kept but the pins and these.
abbrev pub IsSimple : List ℕ → Frame → Type 0
IsSimple named f = MatchOption f.whole ⊥ (λ whole. IsPlaced whole f.net × All (IsWanted whole.net.nodes named) whole.kept.items)

-- the netlist that runs: with true a simplified one, with false the whole one
abbrev pub RunsNet : Bool → List ℕ → Frame → Type 0
RunsNet true named f = IsSimple named f
RunsNet false named f = f.whole ≡ None

abbrev pub StandsIn : Option WholeNet → Net → Type 0
StandsIn None net = AreOrdered net.nodes net.blocks
StandsIn (Some whole) net = IsPlaced whole net
