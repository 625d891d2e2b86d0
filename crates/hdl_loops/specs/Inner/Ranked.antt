-- Ranks of bits.
use Rattle.std.specs.Prelude.{◌≡◌, ℕ, ◌<◌, ◌≤◌, List, Option, Some, None, slice_get}
use Rattle.std.specs.Map.{lookup}
use Rattle.hdl_plans.specs.Loops.{BitAt}
use Rattle.hdl_loops.specs.Inner.Hops.{bit, is_bit}
use Rattle.hdl_loops.specs.Inner.Ties.{In}
use Rattle.hdl_loops.specs.declared.hops.Hop.{Hop}
use Rattle.hdl_loops.specs.declared.joint.Joint.{Joint}
use Rattle.hdl_loops.specs.declared.bundle.Bundle.{Bundle}
use Rattle.hdl_loops.specs.declared.ranks.Ranks.{Ranks}

-- the rank of a bit
abbrev pub rank_at : Ranks → BitAt → Option ℕ
rank_at r x = lookup (is_bit x) r.ranks.entries

abbrev pub Rise : Option ℕ → Option ℕ → Type 0
Rise (Some a) (Some b) = a < b
Rise (Some a) None = ⊥
Rise None b = ⊥

abbrev pub HopRises : Ranks → Hop → Type 0
HopRises r h = Rise (rank_at r (bit h.from)) (rank_at r (bit h.to))

-- ranks rise along each hop
abbrev pub AllRise : Ranks → List Hop → Type 0
AllRise r hs = (p : ℕ) (h : Hop) → slice_get hs p ≡ Some h → HopRises r h

-- the bits outside these joints have ranks, none above this one
abbrev pub AreUpTo : Ranks → List Joint → ℕ → Type 0
AreUpTo r js top = (j : Joint) → In j js → (a : ℕ) × (rank_at r (bit j.net) ≡ Some a) × (a ≤ top)

-- they have ranks, each above this one
abbrev pub AreAbove : Ranks → List Joint → ℕ → Type 0
AreAbove r js top = (j : Joint) → In j js → (a : ℕ) × (rank_at r (bit j.net) ≡ Some a) × (top < a)

-- ranks rise along each hop of the bundle
pub record BundleRises (r : Ranks) (b : Bundle) : Type 0 where
  pub highest : ℕ
  pub below : AreUpTo r b.enters.items highest
  pub above : AreAbove r b.leaves.items highest
