-- How the places of a simplified netlist come about. Each old node has a place in a netlist between the two. Each node of that which is used has a
-- place in the new one. A kept node's place is the place of its place. For histories it gives what `ShowsSame` says; it serves those whose values are
-- not of a history, as where words are put at any time.
use Rattle.std.specs.Prelude.{◌≡◌, ℕ, ◌<◌, Bool, true, List, length, slice_index}
use Rattle.netlist.specs.Net.{Net}
use Rattle.netlist.specs.Order.{AreOrdered}
use Rattle.netlist.specs.Folded.{IsFolded}

pub record IsFoldedTwice (old new : Net) (keep place : List ℕ) : Type 0 where
  pub middle : Net
  pub ordered : AreOrdered middle.nodes middle.blocks
  pub to : ℕ → ℕ
  pub used : ℕ → Bool
  pub on : ℕ → ℕ
  pub first : IsFolded old middle (λ _. true) to
  pub second : IsFolded middle new used on
  pub kept : (i : ℕ) → i < length keep
      → (used (to (slice_index keep i)) ≡ true) × (to (slice_index keep i) < length middle.nodes)
      × (slice_index place i ≡ on (to (slice_index keep i)))
