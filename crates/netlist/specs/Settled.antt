-- Values that need no evaluation.
use Rattle.std.specs.Prelude.{◌≡◌, ℕ, Bool, false, not, ◌&&◌, List, Some, slice_get}
use Rattle.word16.specs.Words.{has_bit}
use Rattle.netlist.specs.declared.node.Node.{Node}
use Rattle.netlist.specs.declared.node.Node.TheVariants.{Nand, Word}
use Rattle.netlist.specs.declared.node.Block.{Block}
use Rattle.netlist.specs.Value.{shown_value}

-- the values of gates, and of the words of blocks that were not written, are those of what they read
pub record AreSettled (nodes : List Node) (blocks : List Block) (written : ℕ → Bool) (words : ℕ → ℕ → ℕ) (row : ℕ → Bool) : Type 0 where
  pub gates : (k i j : ℕ) → slice_get nodes k ≡ Some (Nand i j) → row k ≡ not (row i && row j)
  pub bits : (k b bit : ℕ) → slice_get nodes k ≡ Some (Word b bit) → written b ≡ false
      → row k ≡ has_bit (shown_value (slice_get blocks b) (words b) row) bit
