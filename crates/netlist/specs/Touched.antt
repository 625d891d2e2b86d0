-- What an evaluation has to look at again.
use Rattle.std.specs.Prelude.{ℕ, Bool, true, false, not, ◌||◌, List}
use Rattle.std.specs.List.{list_any}
use Rattle.netlist.specs.declared.node.Node.{Node}
use Rattle.netlist.specs.declared.node.Node.TheVariants.{Pin, Nand, Flip, Word, Zero}
use Rattle.netlist.specs.declared.node.Block.{Block}
use Rattle.netlist.specs.Reads.{reads_of}

-- one bit is not the other
abbrev pub is_other : Bool → Bool → Bool
is_other true b = not b
is_other false b = b

-- to evaluate the node is a step: gates and bits of words
abbrev pub is_step : Node → Bool
is_step Pin = false
is_step (Nand i j) = true
is_step (Flip i) = false
is_step (Word b bit) = true
is_step Zero = false

-- a bit of the word of a block that was written
abbrev pub is_written : (ℕ → Bool) → Node → Bool
is_written written Pin = false
is_written written (Nand i j) = false
is_written written (Flip i) = false
is_written written (Word b bit) = written b
is_written written Zero = false

-- what the node reads within the cycle differs, or its block was written
abbrev pub is_touched : List Block → (ℕ → Bool) → (ℕ → Bool) → Node → Bool
is_touched blocks differs written node = list_any differs (reads_of blocks node) || is_written written node
