-- The lists of a simulator fit its netlist, and its values are settled. Each gate has the value that it has over the values that are stored,
-- and so has each bit of a block that was not written.
use Rattle.std.specs.Prelude.{◌≡◌, ℕ, Bool, true, false, List, length, Option, Vec}
use Rattle.std.specs.Global.{Global}
use Rattle.netlist.specs.declared.step.BlockWrite.{BlockWrite}
use Rattle.netlist.specs.Net.{Net}
use Rattle.netlist.specs.Order.{AreOrdered}
use Rattle.netlist.specs.Words.{HasWords, word_at}
use Rattle.netlist.specs.Present.{IsRow, value_in}
use Rattle.netlist.specs.Settled.{AreSettled}
use Rattle.netlist.specs.Steps.{AreWrites}

pub record SimFits (net : Net) (start values : List Bool) (writes : List (Option BlockWrite)) (memory : List (Vec ℕ Global)) (fresh : Bool) (written : List Bool) (whole : Bool) : Type 0 where
  pub ordered : AreOrdered net.nodes net.blocks
  pub are_writes : AreWrites net.blocks writes
  pub has_words : HasWords net.blocks memory
  pub written_long : length written ≡ length net.blocks
  pub settled : whole ≡ false
      → AreSettled net.nodes net.blocks (value_in written) (word_at memory) (value_in values)
  pub passed : fresh ≡ true
      → IsRow net.nodes net.blocks (value_in start) (word_at memory) (value_in values)
  pub begun : fresh ≡ true → whole ≡ false
  pub unwritten : fresh ≡ true → (b : ℕ) → value_in written b ≡ false
