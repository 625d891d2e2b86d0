-- What contracts see of a simulator.
use Rattle.std.specs.Prelude.{Bool, ℕ, List, Option, Vec}
use Rattle.std.specs.Global.{Global}
use Rattle.netlist.specs.declared.step.BlockWrite.{BlockWrite}
use Rattle.netlist.specs.Net.{Net}

-- the netlist; the inputs and the states of the flip-flops; the values of the last evaluation. Then the states and the words that the next
-- tock takes; the words in the blocks; whether the values are those of an evaluation now. Last, for each block whether it was written
-- since the last evaluation; and whether there was none yet
pub record SimState : Type 0 where
  pub net : Net
  pub start : List Bool
  pub values : List Bool
  pub fixed : List Bool
  pub writes : List (Option BlockWrite)
  pub memory : List (Vec ℕ Global)
  pub fresh : Bool
  pub written : List Bool
  pub whole : Bool
