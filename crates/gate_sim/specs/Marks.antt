-- From which nodes the next evaluation begins.
use Rattle.std.specs.Prelude.{◌≡◌, ℕ, Bool, true, false, List, Some, slice_get}
use Rattle.netlist.specs.declared.node.Node.{Node}
use Rattle.netlist.specs.declared.node.Node.TheVariants.{Pin, Nand, Flip, Word, Zero}
use Rattle.netlist.specs.Present.{value_in}
use Rattle.netlist.specs.Touched.{is_other}
use Rattle.gate_sim.specs.Calls.{Call, evaluated_calls, was_set, was_put}
use Rattle.gate_sim.specs.State.{SimState}

-- a node that the next evaluation begins from: a pin or a flip-flop whose stored value is not the one that it has now. Or it is a bit of
-- the word of a block that was written
abbrev pub is_marked : SimState → ℕ → Node → Bool
is_marked s k Pin = is_other (value_in s.start k) (value_in s.values k)
is_marked s k (Nand i j) = false
is_marked s k (Flip i) = is_other (value_in s.start k) (value_in s.values k)
is_marked s k (Word b bit) = value_in s.written b
is_marked s k Zero = false

-- what may be marked after these calls: since the last evaluation a pin that was set, a bit of a block into which words were put
abbrev pub may_be_marked : List Node → List Call → ℕ → Node → Bool
may_be_marked nodes calls k Pin = was_set nodes calls k
may_be_marked nodes calls k (Nand i j) = false
may_be_marked nodes calls k (Flip i) = false
may_be_marked nodes calls k (Word b bit) = was_put calls b
may_be_marked nodes calls k Zero = false

-- after an evaluation only such nodes, and such blocks, are marked, and no longer all of them
pub record AreMarksRight (s : SimState) (calls : List Call) : Type 0 where
  pub begun : (told : List Call) → evaluated_calls calls ≡ Some told → s.whole ≡ false
  pub right : (told : List Call) → evaluated_calls calls ≡ Some told
      → (k : ℕ) (node : Node) → slice_get s.net.nodes k ≡ Some node → is_marked s k node ≡ true
      → may_be_marked s.net.nodes calls k node ≡ true
  pub blocks : (told : List Call) → evaluated_calls calls ≡ Some told → (b : ℕ)
      → value_in s.written b ≡ true → was_put calls b ≡ true
