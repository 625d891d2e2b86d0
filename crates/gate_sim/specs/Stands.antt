-- The calls that a simulator stands for.
use Rattle.std.specs.Prelude.{◌≡◌, ℕ, ◌<◌, Bool, true, false, List, ◌∷◌, length, Some, slice_get}
use Rattle.netlist.specs.declared.node.Node.TheVariants.{Pin, Flip}
use Rattle.hdl_tree.specs.Memory.{before}
use Rattle.netlist.specs.Present.{value_in}
use Rattle.netlist.specs.Words.{word_at}
use Rattle.netlist.specs.Steps.{after_write, write_at}
use Rattle.gate_sim.specs.Calls.{Call, cycle_of, pins_of, evaluated_calls}
use Rattle.gate_sim.specs.Calls.Call.{Tock}
use Rattle.gate_sim.specs.Values.{ArePast, AreValues, words_of, written_before}
use Rattle.gate_sim.specs.State.{SimState}
use Rattle.gate_sim.specs.Marks.{AreMarksRight}

-- its pins, the states of its flip-flops, its words, and what the next tock takes are those that the calls lead to
pub record Keeps (s : SimState) (calls : List Call) : Type 0 where
  pub pins : (k : ℕ) → slice_get s.net.nodes k ≡ Some Pin
      → value_in s.start k ≡ pins_of s.net.nodes calls k
  pub flips : (v : ℕ → ℕ → Bool)
      → ArePast s.net calls (cycle_of calls) v → (k i : ℕ) → slice_get s.net.nodes k ≡ Some (Flip i)
      → value_in s.start k ≡ before false (cycle_of calls) (v i)
  pub words : (v : ℕ → ℕ → Bool) → ArePast s.net calls (cycle_of calls) v → (b a : ℕ)
      → word_at s.memory b a ≡ words_of s.net.blocks v calls b a
  pub fixed : (v : ℕ → ℕ → Bool) → ArePast s.net (Tock ∷ calls) (cycle_of (Tock ∷ calls)) v
      → (k i : ℕ) → slice_get s.net.nodes k ≡ Some (Flip i)
      → value_in s.fixed k ≡ before false (cycle_of (Tock ∷ calls)) (v i)
  pub writes : (v : ℕ → ℕ → Bool) → ArePast s.net (Tock ∷ calls) (cycle_of (Tock ∷ calls)) v
      → (b a old : ℕ) → after_write (write_at s.writes b) a old
      ≡ written_before s.net.blocks v (cycle_of (Tock ∷ calls)) b a old

-- the values of its nodes are those of an evaluation after these calls
abbrev pub IsFresh : SimState → List Call → Type 0
IsFresh s calls = (v : ℕ → ℕ → Bool) → AreValues s.net calls v → (k : ℕ) → k < length s.net.nodes → value_in s.values k ≡ v k (cycle_of calls)

-- a simulator stands for these calls
pub record StandsFor (s : SimState) (calls : List Call) : Type 0 where
  pub keeps : Keeps s calls
  pub values : (earlier : List Call) → evaluated_calls calls ≡ Some earlier → IsFresh s earlier
  pub fresh : s.fresh ≡ true → IsFresh s calls
  pub marks : AreMarksRight s calls
