-- The pins of the keyboard while a key is set, one after the other.
use Rattle.std.specs.Prelude.{◌≡◌, ◌≢◌, ℕ, ◌<◌, nat_eq, nat_lt, if◌then◌else◌, Bool, false, List, length, slice_index}
use Rattle.word16.specs.Words.{has_bit}
use Rattle.netlist.specs.declared.node.Node.{Node}
use Rattle.netlist.specs.Value.{Inputs}
use Rattle.gate_sim.specs.State.{SimState}
use Rattle.gate_sim.specs.Calls.{Call, pins_of}
use Rattle.gate_sim.specs.Stands.{StandsFor}
use Rattle.gate_sim.specs.Cycles.{Runs}

-- ---- setting the pins

-- A simulator got more calls: the pins are these now, and it has gone through the same cycles.
pub record HasSet (sim : SimState) (calls : List Call) (Pins : (ℕ → Bool) → Type 0) : Type 0 where
  pub now : List Call
  pub stands : StandsFor sim now
  pub pins : Pins (pins_of sim.net.nodes now)
  pub runs : (h : Inputs) (n : ℕ) → Runs sim.net h n calls → Runs sim.net h n now

-- the pins are those of the calls, but that at this node, which has this bit
abbrev pub ChangesPin : List Node → List Call → ℕ → Bool → (ℕ → Bool) → Type 0
ChangesPin nodes calls node bit pin = (k : ℕ) → pin k ≡ (if nat_eq node k then bit else pins_of nodes calls k)

-- the pins of the keyboard before place i hold the bits of a key, those from there on still those of another, and every other pin is 0
pub record HoldsPart (keyboard : List ℕ) (i key old : ℕ) (pin : ℕ → Bool) : Type 0 where
  pub bits : (j : ℕ) → j < length keyboard → pin (slice_index keyboard j) ≡ has_bit (if nat_lt j i then key else old) j
  pub others : (k : ℕ) → ((j : ℕ) → j < length keyboard → slice_index keyboard j ≢ k) → pin k ≡ false
