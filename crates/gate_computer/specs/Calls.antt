-- The calls that the simulator of the Computer was given: its image is loaded, and the keys of its turns are set, one in each cycle. (The book,
-- chapter 5.)
use Rattle.std.specs.Prelude.{◌≡◌, ◌≢◌, ℕ, ◌<◌, Bool, false, List, length, slice_index}
use Rattle.std.specs.List.{All}
use Rattle.word16.specs.Words.{has_bit}
use Rattle.machine_io.specs.History.{Turn}
use Rattle.simulation.specs.System.{IsKey}
use Rattle.netlist.specs.Order.{AreOrdered}
use Rattle.netlist.specs.Value.{Inputs}
use Rattle.netlist.specs.Words.{after_load}
use Rattle.gate_sim.specs.State.{SimState}
use Rattle.gate_sim.specs.Calls.{Call, pins_of}
use Rattle.gate_sim.specs.Stands.{StandsFor}
use Rattle.gate_sim.specs.Cycles.{Runs}
use Rattle.gate_computer.specs.declared.wiring.Wiring.{Wiring}
use Rattle.image_map.specs.Turns.{HoldsKeys}
use Rattle.gate_computer.specs.Simple.{ShowsComputer}

-- the pins of the keyboard hold the bits of a key, and every other pin is 0
pub record HoldsKey (keyboard : List ℕ) (key : ℕ) (pin : ℕ → Bool) : Type 0 where
  pub bits : (j : ℕ) → j < length keyboard → pin (slice_index keyboard j) ≡ has_bit key j
  pub others : (k : ℕ) → ((j : ℕ) → j < length keyboard → slice_index keyboard j ≢ k) → pin k ≡ false

-- what comes from outside into the netlist: the image is loaded, and the keyboard holds these keys in the first n cycles
pub record ComesIn (w : Wiring) (image : List ℕ) (keys : ℕ → ℕ) (n : ℕ) (h : Inputs) : Type 0 where
  pub loaded : (b a : ℕ) → h.loaded b a ≡ after_load w.rom 0 image b a 0
  pub pins : (c : ℕ) → c < n → HoldsKey w.keyboard (keys c) (h.pin c)

-- The netlist shows the Computer; image and keys are words. The calls that the simulator got go through the cycles of the turns, and the pins
-- hold this key.
pub record WasTold (sim : SimState) (w : Wiring) (image : List ℕ) (key : ℕ) (turns : List Turn) : Type 0 where
  pub seen : ShowsComputer sim.net w
  pub ordered : AreOrdered sim.net.nodes sim.net.blocks
  pub image_words : (a : ℕ) → slice_index image a < 65536
  pub key_words : All (λ t. IsKey t.key) turns
  pub key_word : IsKey key
  pub calls : List Call
  pub stands : StandsFor sim calls
  pub held : HoldsKey w.keyboard key (pins_of sim.net.nodes calls)
  pub runs : (keys : ℕ → ℕ) (h : Inputs) → HoldsKeys keys 0 turns → ComesIn w image keys (length turns) h → Runs sim.net h (length turns) calls
