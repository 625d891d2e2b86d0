-- The computer of gates as its callers see it, and its history. (The book, chapter 5.)
use Rattle.std.specs.Prelude.{◌≡◌, ℕ, suc, ◌-◌, ◌<◌, nat_lt, if◌then◌else◌, List, length, Some}
use Rattle.std.specs.List.{All}
use Rattle.word16.specs.Memory.{keyboard}
use Rattle.outer_world.specs.State.{SinkState}
use Rattle.outer_world.specs.Written.{Passes}
use Rattle.outer_world.specs.declared.sink.Put.{Put}
use Rattle.machine_io.specs.History.{Turn}
use Rattle.machine_io.specs.declared.machine.Moved.TheVariants.{Acted}
use Rattle.simulation.specs.System.{IsKey}
use Rattle.simulation.specs.Trace.{Trace, steps, heard_keys, point_at}
use Rattle.image_map.specs.declared.map.Image.{Image}
use Rattle.image_map.specs.Map.{the_map}
use Rattle.image_map.specs.Tallies.{TallyState}
use Rattle.image_map.specs.Turns.{HoldsKeys}
use Rattle.hdl_tree.specs.Behaviour.{Histories}
use Rattle.netlist.specs.Present.{value_in}
use Rattle.netlist.specs.Value.{spelled_number}
use Rattle.netlist.specs.Words.{word_at as stored_at}
use Rattle.gate_sim.specs.State.{SimState}
use Rattle.hack_cpu.specs.Computer.{pc_at, word_at}
use Rattle.gate_computer.specs.declared.wiring.Wiring.{Wiring}
use Rattle.gate_computer.specs.Computer.{IsComputer, trace_shown}
use Rattle.gate_computer.specs.Parts.{ShowsParts}
use Rattle.gate_computer.specs.Calls.{WasTold}

-- its netlist's simulator with the wiring; the words of the image; what is counted; the key that the pins hold; the numbers of cycles passed and of
-- keys heard
pub record GateMachine : Type 0 where
  pub sim : SimState
  pub wiring : Wiring
  pub image : List ℕ
  pub tally : TallyState
  pub key : ℕ
  pub moves : ℕ
  pub heard : ℕ

-- what runs: the image with its map
abbrev pub image_in : GateMachine → Image
image_in g = record { words = g.image; map = g.tally.map }

-- the word at an address of main memory or of the screen
abbrev pub word_in : GateMachine → ℕ → ℕ
word_in g a = if nat_lt a 16384 then stored_at g.sim.memory g.wiring.main a else stored_at g.sim.memory g.wiring.screen (a - 16384)

-- what a map counts of a behaviour under these keys
abbrev pub trace_of_run : GateMachine → (ℕ → ℕ) → (List ℕ → Histories) → Trace
trace_of_run g keys wires = trace_shown g.image (the_map g.tally.map) keys wires

-- It shows what is seen of the behaviour at cycle n.
pub record ShowsCycle (g : GateMachine) (keys : ℕ → ℕ) (wires : List ℕ → Histories) (n : ℕ) : Type 0 where
  pub at : g.tally.at ≡ pc_at wires n
  pub counted : g.tally.steps ≡ steps (trace_of_run g keys wires) n
  pub heard : g.heard ≡ length (heard_keys (trace_of_run g keys wires) n)
  pub seen : point_at (trace_of_run g keys wires) n ≡ Some g.tally.point
  pub words : (a : ℕ) → a < keyboard → word_in g a ≡ word_at wires n a

-- It acted in each of these turns. Its simulator was given their keys, one in each cycle. From the first cycle on the address that it is at is what
-- the pins pc spell in the simulator's values. Take every behaviour of the Computer that has its image, holds these keys in its first cycles and goes
-- on past them. It shows what is seen of that behaviour then. For all keys there are behaviours over any number of cycles.
pub record HasFollowed (g : GateMachine) (turns : List Turn) : Type 0 where
  pub acted : All (λ t. t.answer ≡ Acted) turns
  pub counts : g.moves ≡ length turns
  pub told : WasTold g.sim g.wiring g.image g.key turns
  pub read : 0 < length turns → g.tally.at ≡ spelled_number (value_in g.sim.values) g.wiring.pc
  pub shows : (keys : ℕ → ℕ) → HoldsKeys keys 0 turns → (m : ℕ) (wires : List ℕ → Histories) → length turns < m → IsComputer g.image keys m wires → ShowsCycle g keys wires (length turns)
  pub behaves : (keys : ℕ → ℕ) → ((c : ℕ) → IsKey (keys c)) → (m : ℕ) → (wires : List ℕ → Histories) × IsComputer g.image keys m wires

-- A text was handed to a buffer that shows the outputs of all parts in cycle n of a behaviour of the Computer with this image and these keys.
pub record PassesParts (image : List ℕ) (keys : ℕ → ℕ) (n : ℕ) (before : SinkState) (pending : List ℕ) (now : SinkState) (pending' : List ℕ) (answer : Put) : Type 0 where
  pub text : List ℕ
  pub wires : List ℕ → Histories
  pub behaves : IsComputer image keys (suc n) wires
  pub shows : ShowsParts wires n text
  pub passes : Passes before pending now pending' text answer
