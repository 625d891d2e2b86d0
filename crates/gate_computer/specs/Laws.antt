-- What holds of a program's run on the instruction machine holds on the Computer made of gates. (The book, chapters 4 and 5.)
use Rattle.std.specs.Prelude.{◌≡◌, ℕ, ◌+◌, ◌<◌, List}
use Rattle.word16.specs.Memory.{keyboard}
use Rattle.image_map.specs.Map.{Map}
use Rattle.image_map.specs.Computer.{run_trace, run_word}
use Rattle.simulation.specs.System.{System}
use Rattle.simulation.specs.Laws.{SameCounts}
use Rattle.simulation.specs.Headline.{Follows}
use Rattle.hdl_tree.specs.Behaviour.{Histories}
use Rattle.hack_cpu.specs.Computer.{word_at}
use Rattle.gate_computer.specs.Computer.{IsComputer, trace_shown}

-- at cycle n what is counted of a behaviour, and its words, are those of the instruction machine
pub record SeenAlike (image : List ℕ) (map : Map) (keys : ℕ → ℕ) (wires : List ℕ → Histories) (n : ℕ) : Type 0 where
  pub counts : SameCounts (trace_shown image map keys wires) (run_trace image map keys) n
  pub words : (a : ℕ) → a < keyboard → word_at wires n a ≡ run_word image keys n a

-- Every behaviour of the Computer is seen as the instruction machine is, at each of its cycles.
abbrev pub SeenLaw : Type 0
SeenLaw =
    (image : List ℕ) (map : Map) (keys : ℕ → ℕ) (m : ℕ) (wires : List ℕ → Histories) → IsComputer image keys m wires →
    (n : ℕ) → n < m → SeenAlike image map keys wires n

-- Let the run of the instruction machine follow a meaning at cycle n, with at most `most` cycles a step. Then so does every behaviour of the Computer
-- that is longer than n + most.
abbrev pub GatesLaw : Type 0 → Type 0
GatesLaw S =
    (meaning : System S) (start : S) (image : List ℕ) (map : Map) (keys : ℕ → ℕ) (most n : ℕ) →
    Follows meaning start (run_trace image map keys) (run_word image keys) most n →
    (m : ℕ) (wires : List ℕ → Histories) → n + most < m → IsComputer image keys m wires →
    Follows meaning start (trace_shown image map keys wires) (word_at wires) most n
