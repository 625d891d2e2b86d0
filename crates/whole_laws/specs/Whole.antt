-- The headline for the Computer whose RAM and Screen are made of gates: its ROM is a table, and its keyboard holds
-- keys. (The book, chapters 1 to 5 and 7 to 12.)
use Rattle.std.specs.Prelude.{◌≡◌, ℕ, ◌+◌, ◌<◌, false, List, []}
use Rattle.std.specs.List.{All}
use Rattle.simulation.specs.System.{System, IsKey}
use Rattle.simulation.specs.Headline.{Follows}
use Rattle.image_map.specs.Map.{Map, the_map}
use Rattle.image_map.specs.Computer.{run_trace, run_word}
use Rattle.image_map.specs.declared.map.Image.{Image}
use Rattle.hdl_tree.specs.declared.ends.Memories.{Memories}
use Rattle.hdl_tree.specs.Chips.{Chips}
use Rattle.hdl_tree.specs.Behaviour.{Histories, IsBehaviour}
use Rattle.chip_basic.specs.Hdl.{shipped_entry}
use Rattle.chip_basic.specs.Laws.{bit}
use Rattle.hack_cpu.specs.Computer.{outside, word_at}
use Rattle.hack_cpu.specs.Library.{shipped_chips}
use Rattle.hack_cpu.specs.Trees.{HasComputerChips, computer_tree}
use Rattle.gate_computer.specs.Computer.{trace_shown}
use Rattle.jack_meaning.specs.Gap.{IsGap}
use Rattle.jack_meaning.specs.Level.{meaning_of}
use Rattle.jack_meaning.specs.Meaning.{start}
use Rattle.jack_core.specs.Texts.{the_program}
use Rattle.jack_core.specs.declared.program.Core.{Core}
use Rattle.jack_compiler.specs.Resolved.{IsResolvedCore}
use Rattle.tower.specs.Image.{IsImageOf}

-- A behaviour of the Computer over n cycles, in a library that has its chips as they are shipped, with memories as
-- blocks or of gates. The image is in its ROM, 0 past it, the keyboard holds a key in each cycle, and reset is 0.
pub record IsWholeComputer (library : Chips) (image : List ℕ) (keys : ℕ → ℕ) (n : ℕ) (wires : List ℕ → Histories) : Type 0 where
  pub has : HasComputerChips library
  pub behaves : IsBehaviour (outside image keys) library (shipped_entry computer_tree) n wires
  pub no_reset : (c : ℕ) → c < n → bit (wires []) "reset" c ≡ false

-- Let the run of the instruction machine follow a meaning at cycle n, with at most `most` cycles a step. Then so does
-- every behaviour of the Computer that is longer than n + most.
abbrev pub WholeFollowsLaw : Type 0 → Type 0
WholeFollowsLaw S =
    (meaning : System S) (start : S) (image : List ℕ) (map : Map) (keys : ℕ → ℕ) (most n : ℕ) →
    Follows meaning start (run_trace image map keys) (run_word image keys) most n →
    (library : Chips) (m : ℕ) (wires : List ℕ → Histories) → n + most < m → IsWholeComputer library image keys m wires →
    Follows meaning start (trace_shown image map keys wires) (word_at wires) most n

-- With the image of a program whose names are resolved, and at each cycle, every behaviour that goes on for the gap of
-- the program follows its meaning.
abbrev pub WholeHeadlineLaw : Type 0
WholeHeadlineLaw =
    (core : Core) (image : Image) → IsResolvedCore core → IsImageOf core image → (keys : ℕ → ℕ) → ((c : ℕ) → IsKey (keys c)) → (n : ℕ) →
    (most : ℕ) × IsGap (the_program core) most × ((library : Chips) (m : ℕ) (wires : List ℕ → Histories) → n + most < m → IsWholeComputer library image.words keys m wires →
    Follows (meaning_of (the_program core).subroutines) (start (the_program core)) (trace_shown image.words (the_map image.map) keys wires) (word_at wires) most n)

-- With memories as blocks, and with memories of gates, the Computer of shipped chips has such a behaviour for each image of words and all keys.
abbrev pub WholeRunsLaw : Type 0
WholeRunsLaw = (memories : Memories) (image : List ℕ) (keys : ℕ → ℕ) (n : ℕ) → All (λ w. w < 65536) image → ((c : ℕ) → keys c < 65536)
    → (wires : List ℕ → Histories) × IsWholeComputer (record { entries = shipped_chips; memories = memories }) image keys n wires
