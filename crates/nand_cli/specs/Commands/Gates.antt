-- The report of `run` at level gates: what each behaviour of the computer made of gates shows. (The book, chapters 1 to
-- 5 and 9 to 12.)
use Rattle.std.specs.Prelude.{◌≡◌, ◌<◌, ◌+◌, ◌++◌, ℕ, suc, List, [], Some, get_or}
use Rattle.outer_world.specs.declared.point.Point.{Point}
use Rattle.machine_io.specs.Report.{head_text, shown_text}
use Rattle.machine_io.specs.declared.driving.End.TheVariants.{Bound}
use Rattle.machine_io.specs.declared.report.LevelName.TheVariants as names
use Rattle.simulation.specs.Headline.{Agrees, Follows}
use Rattle.simulation.specs.System.{System, Tame}
use Rattle.simulation.specs.Trace.{Trace, heard_keys, point_at, steps}
use Rattle.jack_meaning.specs.Gap.{IsGap}
use Rattle.jack_meaning.specs.Meaning.{State, start}
use Rattle.jack_meaning.specs.Level.{meaning_of}
use Rattle.jack_core.specs.Texts.{the_program, names_of}
use Rattle.jack_core.specs.declared.program.Core.{Core}
use Rattle.hdl_tree.specs.Behaviour.{Histories}
use Rattle.hack_cpu.specs.Computer.{word_at}
use Rattle.gate_computer.specs.Computer.{IsComputer, trace_shown}
use Rattle.gate_computer.specs.Parts.{ShowsParts}
use Rattle.image_map.specs.Map.{the_map}
use Rattle.image_map.specs.declared.map.Image.{Image}
use Rattle.tower.specs.Image.{IsImageOf}
use Rattle.command_line.specs.declared.request.Shown.{Shown}
use Rattle.command_line.specs.declared.request.Shown.TheVariants.{Nets, Words}

-- This holds of each behaviour of the Computer that goes on past cycle n. It has this image in its ROM, and these keys
-- at its keyboard, one in each cycle.
abbrev pub InEach : List ℕ → (ℕ → ℕ) → ℕ → ((List ℕ → Histories) → Type 0) → Type 0
InEach image code n P = (m : ℕ) (wires : List ℕ → Histories) → n < m → IsComputer image code m wires → P wires

-- what the map of the image counts of a behaviour
abbrev pub gates_trace : Image → (ℕ → ℕ) → (List ℕ → Histories) → Trace
gates_trace image code wires = trace_shown image.words (the_map image.map) code wires

-- What comes after the five lines. It is what is shown of the words of main memory and screen in cycle n of the
-- behaviour. Or it is a line for each part of the Computer, with its outputs in cycle n of some behaviour with this
-- image and these keys.
abbrev pub ComesAfter : Shown → List ℕ → (ℕ → ℕ) → ℕ → (List ℕ → Histories) → List ℕ → Type 0
ComesAfter (Words show) image code n wires rest = rest ≡ shown_text show (word_at wires n)
ComesAfter Nets image code n wires rest = (other : List ℕ → Histories) × IsComputer image code (suc n) other × ShowsParts other n rest

-- The text is the report of cycle n of this behaviour: steps and control point are those that the map counts of it.
pub record ReportsCycle (core : Core) (image : Image) (code : ℕ → ℕ) (n : ℕ) (shown : Shown) (text : List ℕ) (wires : List ℕ → Histories) : Type 0 where
  pub point : Point
  pub seen : point_at (gates_trace image code wires) n ≡ Some point
  pub rest : List ℕ
  pub after : ComesAfter shown image.words code n wires rest
  pub is_text : text ≡ head_text names.Gates n (steps (gates_trace image code wires) n) (get_or (names_of core) point.sub []) point.number Bound ++ rest

abbrev pub meaning_in : Core → System State
meaning_in core = meaning_of (the_program core).subroutines

-- The report of n cycles of the computer made of gates, with the image of the program. There are behaviours of it, over
-- any number of cycles (`behaves`). Whatever the program does, this is the report of cycle n of each of them that goes
-- on past cycle n (`reports`). And this is the headline. In each of these behaviours let the meaning's run be tame
-- after the steps counted, over the keys heard. Then the words of heap and screen and the control point at cycle n are
-- those of the meaning (`agrees`). Each that goes on for the gap of the program also makes the meaning's next tame step
-- within it (`follows`).
pub record IsGatesReport (core : Core) (code : ℕ → ℕ) (n : ℕ) (shown : Shown) (text : List ℕ) : Type 0 where
  pub image : Image
  pub is_image : IsImageOf core image
  pub behaves : (m : ℕ) → (wires : List ℕ → Histories) × IsComputer image.words code m wires
  pub reports : InEach image.words code n (ReportsCycle core image code n shown text)
  pub agrees : InEach image.words code n (λ wires.
      Tame (meaning_in core) (start (the_program core)) (heard_keys (gates_trace image code wires) n) (steps (gates_trace image code wires) n)
      → Agrees (meaning_in core) (start (the_program core)) (gates_trace image code wires) (word_at wires) n)
  pub most : ℕ
  pub gap : IsGap (the_program core) most
  pub follows : InEach image.words code (n + most) (λ wires.
      Follows (meaning_in core) (start (the_program core)) (gates_trace image code wires) (word_at wires) most n)
