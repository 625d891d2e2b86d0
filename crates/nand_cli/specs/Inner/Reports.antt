-- What reporting a run says.
use Rattle.std.specs.Prelude.{◌≡◌, ◌++◌, ℕ, suc, List, [], Some, Result, Ok, Err, IsSome, length}
use Rattle.outer_world.specs.Faults.{Rose}
use Rattle.outer_world.specs.State.{SinkState}
use Rattle.outer_world.specs.Written.{Got, GotPart, Puts}
use Rattle.outer_world.specs.declared.point.Point.{Point}
use Rattle.outer_world.specs.declared.sink.Put.{Put}
use Rattle.source_files.specs.declared.error.LoadError.TheVariants.{Memory}
use Rattle.gate_computer.specs.Simple.{IsSimpleComputer}
use Rattle.gate_computer.specs.Followed.{GateMachine, HasFollowed as GatesFollowed, image_in as gates_image, word_in}
use Rattle.hack_machine.specs.Loaded.{machine_of}
use Rattle.jack_meaning.specs.Meaning.{State, start}
use Rattle.jack_meaning.specs.Level.{meaning_of, point_in}
use Rattle.jack_core.specs.Texts.{the_program, the_subroutines}
use Rattle.jack_core.specs.declared.program.Core.{Core}
use Rattle.jack_machine.specs.Whole.{jack_point, jack_word}
use Rattle.jack_machine.specs.declared.jack.Jack.{Jack}
use Rattle.machine_io.specs.History.{Turn}
use Rattle.machine_io.specs.Reading.{Reading}
use Rattle.machine_io.specs.Report.{head_text, report_text}
use Rattle.simulation.specs.System.{IsKey}
use Rattle.image_map.specs.Turns.{HoldsKeys}
use Rattle.hdl_tree.specs.Behaviour.{Histories}
use Rattle.gate_computer.specs.Computer.{IsComputer}
use Rattle.gate_computer.specs.Parts.{ShowsParts}
use Rattle.machine_io.specs.declared.driving.End.{End}
use Rattle.machine_io.specs.declared.driving.End.TheVariants as ends
use Rattle.machine_io.specs.declared.report.LevelName.{LevelName}
use Rattle.machine_io.specs.declared.report.LevelName.TheVariants as names
use Rattle.machine_io.specs.declared.report.Show.{Show}
use Rattle.tower.specs.Image.{IsImageOf}
use Rattle.tower.specs.Mapped.{HasFollowed, MappedMachine, StandsAt, image_in}
use Rattle.tower.specs.VmRun.{IsVmCodeOf}
use Rattle.vm_machine.specs.Loaded.{HasTaken, LoadedVm}
use Rattle.nand_cli.specs.Commands.Run.{EndsAt, name_of, state_after}
use Rattle.nand_cli.specs.declared.failure.Failure.{Failure}
use Rattle.nand_cli.specs.declared.failure.Failure.TheVariants as failure

-- The report is put, or a front part of it, or nothing where memory is wanting.
abbrev pub Reports : (List ℕ → Type 0) → SinkState → SinkState → Result (Unit {0}) Failure → Type 0
Reports is_report out out' (Ok _) = (text : List ℕ) × is_report text × Got out.written out'.written text
Reports is_report out out' (Err failure.Out) = (text : List ℕ) × is_report text × GotPart out.written out'.written text
Reports is_report out out' (Err (failure.Unloaded e)) = (out'.written ≡ out.written) × (e ≡ Memory)
Reports is_report out out' (Err (failure.Differs d)) = ⊥
Reports is_report out out' (Err failure.Echo) = ⊥

-- The count of faults of out rises with a fault of out alone.
abbrev pub CountsReport : SinkState → SinkState → Result (Unit {0}) Failure → Type 0
CountsReport out out' (Err failure.Out) = Rose out.faults out'.faults
CountsReport out out' _ = out'.faults ≡ out.faults

-- No memory was wanted.
abbrev pub IsPut : Result (Unit {0}) Failure → Type 0
IsPut (Ok _) = Unit {0}
IsPut (Err failure.Out) = Unit {0}
IsPut (Err (failure.Unloaded e)) = ⊥
IsPut (Err (failure.Differs d)) = ⊥
IsPut (Err failure.Echo) = ⊥

-- what the report of a machine begins with: its moves and steps, its control point by the names of subroutines, and how
-- its moves ended
abbrev pub machine_head : LevelName → List (List ℕ) → Reading Point → End → List ℕ
machine_head level subs seen end = head_text level seen.moves seen.steps (name_of subs seen.point.sub) seen.point.number end

-- the report of what is read of a machine
abbrev pub machine_text : LevelName → List (List ℕ) → Reading Point → End → Show → List ℕ
machine_text level subs seen end show =
    report_text level seen.moves seen.steps (name_of subs seen.point.sub) seen.point.number end show seen.word

-- ---- level jack

-- The machine shows a state of the meaning: the words of heap and screen, and the control point.
pub record Shows (jack : Jack) (s : State) : Type 0 where
  pub words : jack.memory.words.items ≡ s.words
  pub point : jack_point jack ≡ point_in s

-- The machine stands where n moves from the start of its program end.
abbrev pub HasRun : (ℕ → ℕ) → ℕ → Jack → End → Type 0
HasRun code n jack end =
    (s : State) × (state_after (meaning_of (the_subroutines jack.core.now)) code (start (the_program jack.core.now)) jack.moves ≡ Some s)
    × EndsAt (the_subroutines jack.core.now) code n jack.moves s end × Shows jack s

-- the report of what a machine shows
abbrev pub jack_text : Jack → List (List ℕ) → End → Show → List ℕ
jack_text jack subs end show =
    machine_text names.Jack subs (record { moves = jack.moves; steps = jack.moves; point = jack_point jack; word = jack_word jack }) end show

-- ---- level vm

-- The virtual machine with the code of the program is at its start.
pub record IsVmAtStart (core : Core) (vm : LoadedVm) : Type 0 where
  pub code : IsVmCodeOf core vm.linked
  pub moves : vm.moves ≡ 0
  pub stands : HasTaken vm []

-- ---- level hack

-- The computer has made n cycles under these keys, and ends at the bound.
abbrev pub HasCycled : (ℕ → ℕ) → ℕ → MappedMachine → End → Type 0
HasCycled code n h end = (end ≡ ends.Bound) × StandsAt h code n

-- The computer with the image of the program is at its start.
pub record IsHackAtStart (core : Core) (h : MappedMachine) : Type 0 where
  pub image : IsImageOf core (image_in h)
  pub moves : h.hack.moves ≡ 0
  pub stands : HasFollowed h []

-- the report of what a computer shows
abbrev pub hack_text : MappedMachine → List (List ℕ) → End → Show → List ℕ
hack_text h subs end show =
    machine_text names.Hack subs (record { moves = h.hack.moves; steps = h.tally.steps; point = h.tally.point; word = (machine_of h.hack).memory }) end show

-- ---- level gates

-- The computer made of gates with the image of the program is at its start.
pub record IsAtStart (core : Core) (g : GateMachine) : Type 0 where
  pub image : IsImageOf core (gates_image g)
  pub moves : g.moves ≡ 0
  pub stands : GatesFollowed g []

-- The same, and its netlist is not simplified: its parts can be shown.
pub record IsWholeAtStart (core : Core) (g : GateMachine) : Type 0 where
  pub start : IsAtStart core g
  pub parts : IsSome g.wiring.parts

-- The same, and its netlist is one that the simplifier may give for that of the Computer itself.
pub record IsSimpleAtStart (core : Core) (g : GateMachine) : Type 0 where
  pub start : IsAtStart core g
  pub simple : IsSimpleComputer g.sim.net g.wiring

-- what is read of it
abbrev pub gates_reading : GateMachine → Reading Point
gates_reading g = record { moves = g.moves; steps = g.tally.steps; point = g.tally.point; word = word_in g }

-- what its report begins with, and the report with words
abbrev pub gates_head : GateMachine → List (List ℕ) → End → List ℕ
gates_head g subs end = machine_head names.Gates subs (gates_reading g) end

abbrev pub gates_text : GateMachine → List (List ℕ) → End → Show → List ℕ
gates_text g subs end show = machine_text names.Gates subs (gates_reading g) end show

-- After these lines came those of all parts in cycle n of a behaviour of the Computer with this image and these keys,
-- and all of it was put.
pub record PutsParts (image : List ℕ) (keys : ℕ → ℕ) (n : ℕ) (head : List ℕ) (before now : SinkState) (answer : Put) : Type 0 where
  pub rest : List ℕ
  pub wires : List ℕ → Histories
  pub behaves : IsComputer image keys (suc n) wires
  pub shows : ShowsParts wires n rest
  pub puts : Puts before now (head ++ rest) answer

-- So it was put of the cycle that comes next, in which the keyboard holds this key, whatever the keys of the turns
-- before.
unfoldable pub PutsNets : GateMachine → ℕ → List ℕ → SinkState → SinkState → Put → Type 0
PutsNets g key head before now answer =
    (turns : List Turn) → GatesFollowed g turns → (keys : ℕ → ℕ) → ((c : ℕ) → IsKey (keys c)) → HoldsKeys keys 0 turns → keys (length turns) ≡ key
    → PutsParts g.image keys (length turns) head before now answer
