-- The command `debug`. It says where the computer made of gates comes to a statement of the Jack source, and what its
-- words say of the call there. It says that this is what the program means, or why the line is refused. (The book,
-- chapters 1 to 5 and 7 to 12.)
use Rattle.std.specs.Prelude.{◌≡◌, ◌<◌, ◌≤◌, ◌++◌, ℕ, zero, suc, true, List, ◌∷◌, Option, Some, codes, decimal, slice_get}
use Rattle.outer_world.specs.Files.{Files}
use Rattle.outer_world.specs.Refusals.{Message, message, message_line}
use Rattle.outer_world.specs.declared.point.Point.{Point}
use Rattle.key_script.specs.Codes.{code_at}
use Rattle.key_script.specs.declared.lines.Line.{Line}
use Rattle.machine_io.specs.Report.{said_line}
use Rattle.simulation.specs.System.{Listening, Tame, run_of}
use Rattle.simulation.specs.Trace.{Trace, heard_keys, steps}
use Rattle.image_map.specs.declared.map.Image.{Image}
use Rattle.hdl_tree.specs.Behaviour.{Histories}
use Rattle.hack_cpu.specs.Computer.{pc_at, word_at}
use Rattle.gate_computer.specs.Computer.{IsComputer}
use Rattle.jack_meaning.specs.Meaning.{Frame, State, start}
use Rattle.jack_core.specs.Texts.{the_program}
use Rattle.jack_core.specs.declared.program.Core.{Core}
use Rattle.jack_debug.specs.Text.{view_text}
use Rattle.jack_debug.specs.Walk.{Walk, name_of, point_in, sub_at}
use Rattle.jack_debug.specs.declared.places.PlacedRange.{PlacedRange}
use Rattle.jack_debug.specs.declared.places.Places.{Places}
use Rattle.jack_debug.specs.declared.places.SubPlaces.{SubPlaces}
use Rattle.jack_debug.specs.declared.seen.View.{View}
use Rattle.vm_debug.specs.Meanings.{view_of}
use Rattle.command_line.specs.Line.{Source}
use Rattle.nand_cli.specs.Commands.Build.{BuildRefuses}
use Rattle.nand_cli.specs.Commands.Gates.{InEach, gates_trace, meaning_in}
use Rattle.nand_cli.specs.Commands.Map.{FolderHasPlaces}
use Rattle.nand_cli.specs.Commands.Run.{HasKeys, LacksKeys, ScriptIsRefused}

-- ---- the statement

-- It is the point of the statement of this number in the subroutine of this name.
abbrev pub IsStatement : Places → List ℕ → ℕ → Point → Type 0
IsStatement places sub number p = (name_of (sub_at places p.sub) p.sub ≡ sub) × (p.number ≡ number)

-- The map has such a point.
abbrev pub HasStatement : Places → List ℕ → ℕ → Type 0
HasStatement places sub number = (i : ℕ) × (r : PlacedRange) × (slice_get places.ranges i ≡ Some r) × IsStatement places sub number r.point

-- ---- where the computer stops

-- A step of the program's meaning has just ended: it is the first cycle, or the one before was a commit.
abbrev pub IsBetweenSteps : Trace → ℕ → Type 0
IsBetweenSteps t zero = Unit {0}
IsBetweenSteps t (suc c) = t.commits c ≡ true

module _ (places : Places) (sub : List ℕ) (number : ℕ) (image : Image) (code : ℕ → ℕ) (wires : List ℕ → Histories) where
  -- In cycle n of this behaviour the next instruction has the point of the statement, and a step has just ended.
  pub record IsAt (n : ℕ) : Type 0 where
    pub point : Point
    pub here : point_in places.ranges (pc_at wires n) ≡ Some point
    pub is_statement : IsStatement places sub number point
    pub between : IsBetweenSteps (gates_trace image code wires) n

  -- It is so in cycle n for the first time.
  pub record StopsAt (n : ℕ) : Type 0 where
    pub is_at : IsAt n
    pub not_before : (c : ℕ) → c < n → IsAt c → ⊥

-- ---- what is reported

-- The view is that of the state to which the program's meaning has come, by the steps counted up to cycle n of this
-- behaviour and over the keys heard. Its point is that of the state. Let a call of a subroutine be under way. Then the
-- places know the subroutine, and `this`, arguments, locals and statics, and the points of its callers, are those of
-- the state.
pub record IsMeant (core : Core) (places : Places) (view : View) (t : Trace) (n : ℕ) : Type 0 where
  pub after : Listening State
  pub run : run_of (meaning_in core) (start (the_program core)) (heard_keys t n) (steps t n) ≡ Some after
  pub point : (meaning_in core).point after.state ≡ Some view.point
  pub is_view : (f g : Frame) (below : List Frame) → after.state.frames ≡ f ∷ g ∷ below
      → (s : SubPlaces) × (sub_at places f.subroutine ≡ Some s) × (view ≡ view_of places (λ k. k) (the_program core) s after.state f (g ∷ below))

-- This behaviour stops in cycle n, after this many steps. The view is what its words say there, whatever the program
-- did. Where the run of the meaning is tame so far, it is the view of the meaning.
pub record ShowsStop (core : Core) (places : Places) (sub : List ℕ) (number : ℕ) (image : Image) (code : ℕ → ℕ) (n made : ℕ) (view : View) (wires : List ℕ → Histories) : Type 0 where
  pub stops : StopsAt places sub number image code wires n
  pub counted : steps (gates_trace image code wires) n ≡ made
  pub walks : Walk places (word_at wires n) (pc_at wires n) view
  pub means : Tame (meaning_in core) (start (the_program core)) (heard_keys (gates_trace image code wires) n) (steps (gates_trace image code wires) n)
      → IsMeant core places view (gates_trace image code wires) n

-- This behaviour stops nowhere up to cycle n, before which there are this many steps.
pub record ShowsNone (places : Places) (sub : List ℕ) (number : ℕ) (image : Image) (code : ℕ → ℕ) (n made : ℕ) (wires : List ℕ → Histories) : Type 0 where
  pub never : (c : ℕ) → c ≤ n → IsAt places sub number image code wires c → ⊥
  pub counted : steps (gates_trace image code wires) n ≡ made

-- the lines of the moves and of the steps
abbrev pub made_text : ℕ → ℕ → List ℕ
made_text moves made = said_line (codes "moves") (decimal moves) ++ said_line (codes "steps") (decimal made)

abbrev pub stop_text : List ℕ → ℕ → ℕ → ℕ → List ℕ
stop_text sub number moves made = said_line (codes "break") (sub ++ 32 ∷ decimal number) ++ made_text moves made

abbrev pub none_text : ℕ → ℕ → List ℕ
none_text moves made = said_line (codes "break") (codes "none") ++ made_text moves made

-- The text says where the computer stops among this many cycles, and what it shows there; or that it does not
-- stop.
pub data TellsStop (core : Core) (places : Places) (sub : List ℕ) (number : ℕ) (image : Image) (code : ℕ → ℕ) (cycles : ℕ) (text : List ℕ) : Type 0 where
  stopped : (n made : ℕ) (view : View) → n ≤ cycles → InEach image.words code n (ShowsStop core places sub number image code n made view)
      → text ≡ stop_text sub number n made ++ view_text view → TellsStop core places sub number image code cycles text
  unstopped : (made : ℕ) → InEach image.words code cycles (ShowsNone places sub number image code cycles made)
      → text ≡ none_text cycles made → TellsStop core places sub number image code cycles text

-- So it is in each behaviour of the Computer that has the image and these keys and goes on past that cycle. There are
-- behaviours over any number of cycles.
pub record IsDebugReport (core : Core) (places : Places) (sub : List ℕ) (number : ℕ) (image : Image) (code : ℕ → ℕ) (cycles : ℕ) (text : List ℕ) : Type 0 where
  pub behaves : (m : ℕ) → (wires : List ℕ → Histories) × IsComputer image.words code m wires
  pub tells : TellsStop core places sub number image code cycles text

-- ---- the line

-- The folder means a program that has an image and such a statement, and this is what is reported of it, under the keys
-- of the script.
abbrev pub DebugPrints : Option Files → Source → List ℕ → ℕ → ℕ → Option (List ℕ) → List ℕ → Type 0
DebugPrints files source sub number cycles keys out =
    (places : Places) × (here : FolderHasPlaces files source places) × HasStatement places sub number × (lines : List Line) × HasKeys files keys lines
    × IsDebugReport here.2.core places sub number here.2.image (code_at lines) cycles out

-- what is reported of a statement that no point of the map has
abbrev pub no_point : List ℕ → ℕ → Message
no_point sub number = message 0 0 (codes "NoPoint") (sub ++ 58 ∷ decimal number)

-- The line is refused, and this says why: the folder has no image, or no point of its map is the statement's, or the
-- key script is refused.
pub data DebugRefuses (files : Option Files) (source : Source) (sub : List ℕ) (number : ℕ) (keys : Option (List ℕ)) (line : List ℕ) : Type 0 where
  without_image : BuildRefuses files source line → DebugRefuses files source sub number keys line
  without_point : (places : Places) → FolderHasPlaces files source places → (HasStatement places sub number → ⊥) → line ≡ message_line source.folder (no_point sub number)
      → DebugRefuses files source sub number keys line
  without_script : (places : Places) → FolderHasPlaces files source places → HasStatement places sub number → ScriptIsRefused files keys line
      → DebugRefuses files source sub number keys line

-- The folder means a program that has an image and such a statement, and the file of the key script is not there.
abbrev pub DebugLacks : Files → Source → List ℕ → ℕ → Option (List ℕ) → Type 0
DebugLacks files source sub number keys =
    (places : Places) × FolderHasPlaces (Some files) source places × HasStatement places sub number × LacksKeys (Some files) keys

-- Each places of the folder have the statement: they are those of its program.
abbrev pub IsSoundStatement : Files → Source → List ℕ → ℕ → Type 0
IsSoundStatement files source sub number = (places : Places) → FolderHasPlaces (Some files) source places → HasStatement places sub number
