-- A program with its places, and how the computer made of gates comes to a statement of it.
use Rattle.std.specs.Prelude.{◌≡◌, ◌<◌, ◌≤◌, ◌++◌, ◌∷◌, ◌&&◌, ◌==◌, if◌then◌else◌, ℕ, zero, suc, Bool, true, false, List, [], Option, Some, None, map}
use Rattle.std.specs.Str.{bytes_eq}
use Rattle.outer_world.specs.Files.{Files}
use Rattle.outer_world.specs.Refusals.{message_line}
use Rattle.outer_world.specs.declared.point.Point.{Point}
use Rattle.key_script.specs.Codes.{code_at}
use Rattle.machine_io.specs.History.{moves_from}
use Rattle.simulation.specs.System.{IsKey}
use Rattle.simulation.specs.Trace.{Trace}
use Rattle.image_map.specs.Map.{IsMapped}
use Rattle.image_map.specs.declared.map.Image.{Image}
use Rattle.hdl_tree.specs.Behaviour.{Histories}
use Rattle.hack_cpu.specs.Computer.{pc_at}
use Rattle.gate_computer.specs.Followed.{GateMachine, HasFollowed, image_in, word_in}
use Rattle.jack_tree.specs.declared.tree.Class.{Class}
use Rattle.jack_tree.specs.Seen.{the_file}
use Rattle.jack_compiler.specs.Resolved.{IsResolvedCore}
use Rattle.jack_debug.specs.Text.{view_text}
use Rattle.jack_debug.specs.Walk.{Walk, name_of, point_in, sub_at}
use Rattle.jack_debug.specs.declared.places.PlacedRange.{PlacedRange}
use Rattle.jack_debug.specs.declared.places.Places.{Places}
use Rattle.jack_debug.specs.declared.seen.View.{View}
use Rattle.command_line.specs.Line.{Source}
use Rattle.nand_cli.specs.Commands.Gates.{InEach, gates_trace}
use Rattle.nand_cli.specs.Commands.Debug.{HasStatement, no_point, none_text, stop_text}
use Rattle.nand_cli.specs.Commands.Map.{FolderHasPlaces, HavePlaces}
use Rattle.nand_cli.specs.Commands.Run.{HasKeys}
use Rattle.nand_cli.specs.JackFolder.{HasClasses}
use Rattle.nand_cli.specs.declared.commands.debug.PreparedDebug.{PreparedDebug}
use Rattle.nand_cli.specs.declared.placed.PlacedProgram.{PlacedProgram}

-- ---- the program

-- The classes mean a program with those of the operating system, and these are its image and its places.
pub record IsPlaced (replace : Bool) (own : List Class) (p : PlacedProgram) : Type 0 where
  pub have : HavePlaces replace own p.places
  pub image : p.image ≡ have.image
  pub resolved : IsResolvedCore have.core
  pub mapped : IsMapped p.image

-- the folder has such classes
abbrev pub FolderIsPlaced : Option Files → Source → PlacedProgram → Type 0
FolderIsPlaced files source p = (own : List Class) × HasClasses files source.folder (map the_file own) × IsPlaced source.replace own p

-- ---- the statement

-- whether a point is that of the statement
abbrev pub is_statement : Places → List ℕ → ℕ → Point → Bool
is_statement places sub number p = p.number == number && bytes_eq (name_of (sub_at places p.sub) p.sub) sub

abbrev pub is_statement_at : Places → List ℕ → ℕ → Option Point → Bool
is_statement_at places sub number None = false
is_statement_at places sub number (Some p) = is_statement places sub number p

-- whether one of these ranges has it
abbrev pub is_among : Places → List ℕ → ℕ → List PlacedRange → Bool
is_among places sub number [] = false
is_among places sub number (r ∷ rs) = if is_statement places sub number r.point then true else is_among places sub number rs

-- No point of the map is the statement's, and this line reports it.
abbrev pub LacksPoint : Places → List ℕ → List ℕ → ℕ → List ℕ → Type 0
LacksPoint places folder sub number line = (HasStatement places sub number → ⊥) × (line ≡ message_line folder (no_point sub number))

-- whether a step has just ended
abbrev pub is_between : Trace → ℕ → Bool
is_between t zero = true
is_between t (suc c) = t.commits c

-- whether a behaviour is at the statement in cycle n
abbrev pub is_at : Places → List ℕ → ℕ → Image → (ℕ → ℕ) → (List ℕ → Histories) → ℕ → Bool
is_at places sub number image code wires n =
    is_between (gates_trace image code wires) n && is_statement_at places sub number (point_in places.ranges (pc_at wires n))

-- each behaviour answers so, in each of these cycles
abbrev pub AnswersAt : Places → List ℕ → ℕ → Image → (ℕ → ℕ) → ℕ → Bool → Type 0
AnswersAt places sub number image code n answer = InEach image.words code n (λ wires. is_at places sub number image code wires n ≡ answer)

-- ---- the drive

-- The computer has made n cycles under these keys, and its image is this one.
pub record HasGone (image : Image) (code : ℕ → ℕ) (n : ℕ) (g : GateMachine) : Type 0 where
  pub same : image_in g ≡ image
  pub moves : g.moves ≡ n
  pub followed : HasFollowed g (moves_from code 0 n)

-- It has gone on to the first cycle in which it is at the statement, or, where there is no such cycle, through all of
-- this many cycles.
pub record HasComeTo (places : Places) (sub : List ℕ) (number : ℕ) (image : Image) (code : ℕ → ℕ) (cycles : ℕ) (found : Bool) (g : GateMachine) : Type 0 where
  pub n : ℕ
  pub few : n ≤ cycles
  pub gone : HasGone image code n g
  pub not_before : (c : ℕ) → c < n → AnswersAt places sub number image code c false
  pub last : AnswersAt places sub number image code n found
  pub here : found ≡ true → is_statement_at places sub number (point_in places.ranges g.tally.at) ≡ true
  pub all : found ≡ false → n ≡ cycles

-- ---- what is put

-- what is reported of it there
abbrev pub TellsMachine : Places → List ℕ → ℕ → Bool → GateMachine → List ℕ → Type 0
TellsMachine places sub number true g text =
    (view : View) × Walk places (word_in g) g.tally.at view × (text ≡ stop_text sub number g.moves g.tally.steps ++ view_text view)
TellsMachine places sub number false g text = text ≡ none_text g.moves g.tally.steps

-- ---- the line

-- All is there that the line needs: the places of the folder's program, which have the statement, the keys of the
-- script, and the computer at its start.
pub record IsPreparedDebug (files : Option Files) (source : Source) (sub : List ℕ) (number : ℕ) (keys : Option (List ℕ)) (p : PreparedDebug) : Type 0 where
  pub here : FolderHasPlaces files source p.places
  pub resolved : IsResolvedCore here.2.core
  pub has : HasStatement p.places sub number
  pub has_keys : HasKeys files keys p.keys
  pub words : (c : ℕ) → IsKey (code_at p.keys c)
  pub image : image_in p.computer ≡ here.2.image
  pub moves : p.computer.moves ≡ 0
  pub stands : HasFollowed p.computer []

-- what a prepared line needs to be shown
pub record CanShow (p : PreparedDebug) : Type 0 where
  pub words : (c : ℕ) → IsKey (code_at p.keys c)
  pub moves : p.computer.moves ≡ 0
  pub stands : HasFollowed p.computer []

-- what is reported of it, after the drive
pub record TellsDriven (p : PreparedDebug) (sub : List ℕ) (number cycles : ℕ) (text : List ℕ) : Type 0 where
  pub found : Bool
  pub g : GateMachine
  pub come : HasComeTo p.places sub number (image_in p.computer) (code_at p.keys) cycles found g
  pub tells : TellsMachine p.places sub number found g text
