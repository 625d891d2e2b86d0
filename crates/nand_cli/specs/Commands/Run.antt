-- The command `run`: what it reports of the program of a folder, and why a folder or a key script is refused. (The
-- book, chapters 9 to 12.)
use Rattle.std.specs.Prelude.{◌≡◌, ◌<◌, ◌≤◌, ◌++◌, ℕ, zero, suc, List, [], Option, Some, None, codes, decimal, get_or, option_and_then}
use Rattle.outer_world.specs.Files.{Files, LacksFile}
use Rattle.source_files.specs.Sources.{IsFaulty, SpellsAt}
use Rattle.key_script.specs.Codes.{code_at}
use Rattle.key_script.specs.Grammar.{Spells}
use Rattle.key_script.specs.declared.lines.Line.{Line}
use Rattle.simulation.specs.Headline.{Follows}
use Rattle.simulation.specs.System.{System}
use Rattle.simulation.specs.Trace.{Trace, point_at, steps}
use Rattle.jack_meaning.specs.Gap.{IsGap}
use Rattle.jack_meaning.specs.Text.{Subroutine}
use Rattle.jack_meaning.specs.Meaning.{State, Stray, Done, start, step}
use Rattle.jack_meaning.specs.Level.{meaning_of, point_in}
use Rattle.jack_core.specs.Texts.{the_program, the_subroutines, names_of}
use Rattle.jack_core.specs.declared.program.Core.{Core}
use Rattle.machine_io.specs.Report.{level_name, report_text, said_line}
use Rattle.machine_io.specs.declared.driving.End.{End}
use Rattle.machine_io.specs.declared.driving.End.TheVariants as ends
use Rattle.machine_io.specs.declared.machine.Stray.TheVariants as strays
use Rattle.machine_io.specs.declared.report.LevelName.{LevelName}
use Rattle.machine_io.specs.declared.report.LevelName.TheVariants as names
use Rattle.machine_io.specs.declared.report.Show.{Show}
use Rattle.outer_world.specs.declared.point.Point.{Point}
use Rattle.image_map.specs.Map.{the_map}
use Rattle.image_map.specs.declared.map.Image.{Image}
use Rattle.tower.specs.Image.{IsImageOf}
use Rattle.image_map.specs.Computer.{run_trace, run_word}
use Rattle.command_line.specs.Line.{Source}
use Rattle.command_line.specs.declared.request.RunLevel.{RunLevel}
use Rattle.command_line.specs.declared.request.RunLevel.TheVariants as levels
use Rattle.command_line.specs.declared.request.Shown.TheVariants.{Words}
use Rattle.nand_cli.specs.Commands.Gates.{IsGatesReport, meaning_in}
use Rattle.nand_cli.specs.Commands.RunVm.{IsVmReport}
use Rattle.nand_cli.specs.JackFolder.{BuildIsRefused, FolderIsRefused, FolderMeans, IsBuilt}
use Rattle.key_script.specs.Language.{RefusesKeys}

-- ---- the keys

-- The lines of the key script; without a script there are no lines.
abbrev pub HasKeys : Option Files → Option (List ℕ) → List Line → Type 0
HasKeys files None lines = lines ≡ []
HasKeys files (Some path) lines = SpellsAt Spells files path lines

-- There is a key script which spells no lines, and this line says why.
abbrev pub ScriptIsRefused : Option Files → Option (List ℕ) → List ℕ → Type 0
ScriptIsRefused files None line = ⊥
ScriptIsRefused files (Some path) line = IsFaulty RefusesKeys files path line

-- There is to be a key script, and its file is not there.
abbrev pub LacksKeys : Option Files → Option (List ℕ) → Type 0
LacksKeys files None = ⊥
LacksKeys files (Some path) = LacksFile files path

-- ---- the report

-- the name of a subroutine by its number
abbrev pub name_of : List (List ℕ) → ℕ → List ℕ
name_of names sub = get_or names sub []

-- The state after m moves, each under the key of the number of moves before it; none where one of them is missing.
abbrev pub state_after : {S : Type 0} → System S → (ℕ → ℕ) → S → ℕ → Option S
state_after system code first zero = Some first
state_after system code first (suc m) = option_and_then (system.step (code m)) (state_after system code first m)

-- How n moves end after m of them, in the state s: all are made, or there is no step under the next key.
abbrev pub EndsAt : List Subroutine → (ℕ → ℕ) → ℕ → ℕ → State → End → Type 0
EndsAt subs code n m s ends.Bound = m ≡ n
EndsAt subs code n m s ends.Done = (m < n) × (step subs (code m) s ≡ Done)
EndsAt subs code n m s (ends.Stray (strays.Address a)) = (m < n) × (step subs (code m) s ≡ Stray a)
EndsAt subs code n m s _ = ⊥

-- The report of n moves at the level of the meaning, where each move is a step.
abbrev pub IsJackReport : Core → (ℕ → ℕ) → ℕ → Show → List ℕ → Type 0
IsJackReport core code n show text =
    let meaning : System State = meaning_of (the_subroutines core) in
    (m : ℕ) × (s : State) × (end : End)
    × (state_after meaning code (start (the_program core)) m ≡ Some s) × EndsAt (the_subroutines core) code n m s end
    × (text ≡ report_text names.Jack m m (name_of (names_of core) (point_in s).sub) (point_in s).number end show (meaning.word s))

-- what is counted of the run of the computer with this image and map under these keys
abbrev pub trace_in : Image → (ℕ → ℕ) → Trace
trace_in image code = run_trace image.words (the_map image.map) code

-- The report of n cycles of the computer with the image of the program and its map. The steps and the point are those
-- that the map counts in its run, and the words are its own. Whatever the program does, that is what is reported
-- (`reports`). And this is the headline. Where the meaning's run is tame so far, the words and the point at cycle n are
-- the meaning's after these steps over the keys heard. Where it has one more tame step, the computer makes it within
-- the gap of the program (`follows`).
pub record IsHackReport (core : Core) (code : ℕ → ℕ) (n : ℕ) (show : Show) (text : List ℕ) : Type 0 where
  pub image : Image
  pub is_image : IsImageOf core image
  pub point : Point
  pub seen : point_at (trace_in image code) n ≡ Some point
  pub reports : text ≡ report_text names.Hack n (steps (trace_in image code) n) (name_of (names_of core) point.sub) point.number ends.Bound show (run_word image.words code n)
  pub most : ℕ
  pub gap : IsGap (the_program core) most
  pub follows : Follows (meaning_in core) (start (the_program core)) (trace_in image code) (run_word image.words code) most n

-- The report of n moves of a program at a level, with what is shown there. It is the same whether the netlist of the
-- computer made of gates is simplified or not.
abbrev pub IsReport : RunLevel → Core → (ℕ → ℕ) → ℕ → List ℕ → Type 0
IsReport (levels.Jack show) core code n text = IsJackReport core code n show text
IsReport (levels.Vm show) core code n text = IsVmReport core code n show text
IsReport (levels.Hack show) core code n text = IsHackReport core code n show text
IsReport (levels.Gates shown) core code n text = IsGatesReport core code n shown text
IsReport (levels.Simplified show) core code n text = IsGatesReport core code n (Words show) text

-- The text reports this many moves at most.
abbrev pub TellsAtMost : ℕ → List ℕ → Type 0
TellsAtMost n text =
    (level : LevelName) × (moves : ℕ) × (rest : List ℕ) × (moves ≤ n)
    × (text ≡ said_line (codes "level") (level_name level) ++ (said_line (codes "moves") (decimal moves) ++ rest))

-- ---- the line

-- The folder means a program that has an image, and this is its report at the level, under the keys of the script.
abbrev pub RunPrints : Option Files → Source → RunLevel → ℕ → Option (List ℕ) → List ℕ → Type 0
RunPrints files source level cycles keys out =
    (core : Core) × (lines : List Line) × FolderMeans files source core × IsBuilt core × HasKeys files keys lines
    × IsReport level core (code_at lines) cycles out

-- What a run prints, at whatever level, reports as many moves at most as are asked for.
abbrev pub RunIsShort : Type 0
RunIsShort =
    (files : Option Files) (source : Source) (level : RunLevel) (cycles : ℕ) (keys : Option (List ℕ)) (out : List ℕ)
    → RunPrints files source level cycles keys out → TellsAtMost cycles out

-- The run is refused, at whatever level, and this line says why. The folder means no program, or its program has no
-- image, or, where it has one, the key script is refused.
pub data RunRefuses (files : Option Files) (source : Source) (keys : Option (List ℕ)) (line : List ℕ) : Type 0 where
  without_program : FolderIsRefused files source line → RunRefuses files source keys line
  unbuilt : (core : Core) → FolderMeans files source core → BuildIsRefused core source.folder line → RunRefuses files source keys line
  without_script : (core : Core) → FolderMeans files source core → IsBuilt core → ScriptIsRefused files keys line → RunRefuses files source keys line

-- The folder means a program that has an image, and the file of the key script is not there.
abbrev pub LacksScript : Files → Source → Option (List ℕ) → Type 0
LacksScript files source keys =
    (core : Core) × FolderMeans (Some files) source core × IsBuilt core × LacksKeys (Some files) keys
