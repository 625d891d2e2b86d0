-- Completeness. Let nothing be wrong with the Jack classes that a line reads and with its key script, and let no call
-- of the outside fail. Then the line is done, but for want of memory. So is every line that is not refused. (The book,
-- chapters 4 and 7 to 12.)
use Rattle.std.specs.Prelude.{◌≡◌, ◌≤◌, ◌⊎◌, ℕ, Bool, true, false, List, Option, Some, length}
use Rattle.hack_isa.specs.Machine.{image_words}
use Rattle.outer_world.specs.Faults.{Rose}
use Rattle.outer_world.specs.Files.{Files}
use Rattle.vm_tree.specs.declared.program.File.{File}
use Rattle.vm_link.specs.Faults.{words_before}
use Rattle.vm_link.specs.Reached.{AreKept}
use Rattle.vm_link.specs.Sections.{Section, sections}
use Rattle.jack_tree.specs.Syntax.{ClassFile}
use Rattle.jack_meaning.specs.Text.{Program}
use Rattle.jack_names.specs.Faults.{NameDiagnostic}
use Rattle.jack_names.specs.NameFaults.{Spot, Fails, IsWellNamed}
use Rattle.jack_names.specs.Meaning.{program_meaning}
use Rattle.jack_os.specs.System.{AreFilesOf}
use Rattle.key_script.specs.declared.lines.Line.{Line as KeyLine}
use Rattle.tower.specs.Budget.{IsBudget}
use Rattle.tower.specs.Sources.{system_beside}
use Rattle.command_line.specs.Line.{ClassWork, Line, IsLine, Source, debug, of_classes, script_of}
use Rattle.nand_cli.specs.Answer.{Disagrees, Refuses}
use Rattle.nand_cli.specs.Commands.Debug.{IsSoundStatement}
use Rattle.nand_cli.specs.Commands.Run.{HasKeys}
use Rattle.nand_cli.specs.JackFolder.{HasClasses, files_meant}
use Rattle.nand_cli.specs.Outside.{Outside}
use Rattle.nand_cli.specs.declared.command.Status.{Status}
use Rattle.nand_cli.specs.declared.command.Status.TheVariants as status

-- ---- a program that can be built

-- The static words of VM files: one more than the greatest index of a static that the kept functions of a file name,
-- together for all files.
abbrev pub HasStatics : List File → ℕ → Type 0
HasStatics files words = (kept : List Section) × AreKept false (sections false files) kept × (words ≡ words_before kept (length files))

-- There is a word for each of them: 16 to 255.
abbrev pub HasFewStatics : List File → Type 0
HasFewStatics files = (words : ℕ) × HasStatics files words × (words ≤ 240)

-- The budget of the program is within the room for an image.
abbrev pub HasSmallBudget : Program → Type 0
HasSmallBudget program = (words : ℕ) × IsBudget program words × (words ≤ image_words)

-- ---- a line with which nothing is wrong

-- no name fault is reported of the folder
abbrev pub HasNoNameFault : List ClassFile → List ClassFile → Type 0
HasNoNameFault own os = (at : Spot) (told : NameDiagnostic) → told.shipped ≡ false → Fails own os at told → ⊥

-- The names are right: of the folder, where the whole operating system stands beside it, whose names are right by its
-- law; and where the folder's classes replace, of both.
abbrev pub HasRightNames : Bool → List ClassFile → List ClassFile → Type 0
HasRightNames false own os = HasNoNameFault own os
HasRightNames true own os = IsWellNamed own os

-- The folder has at most 256 Jack files, each of which spells a class within the limits of the language. With those of
-- the operating system beside them, which there are by its law, the names are right. Their program has at most 240
-- static words, and its budget is at most 32,768.
pub record IsSoundFolder (files : Files) (source : Source) : Type 0 where
  pub own : List ClassFile
  pub spelled : HasClasses (Some files) source.folder own
  pub os : List ClassFile
  pub shipped : AreFilesOf (system_beside source.replace own) os
  pub named : HasRightNames source.replace own os
  pub statics : HasFewStatics (files_meant own os)
  pub budget : HasSmallBudget (program_meaning own os)

-- The key script, where there is one, spells its lines, with moments that rise.
abbrev pub IsSoundScript : Files → Option (List ℕ) → Type 0
IsSoundScript files keys = (lines : List KeyLine) × HasKeys (Some files) keys lines

-- The statement of a line of `debug` is one of the program.
abbrev pub IsSoundPoint : Files → Source → ClassWork → Type 0
IsSoundPoint files source (debug sub number cycles keys) = IsSoundStatement files source sub number
IsSoundPoint files source work = Unit {0}

-- Nothing is wrong with the folder, the key script and the statement of a line that reads Jack classes: of `compile`,
-- `build`, `map`, `run` or `debug`.
abbrev pub IsSound : Files → Line → Type 0
IsSound files (of_classes source work) = IsSoundFolder files source × IsSoundScript files (script_of work) × IsSoundPoint files source work
IsSound files line = ⊥

-- A line is neither refused over the files nor ends with a difference.
pub record IsUnrefused (files : Option Files) (line : Line) : Type 0 where
  pub accepted : (out before told : List ℕ) → Refuses files line out before told → ⊥
  pub agrees : (out before told : List ℕ) → Disagrees files line out before told → ⊥

-- The law of sound lines: over known files nothing refuses them.
abbrev pub SoundLaw : Type 0
SoundLaw = (files : Files) (line : Line) → IsSound files line → IsUnrefused (Some files) line

-- ---- the call

-- No count of faults rose: no call of the shelf, of out or of err failed.
pub record NoneFailed (before after : Outside) : Type 0 where
  pub shelf : Rose before.shelf_faults after.shelf_faults → ⊥
  pub out : Rose before.out_faults after.out_faults → ⊥
  pub err : Rose before.err_faults after.err_faults → ⊥

-- The line is done, or memory was wanting.
abbrev pub IsDoneOrWanting : Status → Type 0
IsDoneOrWanting s = (s ≡ status.Done) ⊎ (s ≡ status.NoMemory)

-- What `run` promises of a call with these words, where they are a line and nothing failed.
pub record Completes (words : List (List ℕ)) (before after : Outside) (s : Status) : Type 0 where
  -- A line over known files that reads Jack classes, and with which nothing is wrong, is done,
  pub sound : (files : Files) (line : Line) → before.files ≡ Some files → IsLine words line → IsSound files line → NoneFailed before after → IsDoneOrWanting s
  -- and so is every line that is not refused and does not end with a difference.
  pub unrefused : (line : Line) → IsLine words line → IsUnrefused before.files line → NoneFailed before after → IsDoneOrWanting s
