-- The program of a folder's Jack files and its image, or why the folder is refused (the book, chapters 9 to 12).
use Rattle.std.specs.Prelude.{◌≡◌, ◌++◌, ℕ, List, Bool, Option, Some, Ok, Err, codes, map, if◌then◌else◌}
use Rattle.outer_world.specs.Files.{Files, path_in}
use Rattle.outer_world.specs.Refusals.{Message, message, message_line}
use Rattle.source_files.specs.Sources.{FolderSpells, IsUnread}
use Rattle.vm_tree.specs.declared.program.File.{File}
use Rattle.jack_tree.specs.declared.tree.Class.{Class}
use Rattle.jack_tree.specs.Seen.{the_file}
use Rattle.jack_tree.specs.Syntax.{ClassFile}
use Rattle.jack_names.specs.Faults.{NameDiagnostic}
use Rattle.jack_names.specs.FaultOrder.{IsFirstByPlace}
use Rattle.jack_names.specs.Messages.{kind_word}
use Rattle.jack_names.specs.Meaning.{program_meaning, program_names}
use Rattle.jack_os.specs.System.{AreFilesOf}
use Rattle.jack_core.specs.declared.program.Core.{Core}
use Rattle.jack_compiler.specs.Files.{program_files}
use Rattle.image_map.specs.declared.map.Image.{Image}
use Rattle.tower.specs.Image.{Builds, IsImageOf}
use Rattle.tower.specs.Program.{Means, class_names}
use Rattle.tower.specs.Sources.{system_beside}
use Rattle.tower.specs.Messages.{build_message}
use Rattle.command_line.specs.Line.{Source}
use Rattle.tower.specs.declared.building.BuildError.{BuildError}
use Rattle.jack_parser.specs.Language.{RefusesClass, SpellsFile}

-- The Jack files of the folder spell these classes.
abbrev pub HasClasses : Option Files → List ℕ → List ClassFile → Type 0
HasClasses files folder own = FolderSpells SpellsFile (codes ".jack") files folder own

-- The folder means this program.
abbrev pub FolderMeans : Option Files → Source → Core → Type 0
FolderMeans files source core = (classes : List Class) × HasClasses files source.folder (map the_file classes) × Means source.replace classes (Ok core)

-- the VM files of the program that the folder's classes mean with those of the operating system: a file for each class,
-- the folder's first
abbrev pub files_meant : List ClassFile → List ClassFile → List File
files_meant own os = program_files (program_meaning own os) (program_names own os) (class_names own ++ class_names os)

-- The folder in which a file is reported: a file of the operating system stands in `os`.
abbrev pub home_of : List ℕ → Bool → List ℕ
home_of folder shipped = if shipped then codes "os" else folder

-- the line that reports a fault of a name: its file, its place, the word of its kind and the name
abbrev pub name_line : List ℕ → NameDiagnostic → List ℕ
name_line folder told =
    message_line (path_in (home_of folder told.shipped) told.file) (message told.place.line told.place.column (kind_word told.kind) told.name)

-- The classes mean no program, and this line says why: it reports the first fault of their names, by stage, file, place
-- and kind.
abbrev pub IsMeaningless : Source → List ClassFile → List ℕ → Type 0
IsMeaningless source own line =
    (os : List ClassFile) × (told : NameDiagnostic) × AreFilesOf (system_beside source.replace own) os × IsFirstByPlace own os told
    × (line ≡ name_line source.folder told)

-- The folder means no program, and this line says why: its files are not read, or their classes mean no
-- program.
pub data FolderIsRefused (files : Option Files) (source : Source) (line : List ℕ) : Type 0 where
  unread : IsUnread SpellsFile RefusesClass (codes ".jack") files source.folder line → FolderIsRefused files source line
  meaningless : (own : List ClassFile) → HasClasses files source.folder own → IsMeaningless source own line → FolderIsRefused files source line

-- The program has no image, and this line says why.
abbrev pub BuildIsRefused : Core → List ℕ → List ℕ → Type 0
BuildIsRefused core folder line =
    (error : BuildError) × (told : Message) × Builds core (Err error) × (build_message error ≡ Some told) × (line ≡ message_line folder told)

-- the program has an image
abbrev pub IsBuilt : Core → Type 0
IsBuilt core = (image : Image) × IsImageOf core image
