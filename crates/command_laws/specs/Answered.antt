-- Over known files each line that is no test script has an answer: it is done, it is refused, or something that it
-- reads is not there. So no line is left to want of memory alone, whatever its files hold. (That it has one such answer
-- at most is said in Exact.)
use Rattle.std.specs.Prelude.{◌⊎◌, ℕ, Bool, List, Some}
use Rattle.outer_world.specs.Files.{Files}
use Rattle.jack_tree.specs.Syntax.{ClassFile}
use Rattle.jack_core.specs.declared.program.Core.{Core}
use Rattle.jack_names.specs.NameFaults.{IsWellNamed}
use Rattle.jack_os.specs.System.{AreFilesOf}
use Rattle.tower.specs.Sources.{system_beside}
use Rattle.command_line.specs.Line.{ClassWork, FileWork, IsNoTest, Line, Source, chip, of_classes, of_file, soak, vm}
use Rattle.nand_cli.specs.Answer.{Lacks, Prints, Refuses}
use Rattle.nand_cli.specs.JackFolder.{FolderIsRefused, FolderMeans, HasClasses}

-- Among these folders and files the line prints something, or it is refused with something, or something that it reads
-- is not there.
abbrev pub HasAnswer : (List ℕ → Bool) → Files → Line → Type 0
HasAnswer there files line =
    ((out err : List ℕ) × Prints (Some files) line out err)
    ⊎ ((out before told : List ℕ) × Refuses (Some files) line out before told)
    ⊎ Lacks there files line

-- by what a line reads
abbrev pub ClassesAnsweredLaw : Type 0
ClassesAnsweredLaw = (there : List ℕ → Bool) (files : Files) (source : Source) (work : ClassWork) → HasAnswer there files (of_classes source work)

abbrev pub FileAnsweredLaw : Type 0
FileAnsweredLaw = (there : List ℕ → Bool) (files : Files) (path : List ℕ) (work : FileWork) → HasAnswer there files (of_file path work)

abbrev pub VmAnsweredLaw : Type 0
VmAnsweredLaw = (there : List ℕ → Bool) (files : Files) (folder : List ℕ) (bare : Bool) → HasAnswer there files (vm folder bare)

abbrev pub ChipAnsweredLaw : Type 0
ChipAnsweredLaw = (there : List ℕ → Bool) (files : Files) (name : List ℕ) → HasAnswer there files (chip name)

abbrev pub SoakAnsweredLaw : Type 0
SoakAnsweredLaw = (there : List ℕ → Bool) (files : Files) (seed count : ℕ) → HasAnswer there files (soak seed count)

-- ---- folders of classes

-- The folder has classes that are well named with those of the operating system beside them.
abbrev pub IsWellFolder : Files → Source → Type 0
IsWellFolder files source =
    (own os : List ClassFile) × HasClasses (Some files) source.folder own × AreFilesOf (system_beside source.replace own) os × IsWellNamed own os

-- The law of folders: over known files each is such a one, or it is refused.
abbrev pub FolderAnsweredLaw : Type 0
FolderAnsweredLaw = (files : Files) (source : Source) → IsWellFolder files source ⊎ ((line : List ℕ) × FolderIsRefused (Some files) source line)

-- The law of meanings: such a folder means a program.
abbrev pub FolderMeansLaw : Type 0
FolderMeansLaw = (files : Files) (source : Source) → IsWellFolder files source → (core : Core) × FolderMeans (Some files) source core

-- ---- each line

-- The law of answers: each line that is no test script has one.
abbrev pub AnsweredLaw : Type 0
AnsweredLaw = (there : List ℕ → Bool) (files : Files) (line : Line) → IsNoTest line → HasAnswer there files line
