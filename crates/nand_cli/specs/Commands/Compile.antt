-- The command `compile`: the VM text of a folder's classes, or why the folder is refused. (The book, chapters 10 and
-- 11.)
use Rattle.std.specs.Prelude.{◌≡◌, ℕ, List, Option, length, take}
use Rattle.outer_world.specs.Files.{Files}
use Rattle.vm_tree.specs.Printed.{files_text}
use Rattle.jack_tree.specs.Syntax.{ClassFile}
use Rattle.jack_names.specs.NameFaults.{IsWellNamed}
use Rattle.jack_os.specs.System.{AreFilesOf}
use Rattle.tower.specs.Sources.{system_beside}
use Rattle.command_line.specs.Line.{Source}
use Rattle.nand_cli.specs.JackFolder.{FolderIsRefused, HasClasses, files_meant}

-- The folder means a program with the operating system. This is the text of the VM files of the folder's own classes,
-- in order of file name, each after a line with its name. Every subroutine of them is there, called or not.
abbrev pub CompilePrints : Option Files → Source → List ℕ → Type 0
CompilePrints files source out =
    (own os : List ClassFile) × HasClasses files source.folder own × AreFilesOf (system_beside source.replace own) os × IsWellNamed own os
    × (out ≡ files_text (take (length own) (files_meant own os)))

-- The folder means no program, and this line says why. (What is not linked may have too many statics or be too large.)
abbrev pub CompileRefuses : Option Files → Source → List ℕ → Type 0
CompileRefuses files source line = FolderIsRefused files source line
