-- Well named classes mean a program (book, chapters 9 to 12). Let some texts spell the classes of a folder, which are at most 256, and let these
-- be well named with those of the operating system beside them. Then there is a program that they mean.
use Rattle.std.specs.Prelude.{◌≡◌, ◌≤◌, ℕ, Bool, List, [], ◌∷◌, Ok, length, map}
use Rattle.jack_tree.specs.declared.tree.Class.{Class}
use Rattle.jack_tree.specs.Syntax.{ClassFile}
use Rattle.jack_tree.specs.Seen.{the_file}
use Rattle.jack_parser.specs.Spelled.{SpellsClass}
use Rattle.jack_core.specs.declared.program.Core.{Core}
use Rattle.jack_names.specs.NameFaults.{IsWellNamed}
use Rattle.jack_os.specs.System.{AreFilesOf}
use Rattle.tower.specs.Sources.{system_beside}
use Rattle.tower.specs.Program.{Means}

-- Some text spells each of the classes.
abbrev pub HaveTexts : List ClassFile → Type 0
HaveTexts [] = Unit {0}
HaveTexts (c ∷ cs) = ((text : List ℕ) × SpellsClass text c.class) × HaveTexts cs

-- Classes of this abstract syntax mean the program; they replace those of the operating system, or they do not.
abbrev pub FilesMean : Bool → List ClassFile → Core → Type 0
FilesMean replace own core = (classes : List Class) × (map the_file classes ≡ own) × Means replace classes (Ok core)

abbrev pub ProgramLaw : Type 0
ProgramLaw =
    (replace : Bool) (own os : List ClassFile) → length own ≤ 256 → HaveTexts own → AreFilesOf (system_beside replace own) os → IsWellNamed own os
    → (core : Core) × FilesMean replace own core
