-- The class of a generated text is well named beside the operating system's (book, chapters 9 to 12).
use Rattle.std.specs.Prelude.{ℕ, List, [], ◌∷◌, codes}
use Rattle.jack_tree.specs.Syntax.{Class, ClassFile}
use Rattle.jack_parser.specs.Spelled.{SpellsClass}
use Rattle.jack_names.specs.NameFaults.{IsWellNamed}
use Rattle.jack_os.specs.System.{AreFilesOf, system}
use Rattle.soak_program.specs.Generator.{IsProgramText}

-- the folder with this class in the file Main.jack alone
abbrev pub folder_of : Class → List ClassFile
folder_of c = record { file = codes "Main.jack"; class = c } ∷ []

abbrev pub NamedLaw : Type 0
NamedLaw = (s t : ℕ) (text : List ℕ) (c : Class) (os : List ClassFile) → IsProgramText s text t → SpellsClass text c → AreFilesOf system os → IsWellNamed (folder_of c) os
