-- Four things that the code counts in 31 or 32 bits: statics, choices, loops and sections (book, chapters 7 to 11). A
-- folder has at most 256 sources and a text at most 1,048,576 bytes, so each is below 2^31 or 2^32.
use Rattle.std.specs.Prelude.{◌≤◌, ◌<◌, ◌+◌, ◌^◌, ℕ, Bool, false, List, [], ◌∷◌, Option, Ok, codes, length, map}
use Rattle.outer_world.specs.Files.{Files}
use Rattle.source_files.specs.Sources.{FolderSpells}
use Rattle.jack_tree.specs.declared.tree.Class.{Class}
use Rattle.jack_tree.specs.Seen.{the_file}
use Rattle.jack_meaning.specs.Meaning.{subroutine_at}
use Rattle.jack_core.specs.declared.program.Core.{Core}
use Rattle.jack_core.specs.Texts.{the_program}
use Rattle.jack_names.specs.Symbols.{statics_of}
use Rattle.jack_os.specs.System.{AreClassesOf}
use Rattle.jack_compiler.specs.Files.{files_of, statics_before}
use Rattle.jack_compiler.specs.Lines.{ifs_in, whiles_in}
use Rattle.vm_tree.specs.declared.program.File.{File}
use Rattle.vm_parser.specs.Language.{SpellsVmFile}
use Rattle.vm_link.specs.Sections.{sections}
use Rattle.tower.specs.Sources.{system_beside}
use Rattle.tower.specs.Spelled.{AreSpelled}
use Rattle.tower.specs.Program.{Means}

-- how many statics some classes have
abbrev pub all_statics : List Class → ℕ
all_statics [] = 0
all_statics (c ∷ cs) = statics_of c.variables.items + all_statics cs

-- `resolve` numbers the statics of a folder's classes, each of which some text spells, and of the operating system's
-- beside them.
abbrev pub StaticsLaw : Type 0
StaticsLaw =
    (replace : Bool) (own os : List Class) → length own ≤ 256 → AreSpelled own → AreClassesOf (system_beside replace (map the_file own)) os
    → all_statics own + all_statics os < 2 ^ 31

pub record AreFew (core : Core) : Type 0 where
  -- `compile` adds up the statics of the classes before each class.
  pub statics : (k : ℕ) → statics_before (the_program core).classes k < 2 ^ 31
  -- It numbers the choices and the loops of each subroutine.
  pub ifs : (g : ℕ) → 0 < g → g < length (the_program core).subroutines → ifs_in (subroutine_at (the_program core).subroutines g).body < 2 ^ 32
  pub whiles : (g : ℕ) → 0 < g → g < length (the_program core).subroutines
      → whiles_in (subroutine_at (the_program core).subroutines g).body < 2 ^ 32
  -- `link` numbers the sections of what is compiled.
  pub sections : length (sections false (files_of core)) < 2 ^ 32

-- the same of a program that a folder's classes mean
abbrev pub ProgramLaw : Type 0
ProgramLaw = (replace : Bool) (own : List Class) (core : Core) → length own ≤ 256 → AreSpelled own → Means replace own (Ok core) → AreFew core

-- `link` numbers the sections of a folder's VM files.
abbrev pub VmLaw : Type 0
VmLaw =
    (bare : Bool) (files : Option Files) (folder : List ℕ) (program : List File) → FolderSpells (SpellsVmFile bare) (codes ".vm") files folder program
    → length (sections bare program) < 2 ^ 32
