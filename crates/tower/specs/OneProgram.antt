-- Classes mean at most one program (book, chapters 9 to 12).
use Rattle.std.specs.Prelude.{◌≡◌, Bool, List, Ok, map}
use Rattle.jack_tree.specs.declared.tree.Class.{Class}
use Rattle.jack_tree.specs.Seen.{the_file}
use Rattle.jack_core.specs.Texts.{the_program, names_of, class_names_of}
use Rattle.jack_core.specs.declared.program.Core.{Core}
use Rattle.tower.specs.Program.{Means}

-- one program, with the same names
pub record SameProgram (core core' : Core) : Type 0 where
  pub program : the_program core ≡ the_program core'
  pub names : names_of core ≡ names_of core'
  pub classes : class_names_of core ≡ class_names_of core'

-- Classes with the same abstract syntax mean one program.
abbrev pub OneProgramLaw : Type 0
OneProgramLaw =
    (replace : Bool) (own own' : List Class) (core core' : Core) → map the_file own ≡ map the_file own' → Means replace own (Ok core)
    → Means replace own' (Ok core') → SameProgram core core'
