-- The VM program of some subroutines: the others have their places and names there, and no commands.
use Rattle.std.specs.Prelude.{ℕ, ◌+◌, Bool, true, false, List, [], ◌∷◌, Option, Some, None}
use Rattle.vm_tree.specs.declared.program.File.{File}
use Rattle.vm_link.specs.Inner.Marks.{is_marked}
use Rattle.jack_meaning.specs.Text.{Function, End, Subroutine, Program}
use Rattle.jack_core.specs.declared.program.Core.{Core}
use Rattle.jack_core.specs.Texts.{the_program, names_of, class_names_of}
use Rattle.jack_compiler.specs.Files.{program_files}

-- whether a subroutine is wanted; without marks each is
abbrev pub is_wanted : Option (List Bool) → ℕ → Bool
is_wanted None g = true
is_wanted (Some marks) g = is_marked marks g

-- a subroutine, or one in its place that has no commands
abbrev pub whole_if : Bool → Subroutine → Subroutine
whole_if true sub = sub
whole_if false sub = record sub { kind = Function; body = End }

-- of subroutines that are numbered from g
abbrev pub whole_where : Option (List Bool) → ℕ → List Subroutine → List Subroutine
whole_where marks g [] = []
whole_where marks g (sub ∷ subs) = whole_if (is_wanted marks g) sub ∷ whole_where marks (g + 1) subs

abbrev pub hollow_program : List Bool → Program → Program
hollow_program marks program = record program { subroutines = whole_where (Some marks) 0 program.subroutines }

abbrev pub hollow_files : List Bool → Core → List File
hollow_files marks core = program_files (hollow_program marks (the_program core)) (names_of core) (class_names_of core)
