-- The VM program of a Jack program with resolved names: a file for each class, with the functions of its subroutines (chapter 11).
use Rattle.std.specs.Prelude.{ℕ, ◌+◌, ◌==◌, drop, if◌then◌else◌, List, [], ◌∷◌, get_or, zero, suc}
use Rattle.vm_tree.specs.declared.program.Function.{Function}
use Rattle.vm_tree.specs.declared.program.File.{File}
use Rattle.jack_meaning.specs.Text.{Subroutine, Class, Program}
use Rattle.jack_core.specs.declared.program.Core.{Core}
use Rattle.jack_core.specs.Texts.{the_program, names_of, class_names_of}
use Rattle.jack_compiler.specs.Lines.{Around, subroutine_lines}

-- the name of a subroutine, as `Main.main`, by its number, which is that of one that is there
abbrev pub name_at : List (List ℕ) → ℕ → List ℕ
name_at names g = get_or names g []

-- the statics of the classes before this one
abbrev pub statics_before : List Class → ℕ → ℕ
statics_before [] k = 0
statics_before (c ∷ cs) zero = 0
statics_before (c ∷ cs) (suc k) = c.statics + statics_before cs k

abbrev pub around_class : List Class → List (List ℕ) → ℕ → Around
around_class classes names k = record { name = name_at names; before = statics_before classes k }

abbrev pub function_of : Around → ℕ → Subroutine → Function
function_of around g sub = record { name = around.name g; locals = sub.locals; lines = subroutine_lines around sub }

-- the functions of the class of number k among subroutines that are numbered from g
abbrev pub functions_of : Around → ℕ → ℕ → List Subroutine → List Function
functions_of around k g [] = []
functions_of around k g (sub ∷ subs) =
    if sub.class == k then function_of around g sub ∷ functions_of around k (g + 1) subs else functions_of around k (g + 1) subs

-- a file is named by its class, with functions or without
abbrev pub file_of : List ℕ → List Function → File
file_of name functions = record { name = name; opening = []; functions = functions }

-- What files are made of: a program, the names of its subroutines and those of its classes, each in the order of their numbers.
module _ (program : Program) (names class_names : List (List ℕ)) where
  -- the file of the class of number k
  abbrev pub class_file : ℕ → File
  class_file k = file_of (get_or class_names k []) (functions_of (around_class program.classes names k) k 1 (drop 1 program.subroutines))

  -- the files of this many classes from the one of number k
  abbrev pub files_from : ℕ → List Class → List File
  files_from k [] = []
  files_from k (c ∷ cs) = class_file k ∷ files_from (k + 1) cs

  -- The files in order of class. (Subroutine 0, `start`, has none: the virtual machine calls Sys.init by itself.)
  abbrev pub program_files : List File
  program_files = files_from 0 program.classes

abbrev pub files_of : Core → List File
files_of core = program_files (the_program core) (names_of core) (class_names_of core)
