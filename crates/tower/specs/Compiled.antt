-- The VM files of a folder's classes. (The book, chapters 10 and 11.)
use Rattle.std.specs.Prelude.{◌≡◌, ◌≤◌, Bool, List, Ok, length, map, take}
use Rattle.vm_tree.specs.declared.program.File.{File}
use Rattle.jack_tree.specs.declared.tree.Class.{Class}
use Rattle.jack_tree.specs.Seen.{the_file}
use Rattle.jack_core.specs.declared.program.Core.{Core}
use Rattle.jack_compiler.specs.Files.{files_of}
use Rattle.tower.specs.Program.{Means, class_names}

-- These are the compiled files of the program that a folder's classes mean with those of the operating system beside them. There is a file for
-- each class, with every subroutine of it.
abbrev pub AreCompiled : Bool → List Class → List File → Type 0
AreCompiled replace own files = (core : Core) × Means replace own (Ok core) × (files ≡ files_of core)

-- the files of the folder's own classes, which come first
abbrev pub own_files : List Class → List File → List File
own_files own files = take (length own) files

-- They are named as the classes, in their order.
pub record AreNamed (own : List Class) (files : List File) : Type 0 where
  pub all : length own ≤ length files
  pub names : map (λ file. file.name) (own_files own files) ≡ class_names (map the_file own)
