-- Folders of one class, and their programs with the operating system (book, chapters 9 to 12).
use Rattle.std.specs.Prelude.{◌≡◌, ◌++◌, ℕ, false, List, [], ◌∷◌, codes, length}
use Rattle.vm_tree.specs.declared.program.File.{File}
use Rattle.vm_link.specs.Faults.{words_before}
use Rattle.vm_link.specs.Reached.{AreKept}
use Rattle.vm_link.specs.Sections.{Section, sections}
use Rattle.jack_tree.specs.Syntax.{Class, ClassFile}
use Rattle.jack_meaning.specs.Text.{Program}
use Rattle.jack_parser.specs.Spelled.{SpellsClass}
use Rattle.jack_names.specs.Meaning.{program_meaning, program_names}
use Rattle.jack_names.specs.NameFaults.{IsWellNamed}
use Rattle.jack_os.specs.System.{AreFilesOf, system}
use Rattle.jack_compiler.specs.Files.{program_files}
use Rattle.tower.specs.Budget.{IsBudget}
use Rattle.tower.specs.Program.{class_names}

-- a folder whose one file is Main.jack
abbrev pub main_alone : Class → List ClassFile
main_alone c = record { file = codes "Main.jack"; class = c } ∷ []

-- the program that it means with the system
abbrev pub program_with : Class → List ClassFile → Program
program_with c os = program_meaning (main_alone c) os

-- and its VM files
abbrev pub files_with : Class → List ClassFile → List File
files_with c os = program_files (program_with c os) (program_names (main_alone c) os) (class_names (main_alone c) ++ class_names os)

-- The static words of VM files: one more than the greatest index of a static that the kept functions of a file name,
-- together for all files.
abbrev pub HasStatics : List File → ℕ → Type 0
HasStatics files words = (kept : List Section) × AreKept false (sections false files) kept × (words ≡ words_before kept (length files))

-- A text of Main.jack and the operating system. Each spells one class or list of classes, and they are well named
-- together. The budget of their program is this number of words, and no other, and it has this number of static words.
pub record HasWords (text : List ℕ) (words statics : ℕ) : Type 0 where
  pub class : Class
  pub spelled : SpellsClass text class
  pub one_class : (c : Class) → SpellsClass text c → c ≡ class
  pub os : List ClassFile
  pub shipped : AreFilesOf system os
  pub one_system : (cs : List ClassFile) → AreFilesOf system cs → cs ≡ os
  pub well_named : IsWellNamed (main_alone class) os
  pub budget : IsBudget (program_with class os) words
  pub one_budget : (w : ℕ) → IsBudget (program_with class os) w → w ≡ words
  pub static_words : HasStatics (files_with class os) statics
