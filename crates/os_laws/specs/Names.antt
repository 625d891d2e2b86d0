-- The names of the kernel's routines, in a program that is well named (book, chapters 11 and 12).
use Rattle.std.specs.Prelude.{◌≡◌, ℕ, ◌+◌, List, [], ◌∷◌, ◌++◌, length, Some, None, codes}
use Rattle.jack_tree.specs.Syntax as tree
use Rattle.jack_names.specs.declared.scope.Declared.{Declared}
use Rattle.jack_names.specs.declared.scope.Slot.TheVariants as slot
use Rattle.jack_names.specs.Numbers.{Standing, standing, static_count}
use Rattle.jack_names.specs.Meaning.{made_word, program_meaning}
use Rattle.jack_names.specs.NameFaults.{IsWellNamed}
use Rattle.jack_core.specs.Texts.{the_program}
use Rattle.jack_core.specs.declared.program.Core.{Core}
use Rattle.jack_os.specs.Routines as routines
use Rattle.jack_os.specs.System.{system, AreFilesOf}

-- how many statics these classes have
abbrev pub statics_in : List tree.ClassFile → ℕ
statics_in [] = 0
statics_in (c ∷ cs) = static_count c.class.variables + statics_in cs

-- The program is that of these classes, which are well named. Of those of the operating system one has this name, and
-- this routine is in it.
pub record HasRoutine (core : Core) (class : List ℕ) (routine : tree.Subroutine) : Type 0 where
  pub own : List tree.ClassFile
  pub front : List tree.ClassFile
  pub c : tree.ClassFile
  pub back : List tree.ClassFile
  pub before : List tree.Subroutine
  pub after : List tree.Subroutine
  pub program : the_program core ≡ program_meaning own (front ++ c ∷ back)
  pub well : IsWellNamed own (front ++ c ∷ back)
  pub named : c.class.name.text ≡ class
  pub has : c.class.subroutines ≡ before ++ routine ∷ after

module _ {core : Core} {class : List ℕ} {routine : tree.Subroutine} (h : HasRoutine core class routine) where
  -- what names stand for in the routine
  abbrev pub names_in : Standing
  names_in = standing (h.own ++ (h.front ++ h.c ∷ h.back)) (length (h.own ++ h.front)) (statics_in (h.own ++ h.front)) h.c.class routine

  -- the number to which the names of the class and of the routine lead
  abbrev pub number_of : ℕ
  number_of = made_word names_in class routine.name.text

-- the number of Sys.error
abbrev pub error_number : Standing → ℕ
error_number names = made_word names (codes "Sys") (codes "error")

-- no variable has the name of the class Sys
abbrev pub HasNoSys : Standing → Type 0
HasNoSys names = names.variable (codes "Sys") ≡ None

-- the name `free` stands for the static of this number
abbrev pub IsFree : Standing → ℕ → Type 0
IsFree names k = (d : Declared) × (names.variable (codes "free") ≡ Some d) × (d.slot ≡ slot.Static k)

-- ---- the system as it is shipped

-- The program is that of these classes and of the operating system's, as its texts spell them, and well named.
pub record IsShipped (core : Core) : Type 0 where
  pub own : List tree.ClassFile
  pub os : List tree.ClassFile
  pub program : the_program core ≡ program_meaning own os
  pub well : IsWellNamed own os
  pub system : AreFilesOf system os

-- The program has the five routines, and the three of the heap have one static `free`.
pub record HasKernel (core : Core) : Type 0 where
  pub multiply : HasRoutine core (codes "Math") routines.multiply
  pub divide : HasRoutine core (codes "Math") routines.divide
  pub divide_errs : HasNoSys (names_in divide)
  pub free : ℕ
  pub init : HasRoutine core (codes "Memory") routines.init
  pub init_free : IsFree (names_in init) free
  pub alloc : HasRoutine core (codes "Memory") routines.alloc
  pub alloc_free : IsFree (names_in alloc) free
  pub alloc_errs : HasNoSys (names_in alloc)
  pub deAlloc : HasRoutine core (codes "Memory") routines.deAlloc
  pub deAlloc_free : IsFree (names_in deAlloc) free
