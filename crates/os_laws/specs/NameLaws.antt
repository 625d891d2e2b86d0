-- What the names lead to, what the kernel's routines mean, and the heap over a run of a program that has them.
use Rattle.std.specs.Prelude.{◌≡◌, ℕ, List, map}
use Rattle.jack_meaning.specs.Meaning.{State, subroutine_at}
use Rattle.jack_tree.specs.Syntax as tree
use Rattle.jack_tree.specs.declared.tree.Class.{Class}
use Rattle.jack_tree.specs.Seen.{the_file}
use Rattle.jack_names.specs.Numbers.{standing, field_count}
use Rattle.jack_names.specs.Meaning.{subroutine_meaning, program_meaning}
use Rattle.jack_names.specs.NameFaults.{IsWellNamed}
use Rattle.jack_core.specs.Texts.{the_program, the_subroutines}
use Rattle.jack_core.specs.declared.program.Core.{Core}
use Rattle.jack_os.specs.System.{system, AreClassesOf}
use Rattle.jack_os.specs.Routines.{multiply, divide, init, alloc, deAlloc}
use Rattle.os_laws.specs.Heap.{Block}
use Rattle.os_laws.specs.HeapCalls.{Holds}
use Rattle.os_laws.specs.HeapRun.{HeapNumbers, Uses}
use Rattle.os_laws.specs.Kernel.{multiply_meaning, divide_meaning, init_meaning, alloc_meaning, deAlloc_meaning}
use Rattle.os_laws.specs.Names.{HasRoutine, names_in, number_of, error_number, HasNoSys, IsFree, IsShipped, HasKernel}

-- The names of a class and of a routine in it lead to what the routine means.
abbrev pub NamedLaw : Type 0
NamedLaw =
    (core : Core) (class : List ℕ) (routine : tree.Subroutine) (h : HasRoutine core class routine)
    → subroutine_at (the_subroutines core) (number_of h) ≡ subroutine_meaning (names_in h) (field_count h.c.class.variables) routine

-- The kernel's routines mean the texts that the laws speak of: in a class of this number, after this many statics, with
-- this many fields.
pub record KernelLaw : Type 0 where
  pub multiply : (all : List tree.ClassFile) (own statics fields : ℕ) (c : tree.Class)
      → subroutine_meaning (standing all own statics c multiply) fields multiply
      ≡ multiply_meaning own
  pub divide : (all : List tree.ClassFile) (own statics fields : ℕ) (c : tree.Class)
      → HasNoSys (standing all own statics c divide)
      → subroutine_meaning (standing all own statics c divide) fields divide ≡ divide_meaning own (error_number (standing all own statics c divide))
  pub init : (all : List tree.ClassFile) (own statics fields free : ℕ) (c : tree.Class)
      → IsFree (standing all own statics c init) free
      → subroutine_meaning (standing all own statics c init) fields init ≡ init_meaning own free
  pub alloc : (all : List tree.ClassFile) (own statics fields free : ℕ) (c : tree.Class)
      → HasNoSys (standing all own statics c alloc) → IsFree (standing all own statics c alloc) free
      → subroutine_meaning (standing all own statics c alloc) fields alloc ≡ alloc_meaning own (error_number (standing all own statics c alloc)) free
  pub deAlloc : (all : List tree.ClassFile) (own statics fields free : ℕ) (c : tree.Class)
      → IsFree (standing all own statics c deAlloc) free
      → subroutine_meaning (standing all own statics c deAlloc) fields deAlloc ≡ deAlloc_meaning own free

-- the numbers to which the names of the heap's routines lead
abbrev pub numbers_of : {core : Core} → HasKernel core → HeapNumbers
numbers_of k = record { init = number_of k.init; alloc = number_of k.alloc; deAlloc = number_of k.deAlloc; free = k.free }

-- Wherever a run that uses the heap well has come, it has a heap, with the blocks that are in use then.
abbrev pub HeapRunLaw : Type 0
HeapRunLaw = (core : Core) (k : HasKernel core) (s : State) (live : List Block) → Uses (the_subroutines core) (numbers_of k) s live → Holds s k.free live

pub record ShippedLaw : Type 0 where
  -- What the resolver answers for a folder's classes and those that the code reads from the system's texts is a program
  -- with the system as it is shipped.
  pub resolved : (core : Core) (own os : List Class)
      → the_program core ≡ program_meaning (map the_file own) (map the_file os)
      → IsWellNamed (map the_file own) (map the_file os) → AreClassesOf system os → IsShipped core
  -- Such a program has the kernel.
  pub kernel : (core : Core) → IsShipped core → HasKernel core
