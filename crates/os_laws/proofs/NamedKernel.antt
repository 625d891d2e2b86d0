-- What stands at the numbers to which the names of the kernel's routines lead.
use Rattle.std.proofs.Common.{◌≡◌, ℕ, ◌∷◌, ◌++◌, codes, ◌∙◌}
use Rattle.jack_core.specs.Texts.{the_subroutines}
use Rattle.jack_core.specs.declared.program.Core.{Core}
use Rattle.jack_meaning.specs.Meaning.{subroutine_at}
use Rattle.jack_names.specs.Numbers.{field_count}
use Rattle.jack_os.specs.Routines.{multiply, divide, init, alloc, deAlloc}
use Rattle.os_laws.specs.Kernel.{multiply_meaning, divide_meaning, init_meaning, alloc_meaning, deAlloc_meaning}
use Rattle.os_laws.specs.Names.{HasRoutine, statics_in, names_in, number_of, error_number, HasNoSys, IsFree}
use Rattle.os_laws.proofs.NamesLead.{law as named}
use Rattle.os_laws.proofs.Naming.{law as kernel}

pub is_multiply : (core : Core) (h : HasRoutine core (codes "Math") multiply) → subroutine_at (the_subroutines core) (number_of h) ≡ multiply_meaning (names_in h).own
is_multiply core h = named core (codes "Math") multiply h ∙ kernel.multiply (h.own ++ (h.front ++ h.c ∷ h.back)) (names_in h).own (statics_in (h.own ++ h.front)) (field_count h.c.class.variables) h.c.class

pub is_divide : (core : Core) (h : HasRoutine core (codes "Math") divide) → HasNoSys (names_in h) → subroutine_at (the_subroutines core) (number_of h) ≡ divide_meaning (names_in h).own (error_number (names_in h))
is_divide core h n = named core (codes "Math") divide h ∙ kernel.divide (h.own ++ (h.front ++ h.c ∷ h.back)) (names_in h).own (statics_in (h.own ++ h.front)) (field_count h.c.class.variables) h.c.class n

pub is_init : (core : Core) (h : HasRoutine core (codes "Memory") init) (free : ℕ) → IsFree (names_in h) free → subroutine_at (the_subroutines core) (number_of h) ≡ init_meaning (names_in h).own free
is_init core h free f = named core (codes "Memory") init h ∙ kernel.init (h.own ++ (h.front ++ h.c ∷ h.back)) (names_in h).own (statics_in (h.own ++ h.front)) (field_count h.c.class.variables) free h.c.class f

pub is_alloc : (core : Core) (h : HasRoutine core (codes "Memory") alloc) (free : ℕ) → HasNoSys (names_in h) → IsFree (names_in h) free
    → subroutine_at (the_subroutines core) (number_of h) ≡ alloc_meaning (names_in h).own (error_number (names_in h)) free
is_alloc core h free n f = named core (codes "Memory") alloc h ∙ kernel.alloc (h.own ++ (h.front ++ h.c ∷ h.back)) (names_in h).own (statics_in (h.own ++ h.front)) (field_count h.c.class.variables) free h.c.class n f

pub is_deAlloc : (core : Core) (h : HasRoutine core (codes "Memory") deAlloc) (free : ℕ) → IsFree (names_in h) free → subroutine_at (the_subroutines core) (number_of h) ≡ deAlloc_meaning (names_in h).own free
is_deAlloc core h free f = named core (codes "Memory") deAlloc h ∙ kernel.deAlloc (h.own ++ (h.front ++ h.c ∷ h.back)) (names_in h).own (statics_in (h.own ++ h.front)) (field_count h.c.class.variables) free h.c.class f
