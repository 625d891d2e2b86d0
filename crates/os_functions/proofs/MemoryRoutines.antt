-- What stands at the numbers to which the names of the routines lead, by computation from the shipped texts: Memory and Array.
use Rattle.std.proofs.Common.{◌≡◌, codes, refl}
use Rattle.jack_core.specs.declared.program.Core.{Core}
use Rattle.jack_core.specs.Texts.{the_subroutines}
use Rattle.jack_meaning.specs.Text.{Function, Method}
use Rattle.jack_meaning.specs.Meaning.{subroutine_at}
use Rattle.os_laws.specs.Kernel.{alloc_meaning, deAlloc_meaning}
use Rattle.os_laws.specs.Names.{IsShipped}
use Rattle.os_functions.specs.Calls.{routine_number}
use Rattle.os_functions.proofs.Named.{leads, system_error, own_number, number_of, first_static}
use Rattle.os_functions.proofs.Texts.{routine, peek_body, poke_body, new_array_body, dispose_array_body}

module _ (core : Core) (p : IsShipped core) where
  pub is_peek : subroutine_at (the_subroutines core) (routine_number p (codes "Memory") (codes "peek")) ≡ routine Function (own_number core p 3) 1 0 peek_body
  is_peek = leads core p 3 0 (refl, refl)

  pub is_poke : subroutine_at (the_subroutines core) (routine_number p (codes "Memory") (codes "poke")) ≡ routine Function (own_number core p 3) 2 0 poke_body
  is_poke = leads core p 3 1 (refl, refl)

  pub is_alloc : subroutine_at (the_subroutines core) (routine_number p (codes "Memory") (codes "alloc")) ≡ alloc_meaning (own_number core p 3) (system_error p) (first_static core p 3)
  is_alloc = leads core p 3 3 (refl, refl)

  pub is_deAlloc : subroutine_at (the_subroutines core) (routine_number p (codes "Memory") (codes "deAlloc")) ≡ deAlloc_meaning (own_number core p 3) (first_static core p 3)
  is_deAlloc = leads core p 3 4 (refl, refl)

  pub is_new_array : subroutine_at (the_subroutines core) (routine_number p (codes "Array") (codes "new"))
      ≡ routine Function (own_number core p 0) 1 0 (new_array_body (system_error p) (number_of core p (codes "Memory") (codes "alloc")))
  is_new_array = leads core p 0 0 (refl, refl)

  pub is_dispose_array : subroutine_at (the_subroutines core) (routine_number p (codes "Array") (codes "dispose"))
      ≡ routine Method (own_number core p 0) 1 0 (dispose_array_body (number_of core p (codes "Memory") (codes "deAlloc")))
  is_dispose_array = leads core p 0 1 (refl, refl)
