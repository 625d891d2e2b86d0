-- What stands at the numbers to which the names of the routines lead, by computation from the shipped texts: Math.
use Rattle.std.proofs.Common.{◌≡◌, codes, refl}
use Rattle.jack_core.specs.declared.program.Core.{Core}
use Rattle.jack_core.specs.Texts.{the_subroutines}
use Rattle.jack_meaning.specs.Text.{Function}
use Rattle.jack_meaning.specs.Meaning.{subroutine_at}
use Rattle.os_laws.specs.Names.{IsShipped}
use Rattle.os_functions.specs.Calls.{routine_number}
use Rattle.os_functions.proofs.Named.{leads, system_error, own_number}
use Rattle.os_functions.proofs.Texts.{routine, abs_body, min_body, max_body, root_body}

module _ (core : Core) (p : IsShipped core) where
  pub is_abs : subroutine_at (the_subroutines core) (routine_number p (codes "Math") (codes "abs")) ≡ routine Function (own_number core p 2) 1 0 abs_body
  is_abs = leads core p 2 1 (refl, refl)

  pub is_min : subroutine_at (the_subroutines core) (routine_number p (codes "Math") (codes "min")) ≡ routine Function (own_number core p 2) 2 0 min_body
  is_min = leads core p 2 2 (refl, refl)

  pub is_max : subroutine_at (the_subroutines core) (routine_number p (codes "Math") (codes "max")) ≡ routine Function (own_number core p 2) 2 0 max_body
  is_max = leads core p 2 3 (refl, refl)

  pub is_sqrt : subroutine_at (the_subroutines core) (routine_number p (codes "Math") (codes "sqrt")) ≡ routine Function (own_number core p 2) 1 2 (root_body (system_error p))
  is_sqrt = leads core p 2 4 (refl, refl)
