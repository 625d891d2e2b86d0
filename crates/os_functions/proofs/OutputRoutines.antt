-- What stands at the numbers to which the names of the routines lead, by computation from the shipped texts: Output.
use Rattle.std.proofs.Common.{◌≡◌, ℕ, ◌+◌, codes, refl}
use Rattle.jack_core.specs.declared.program.Core.{Core}
use Rattle.jack_core.specs.Texts.{the_subroutines}
use Rattle.jack_meaning.specs.Text.{Function}
use Rattle.jack_meaning.specs.Meaning.{subroutine_at}
use Rattle.os_laws.specs.Kernel.{multiply_meaning, divide_meaning}
use Rattle.os_laws.specs.Names.{IsShipped}
use Rattle.os_functions.specs.Calls.{routine_number}
use Rattle.os_functions.proofs.Named.{leads, system_error, own_number, number_of, first_static}
use Rattle.os_functions.proofs.Texts.{routine, cursor_body, draw_body, line_body, back_body, print_body}

module _ (core : Core) (p : IsShipped core) where
  pub is_multiply : subroutine_at (the_subroutines core) (routine_number p (codes "Math") (codes "multiply")) ≡ multiply_meaning (own_number core p 2)
  is_multiply = leads core p 2 5 (refl, refl)

  pub is_divide : subroutine_at (the_subroutines core) (routine_number p (codes "Math") (codes "divide")) ≡ divide_meaning (own_number core p 2) (system_error p)
  is_divide = leads core p 2 6 (refl, refl)

  pub is_cursor : subroutine_at (the_subroutines core) (routine_number p (codes "Output") (codes "moveCursor"))
      ≡ routine Function (own_number core p 4) 2 0 (cursor_body (system_error p) (number_of core p (codes "Math") (codes "multiply")) (number_of core p (codes "Math") (codes "divide")) (first_static core p 4 + 1) (first_static core p 4 + 1 + 1))
  is_cursor = leads core p 4 2 (refl, refl)

  abbrev place : ℕ
  place = first_static core p 4 + 1

  abbrev right : ℕ
  right = first_static core p 4 + 1 + 1

  pub is_draw : subroutine_at (the_subroutines core) (routine_number p (codes "Output") (codes "draw")) ≡ routine Function (own_number core p 4) 1 8 (draw_body (first_static core p 4) place right)
  is_draw = leads core p 4 9 (refl, refl)

  pub is_line : subroutine_at (the_subroutines core) (routine_number p (codes "Output") (codes "println")) ≡ routine Function (own_number core p 4) 0 0 (line_body place right)
  is_line = leads core p 4 7 (refl, refl)

  pub is_back : subroutine_at (the_subroutines core) (routine_number p (codes "Output") (codes "backSpace")) ≡ routine Function (own_number core p 4) 0 0 (back_body (number_of core p (codes "Output") (codes "draw")) place right)
  is_back = leads core p 4 8 (refl, refl)

  pub is_print : subroutine_at (the_subroutines core) (routine_number p (codes "Output") (codes "printChar"))
      ≡ routine Function (own_number core p 4) 1 0
      (print_body (number_of core p (codes "Output") (codes "println")) (number_of core p (codes "Output") (codes "backSpace")) (number_of core p (codes "Output") (codes "draw")) place right)
  is_print = leads core p 4 3 (refl, refl)
