-- What stands at the numbers to which the names of the routines lead, by computation from the shipped texts: Screen.
use Rattle.std.proofs.Common.{◌≡◌, codes, refl}
use Rattle.jack_core.specs.declared.program.Core.{Core}
use Rattle.jack_core.specs.Texts.{the_subroutines}
use Rattle.jack_meaning.specs.Text.{Function}
use Rattle.jack_meaning.specs.Meaning.{subroutine_at}
use Rattle.os_laws.specs.Names.{IsShipped}
use Rattle.os_functions.specs.Calls.{routine_number}
use Rattle.os_functions.proofs.Named.{leads, system_error, own_number, number_of, first_static}
use Rattle.os_functions.proofs.Texts.{routine, init_body, colour_body, pixel_body, paint_body, place_body, bit_body}

module _ (core : Core) (p : IsShipped core) where
  pub is_pixel : subroutine_at (the_subroutines core) (routine_number p (codes "Screen") (codes "drawPixel"))
      ≡ routine Function (own_number core p 5) 2 0 (pixel_body (system_error p) (number_of core p (codes "Screen") (codes "paint")) (number_of core p (codes "Screen") (codes "place")) (number_of core p (codes "Screen") (codes "bit")))
  is_pixel = leads core p 5 3 (refl, refl)

  pub is_paint : subroutine_at (the_subroutines core) (routine_number p (codes "Screen") (codes "paint")) ≡ routine Function (own_number core p 5) 2 0 (paint_body (first_static core p 5))
  is_paint = leads core p 5 8 (refl, refl)

  pub is_place : subroutine_at (the_subroutines core) (routine_number p (codes "Screen") (codes "place")) ≡ routine Function (own_number core p 5) 2 1 place_body
  is_place = leads core p 5 9 (refl, refl)

  pub is_bit : subroutine_at (the_subroutines core) (routine_number p (codes "Screen") (codes "bit")) ≡ routine Function (own_number core p 5) 1 1 bit_body
  is_bit = leads core p 5 10 (refl, refl)

  pub is_init : subroutine_at (the_subroutines core) (routine_number p (codes "Screen") (codes "init")) ≡ routine Function (own_number core p 5) 0 0 (init_body (first_static core p 5))
  is_init = leads core p 5 0 (refl, refl)

  pub is_set_colour : subroutine_at (the_subroutines core) (routine_number p (codes "Screen") (codes "setColor")) ≡ routine Function (own_number core p 5) 1 0 (colour_body (first_static core p 5))
  is_set_colour = leads core p 5 2 (refl, refl)
