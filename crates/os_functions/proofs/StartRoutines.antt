-- What stands at the numbers to which the names of the start's routines lead, by computation from the shipped texts.
use Rattle.std.proofs.Common.{◌≡◌, ℕ, ◌+◌, List, codes, refl}
use Rattle.jack_core.specs.declared.program.Core.{Core}
use Rattle.jack_core.specs.Texts.{the_subroutines}
use Rattle.jack_meaning.specs.Text.{Function}
use Rattle.jack_meaning.specs.Meaning.{subroutine_at}
use Rattle.os_laws.specs.Kernel.{init_meaning}
use Rattle.os_laws.specs.Names.{IsShipped}
use Rattle.os_functions.specs.Calls.{routine_number}
use Rattle.os_functions.proofs.Named.{leads, own_number, number_of, first_static}
use Rattle.os_functions.proofs.Texts.{routine}
use Rattle.os_functions.proofs.StartTexts.{four_body, output_body, nothing_body, start_body}

module _ (core : Core) (p : IsShipped core) where
  pub is_memory : subroutine_at (the_subroutines core) (routine_number p (codes "Memory") (codes "init")) ≡ init_meaning (own_number core p 3) (first_static core p 3)
  is_memory = leads core p 3 2 (refl, refl)

  pub is_math : subroutine_at (the_subroutines core) (routine_number p (codes "Math") (codes "init")) ≡ routine Function (own_number core p 2) 0 0 nothing_body
  is_math = leads core p 2 0 (refl, refl)

  pub is_keyboard : subroutine_at (the_subroutines core) (routine_number p (codes "Keyboard") (codes "init")) ≡ routine Function (own_number core p 1) 0 0 nothing_body
  is_keyboard = leads core p 1 0 (refl, refl)

  pub is_four : subroutine_at (the_subroutines core) (routine_number p (codes "Output") (codes "four")) ≡ routine Function (own_number core p 4) 12 0 (four_body (first_static core p 4))
  is_four = leads core p 4 1 (refl, refl)

  pub is_output : subroutine_at (the_subroutines core) (routine_number p (codes "Output") (codes "init"))
      ≡ routine Function (own_number core p 4) 0 0
      (output_body (number_of core p (codes "Memory") (codes "alloc")) (number_of core p (codes "Output") (codes "four")) (first_static core p 4) (first_static core p 4 + 1) (first_static core p 4 + 1 + 1))
  is_output = leads core p 4 0 (refl, refl)

  abbrev init_of : List ℕ → ℕ
  init_of class = number_of core p class (codes "init")

  pub is_start : subroutine_at (the_subroutines core) (routine_number p (codes "Sys") (codes "init"))
      ≡ routine Function (own_number core p 7) 0 0
      (start_body (init_of (codes "Memory")) (init_of (codes "Math")) (init_of (codes "Screen")) (init_of (codes "Output")) (init_of (codes "Keyboard")) (number_of core p (codes "Main") (codes "main")) (number_of core p (codes "Sys") (codes "halt")))
  is_start = leads core p 7 0 (refl, refl)
