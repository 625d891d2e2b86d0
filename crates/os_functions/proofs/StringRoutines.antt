-- What stands at the numbers to which the names of the routines lead, by computation from the shipped texts: String.
use Rattle.std.proofs.Common.{◌≡◌, codes, refl}
use Rattle.jack_core.specs.declared.program.Core.{Core}
use Rattle.jack_core.specs.Texts.{the_subroutines}
use Rattle.jack_meaning.specs.Text.{Function, Method}
use Rattle.jack_meaning.specs.Meaning.{subroutine_at}
use Rattle.os_laws.specs.Names.{IsShipped}
use Rattle.os_functions.specs.Calls.{routine_number}
use Rattle.os_functions.proofs.Named.{leads, system_error, own_number}
use Rattle.os_functions.proofs.Texts.{routine, length_body, char_at_body, set_char_body, append_body, erase_body, code_body}

module _ (core : Core) (p : IsShipped core) where
  pub is_length : subroutine_at (the_subroutines core) (routine_number p (codes "String") (codes "length")) ≡ routine Method (own_number core p 6) 1 0 length_body
  is_length = leads core p 6 2 (refl, refl)

  pub is_char_at : subroutine_at (the_subroutines core) (routine_number p (codes "String") (codes "charAt")) ≡ routine Method (own_number core p 6) 2 0 (char_at_body (system_error p))
  is_char_at = leads core p 6 3 (refl, refl)

  pub is_set_char : subroutine_at (the_subroutines core) (routine_number p (codes "String") (codes "setCharAt")) ≡ routine Method (own_number core p 6) 3 0 (set_char_body (system_error p))
  is_set_char = leads core p 6 4 (refl, refl)

  pub is_append : subroutine_at (the_subroutines core) (routine_number p (codes "String") (codes "appendChar")) ≡ routine Method (own_number core p 6) 2 0 (append_body (system_error p))
  is_append = leads core p 6 5 (refl, refl)

  pub is_erase : subroutine_at (the_subroutines core) (routine_number p (codes "String") (codes "eraseLastChar")) ≡ routine Method (own_number core p 6) 1 0 (erase_body (system_error p))
  is_erase = leads core p 6 6 (refl, refl)

  pub is_back_space : subroutine_at (the_subroutines core) (routine_number p (codes "String") (codes "backSpace")) ≡ routine Function (own_number core p 6) 0 0 (code_body 129)
  is_back_space = leads core p 6 12 (refl, refl)

  pub is_double_quote : subroutine_at (the_subroutines core) (routine_number p (codes "String") (codes "doubleQuote")) ≡ routine Function (own_number core p 6) 0 0 (code_body 34)
  is_double_quote = leads core p 6 13 (refl, refl)

  pub is_new_line : subroutine_at (the_subroutines core) (routine_number p (codes "String") (codes "newLine")) ≡ routine Function (own_number core p 6) 0 0 (code_body 128)
  is_new_line = leads core p 6 14 (refl, refl)
