-- A duration counted down.
use Rattle.std.proofs.Common.{◌≡◌, ℕ, zero, suc, ◌+◌, ◌*◌, ◌<◌, false, List, [], ◌∷◌, Some, codes, refl, ap, ◌∙◌, arith}
use Rattle.word16.specs.Words.{word_sub, word_lt}
use Rattle.jack_core.specs.declared.program.Core.{Core}
use Rattle.jack_core.specs.Texts.{the_subroutines}
use Rattle.jack_meaning.specs.Text.{Argument, Less, Subtract, Literal, Name, Binary, Let, If, While, Return, Text, End, Next, text_of, Function, Subroutine}
use Rattle.jack_meaning.specs.Meaning.{State, subroutine_at}
use Rattle.os_laws.specs.Names.{IsShipped}
use Rattle.os_laws.proofs.Comparing.{negative, not_negative}
use Rattle.os_laws.proofs.Runs.{Call, run, run_then}
use Rattle.os_functions.specs.Calls.{routine_number}
use Rattle.os_functions.specs.ErrorLaws.{WaitLaw, WaitErrorLaw}
use Rattle.os_functions.proofs.Named.{leads, is_error, system_error, own_number}
use Rattle.os_functions.proofs.Pieces.{in_call, tail, returns_value, erring, gives_by, refuses_by}
use Rattle.os_functions.proofs.Texts.{routine, error_text}

abbrev wait_loop : Text
wait_loop = Next (While 3 (Name (Argument 0)) (text_of (Let 4 (Argument 0) (Binary Subtract (Name (Argument 0)) (Literal 1)) ∷ []))) (Next (Return 5 (Literal 0)) End)

abbrev wait_body : ℕ → Text
wait_body error = Next (If 1 false (Binary Less (Name (Argument 0)) (Literal 0)) (error_text 2 error 1) End) wait_loop

module _ (subs : List Subroutine) (g : ℕ) (ss ws : List ℕ) where
  abbrev at_wait : Text → ℕ → Call
  at_wait t d = in_call g 0 ss ws t (d ∷ []) []

  begins : (error d : ℕ) → word_lt d 0 ≡ 0 → run subs 4 (at_wait (wait_body error) d) ≡ Some (at_wait wait_loop d)
  begins error d h = rw h refl

  refused : (error d : ℕ) → word_lt d 0 ≡ 65535 → run subs 5 (at_wait (wait_body error) d) ≡ Some (at_wait (erring error 1 (tail (wait_body error))) d)
  refused error d h = rw h refl

  turn : (d d' : ℕ) → word_sub (suc d) 1 ≡ d' → run subs 6 (at_wait wait_loop (suc d)) ≡ Some (at_wait wait_loop d')
  turn d d' h = rw h refl

  ends : run subs 3 (at_wait wait_loop 0) ≡ Some (at_wait (returns_value 5 0 End) 0)
  ends = refl

  counts : (d : ℕ) → d < 65536 → run subs (6 * d + 3) (at_wait wait_loop d) ≡ Some (at_wait (returns_value 5 0 End) 0)
  counts zero h = ends
  counts (suc d) h =
      let count : 6 * suc d + 3 ≡ 6 + (6 * d + 3) = omega arith in
      ap (λ k. run subs k (at_wait wait_loop (suc d))) count
      ∙ run_then subs 6 (6 * d + 3) (at_wait wait_loop (suc d)) (at_wait wait_loop d) (at_wait (returns_value 5 0 End) 0) (turn d d (let e : word_sub (suc d) 1 ≡ d = omega (arith, h) in e)) (counts d (omega (arith, h)))

module _ {core : Core} (p : IsShipped core) (s : State) where
  abbrev g : ℕ
  g = routine_number p (codes "Sys") (codes "wait")

  is_wait : subroutine_at (the_subroutines core) g ≡ routine Function (own_number core p 7) 1 0 (wait_body (system_error p))
  is_wait = leads core p 7 3 (refl, refl)

  pub wait_law : WaitLaw p s
  wait_law d h c =
      let subs = the_subroutines core in
      let error = system_error p in
      gives_by p s (codes "Sys") (codes "wait") (d ∷ []) c (4 + (6 * d + 3)) (10 + 6 * d) (omega arith) _ is_wait 0 5 0 0 refl End (0 ∷ []) []
      (run_then subs 4 (6 * d + 3) (at_wait subs g s.statics s.words (wait_body error) d) (at_wait subs g s.statics s.words wait_loop d) (at_wait subs g s.statics s.words (returns_value 5 0 End) 0)
      (begins subs g s.statics s.words error d (not_negative d h)) (counts subs g s.statics s.words d (omega (arith, h))))

  pub wait_error_law : WaitErrorLaw p s
  wait_error_law d low high c =
      let error = system_error p in
      refuses_by p s (codes "Sys") (codes "wait") (d ∷ []) c 5 7 (omega arith) _ is_wait error (is_error core p) 0 1 (tail (wait_body error)) (d ∷ []) []
      (refused (the_subroutines core) g s.statics s.words error d (negative d low))
