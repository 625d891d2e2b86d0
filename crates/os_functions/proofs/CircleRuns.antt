-- Circles: each straight piece of the runs is a computation.
use Rattle.std.proofs.Common.{◌≡◌, ℕ, suc, bit_and, bit_or, List, [], ◌∷◌, Some, refl}
use Rattle.word16.specs.Words.{word_add, word_sub, word_lt}
use Rattle.jack_meaning.specs.Text.{Value, Do, Call as Calling, More, NoMore, Text, End, Next, Expression, Subroutine}
use Rattle.os_laws.proofs.Runs.{Call, run}
use Rattle.os_functions.proofs.CircleTexts.{narrows, raises, circle_loop, behind_upper, deep_loop, third, second, circle_body, asks_fill}
use Rattle.os_functions.proofs.Pieces.{in_call, tail, returns_value, erring}

module _ (subs : List Subroutine) (g : ℕ) (ss ws : List ℕ) (x y r : ℕ) where
  abbrev pub at_circle : Text → ℕ → ℕ → ℕ → Call
  at_circle t e w d = in_call g 0 ss ws t (x ∷ y ∷ r ∷ []) (e ∷ w ∷ d ∷ [])

  module _ (error fill : ℕ) where
    pub to_second : bit_and x 65024 ≡ 0 → bit_and y 65280 ≡ 0 → run subs 10 (at_circle (circle_body error fill) 0 0 0) ≡ Some (at_circle (second error fill) 0 0 0)
    to_second h k = rw (h, k) refl

    pub to_centre_error : (a b m : ℕ) → bit_and x 65024 ≡ a → bit_and y 65280 ≡ b → bit_or a b ≡ suc m
        → run subs 11 (at_circle (circle_body error fill) 0 0 0) ≡ Some (at_circle (erring error 12 (tail (circle_body error fill))) 0 0 0)
    to_centre_error a b m ha hb h = rw (ha, hb, h) refl

    pub to_third : (x' x'' y' y'' : ℕ) → word_lt r 0 ≡ 0 → word_sub x r ≡ x' → word_add x r ≡ x'' → word_sub y r ≡ y' → word_add y r ≡ y'' → bit_and (bit_or x' x'') 65024 ≡ 0 → bit_and (bit_or y' y'') 65280 ≡ 0
        → run subs 26 (at_circle (second error fill) 0 0 0) ≡ Some (at_circle (third fill) 0 0 0)
    to_third x' x'' y' y'' h hx kx hy ky ha hb = rw (h, hx, kx, hy, ky, ha, hb) refl

    abbrev pub refused : Expression → Text
    refused e = Next (Do 4 e) (tail (second error fill))

    pub to_circle_error : (n x' x'' y' y'' a b m : ℕ) → word_lt r 0 ≡ n → word_sub x r ≡ x' → word_add x r ≡ x'' → word_sub y r ≡ y' → word_add y r ≡ y'' → bit_and (bit_or x' x'') 65024 ≡ a → bit_and (bit_or y' y'') 65280 ≡ b
        → bit_or (bit_or n a) b ≡ suc m
        → run subs 27 (at_circle (second error fill) 0 0 0) ≡ Some (at_circle (refused (Calling error (More (Value 13) NoMore))) 0 0 0)
    to_circle_error n x' x'' y' y'' a b m h hx kx hy ky ha hb o = rw (h, hx, kx, hy, ky, ha, hb, o) refl

  module _ (fill : ℕ) where
    pub to_middle : run subs 10 (at_circle (third fill) 0 0 0) ≡ Some (at_circle (asks_fill 6 fill (word_sub x r) y (word_add x r) y (circle_loop fill)) 0 r 0)
    to_middle = refl

    pub filled : (n e w d : ℕ) (t : Text) → run subs 1 (at_circle (Next (Do n (Value 0)) t) e w d) ≡ Some (at_circle t e w d)
    filled n e w d t = refl

    pub to_raise : (e w d : ℕ) → word_lt e r ≡ 65535 → run subs 4 (at_circle (circle_loop fill) e w d) ≡ Some (at_circle (raises (deep_loop fill)) e w d)
    to_raise e w d h = rw h refl

    pub raised : (e w d : ℕ)
        → run subs 12 (at_circle (raises (deep_loop fill)) e w d) ≡ Some (at_circle (deep_loop fill) (word_add e 1) w (word_add (word_sub (word_sub d (word_add e 1)) (word_add e 1)) 1))
    raised e w d = refl

    pub circle_ends : (e w d : ℕ) → word_lt e r ≡ 0 → run subs 5 (at_circle (circle_loop fill) e w d) ≡ Some (at_circle (returns_value 15 0 End) e w d)
    circle_ends e w d h = rw h refl

    pub to_narrow : (e w d : ℕ) → word_lt d 0 ≡ 65535 → run subs 4 (at_circle (deep_loop fill) e w d) ≡ Some (at_circle (narrows (deep_loop fill)) e w d)
    to_narrow e w d h = rw h refl

    pub narrowed : (e w d : ℕ)
        → run subs 12 (at_circle (narrows (deep_loop fill)) e w d) ≡ Some (at_circle (deep_loop fill) e (word_sub w 1) (word_add (word_add (word_add d (word_sub w 1)) (word_sub w 1)) 1))
    narrowed e w d = refl

    pub to_upper : (e w d : ℕ) → word_lt d 0 ≡ 0
        → run subs 16 (at_circle (deep_loop fill) e w d) ≡ Some (at_circle (asks_fill 13 fill (word_sub x w) (word_sub y e) (word_add x w) (word_sub y e) (behind_upper fill)) e w d)
    to_upper e w d h = rw h refl

    pub to_lower : (e w d : ℕ)
        → run subs 13 (at_circle (Next (Do 13 (Value 0)) (behind_upper fill)) e w d) ≡ Some (at_circle (asks_fill 14 fill (word_sub x w) (word_add y e) (word_add x w) (word_add y e) (circle_loop fill)) e w d)
    to_lower e w d = refl
