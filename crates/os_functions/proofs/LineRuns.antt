-- Lines: each straight piece of the runs is a computation.
use Rattle.std.proofs.Common.{◌≡◌, ◌⊎◌, ⊎_elim, ℕ, suc, Bool, true, false, nat_eq, bit_and, bit_or, List, [], ◌∷◌, Some, refl}
use Rattle.word16.specs.Words.{word_add, word_sub, word_neg, word_lt, word_gt}
use Rattle.jack_meaning.specs.Text.{Argument, Local, Plus, Subtract, Value, Name, Binary, Call as Calling, NoMore, More, Let, Do, Return, Literal, Text, End, Next, Expression, Subroutine}
use Rattle.os_laws.proofs.Runs.{Call, run, run_then}
use Rattle.os_functions.proofs.Pieces.{in_call, tail, returns_value, erring}
use Rattle.os_functions.proofs.LineTexts.{two, goes_x, goes_y, line_loop, behind_dot, turns_y, turns_x, slants, asks_ends, second, line_body}
use Rattle.os_functions.proofs.Texts.{min_body, max_body}

-- ---- the lesser and the greater

module _ (subs : List Subroutine) (g : ℕ) (ss ws : List ℕ) (x y : ℕ) where
  abbrev pub at_pick : Text → Call
  at_pick t = in_call g 0 ss ws t (x ∷ y ∷ []) []

  pub min_left : word_lt x y ≡ 65535 → run subs 5 (at_pick min_body) ≡ Some (at_pick (returns_value 2 x (tail min_body)))
  min_left h = rw h refl

  pub min_right : word_lt x y ≡ 0 → run subs 5 (at_pick min_body) ≡ Some (at_pick (returns_value 3 y End))
  min_right h = rw h refl

  pub max_left : word_gt x y ≡ 65535 → run subs 5 (at_pick max_body) ≡ Some (at_pick (returns_value 2 x (tail max_body)))
  max_left h = rw h refl

  pub max_right : word_gt x y ≡ 0 → run subs 5 (at_pick max_body) ≡ Some (at_pick (returns_value 3 y End))
  max_right h = rw h refl

module _ (subs : List Subroutine) (g : ℕ) (ss ws : List ℕ) (x2 y2 : ℕ) where
  abbrev pub at_line : Text → ℕ → ℕ → ℕ → ℕ → ℕ → ℕ → ℕ → ℕ → ℕ → Call
  at_line t x y dx dy sx sy a b d = in_call g 0 ss ws t (x ∷ y ∷ x2 ∷ y2 ∷ []) (dx ∷ dy ∷ sx ∷ sy ∷ a ∷ b ∷ d ∷ [])

  abbrev pub at_first : Text → ℕ → ℕ → Call
  at_first t x y = at_line t x y 0 0 0 0 0 0 0

  module _ (error fill min max place bit paint x1 y1 : ℕ) where
    pub to_second : bit_and (bit_or x1 x2) 65024 ≡ 0 → bit_and (bit_or y1 y2) 65280 ≡ 0
        → run subs 14 (at_first (line_body error fill min max place bit paint) x1 y1) ≡ Some (at_first (second fill min max place bit paint) x1 y1)
    to_second h k = rw (h, k) refl

    pub to_error : (a b m : ℕ) → bit_and (bit_or x1 x2) 65024 ≡ a → bit_and (bit_or y1 y2) 65280 ≡ b → bit_or a b ≡ suc m
        → run subs 15 (at_first (line_body error fill min max place bit paint) x1 y1) ≡ Some (at_first (erring error 8 (tail (line_body error fill min max place bit paint))) x1 y1)
    to_error a b m ha hb h = rw (ha, hb, h) refl

    -- ---- level or upright

    abbrev picks : ℕ → ℕ → ℕ → Expression
    picks pick i j = Calling pick (two (Name (Argument i)) (Name (Argument j)))

    abbrev pub picked : ℕ → ℕ → ℕ → Expression
    picked pick v w = Calling pick (two (Value v) (Value w))

    abbrev pub ends_1 : Expression → Text
    ends_1 e = asks_ends fill e (picks min 1 3) (picks max 0 2) (picks max 1 3) (slants place bit paint)

    abbrev pub ends_2 : ℕ → Expression → Text
    ends_2 v e = asks_ends fill (Value v) e (picks max 0 2) (picks max 1 3) (slants place bit paint)

    abbrev pub ends_3 : ℕ → ℕ → Expression → Text
    ends_3 v w e = asks_ends fill (Value v) (Value w) e (picks max 1 3) (slants place bit paint)

    abbrev pub ends_4 : ℕ → ℕ → ℕ → Expression → Text
    ends_4 v w u e = asks_ends fill (Value v) (Value w) (Value u) e (slants place bit paint)

    pub to_ends : (e f : Bool) → nat_eq x1 x2 ≡ e → nat_eq y1 y2 ≡ f → (e ≡ true) ⊎ (f ≡ true)
        → run subs 10 (at_first (second fill min max place bit paint) x1 y1) ≡ Some (at_first (ends_1 (picked min x1 x2)) x1 y1)
    to_ends true true h k o = rw (h, k) refl
    to_ends true false h k o = rw (h, k) refl
    to_ends false true h k o = rw (h, k) refl
    to_ends false false h k o = absurd (⊎_elim (λ (e : false ≡ true). cc e) (λ (e : false ≡ true). cc e) o)

    pub to_ends_2 : (v : ℕ) → run subs 2 (at_first (ends_1 (Value v)) x1 y1) ≡ Some (at_first (ends_2 v (picked min y1 y2)) x1 y1)
    to_ends_2 v = refl

    pub to_ends_3 : (v w : ℕ) → run subs 2 (at_first (ends_2 v (Value w)) x1 y1) ≡ Some (at_first (ends_3 v w (picked max x1 x2)) x1 y1)
    to_ends_3 v w = refl

    pub to_ends_4 : (v w u : ℕ) → run subs 2 (at_first (ends_3 v w (Value u)) x1 y1) ≡ Some (at_first (ends_4 v w u (picked max y1 y2)) x1 y1)
    to_ends_4 v w u = refl

    pub ends_done : run subs 2 (at_first (Next (Do 4 (Value 0)) (Next (Return 5 (Literal 0)) (slants place bit paint))) x1 y1) ≡ Some (at_first (returns_value 5 0 (slants place bit paint)) x1 y1)
    ends_done = refl

    -- ---- slanting

    pub to_slants : nat_eq x1 x2 ≡ false → nat_eq y1 y2 ≡ false → run subs 8 (at_first (second fill min max place bit paint) x1 y1) ≡ Some (at_first (slants place bit paint) x1 y1)
    to_slants h k = rw (h, k) refl

    pub slanted : (u w : ℕ) → word_sub x2 x1 ≡ u → word_sub y2 y1 ≡ w → run subs 12 (at_first (slants place bit paint) x1 y1) ≡ Some (at_line (turns_x place bit paint) x1 y1 u w 1 1 0 0 0)
    slanted u w h k = rw (h, k) refl

  module _ (place bit paint x y : ℕ) where
    pub x_forward : (u w : ℕ) → word_lt u 0 ≡ 0 → run subs 4 (at_line (turns_x place bit paint) x y u w 1 1 0 0 0) ≡ Some (at_line (turns_y place bit paint) x y u w 1 1 0 0 0)
    x_forward u w h = rw h refl

    pub x_backward : (u w u' : ℕ) → word_lt u 0 ≡ 65535 → word_neg u ≡ u' → run subs 10 (at_line (turns_x place bit paint) x y u w 1 1 0 0 0) ≡ Some (at_line (turns_y place bit paint) x y u' w 65535 1 0 0 0)
    x_backward u w u' h k = rw (h, k) refl

    pub y_forward : (u w sx : ℕ) → word_lt w 0 ≡ 0 → run subs 4 (at_line (turns_y place bit paint) x y u w sx 1 0 0 0) ≡ Some (at_line (line_loop place bit paint) x y u w sx 1 0 0 0)
    y_forward u w sx h = rw h refl

    pub y_backward : (u w sx w' : ℕ) → word_lt w 0 ≡ 65535 → word_neg w ≡ w' → run subs 10 (at_line (turns_y place bit paint) x y u w sx 1 0 0 0) ≡ Some (at_line (line_loop place bit paint) x y u w' sx 65535 0 0 0)
    y_backward u w sx w' h k = rw (h, k) refl

    -- ---- the loop

    module _ (dx dy sx sy : ℕ) where
      abbrev pub dots : Expression → Expression → Text
      dots a b = Next (Do 17 (Calling paint (two a b))) (behind_dot place bit paint)

      abbrev pub asks_place : Expression
      asks_place = Calling place (two (Value x) (Value y))

      abbrev pub bit_later : Expression
      bit_later = Calling bit (More (Name (Argument 0)) NoMore)

      abbrev pub asks_bit : Expression
      asks_bit = Calling bit (More (Value x) NoMore)

      pub to_dot : (a b d : ℕ) → word_gt a dx ≡ 0 → word_gt b dy ≡ 0 → run subs 11 (at_line (line_loop place bit paint) x y dx dy sx sy a b d) ≡ Some (at_line (dots asks_place bit_later) x y dx dy sx sy a b d)
      to_dot a b d h k = rw (h, k) refl

      pub to_bit : (a b d v : ℕ) → run subs 1 (at_line (dots (Value v) bit_later) x y dx dy sx sy a b d) ≡ Some (at_line (dots (Value v) asks_bit) x y dx dy sx sy a b d)
      to_bit a b d v = refl

      pub loop_ends : (a b d : ℕ) → word_gt a dx ≡ 0 → word_gt b dy ≡ 65535 → run subs 10 (at_line (line_loop place bit paint) x y dx dy sx sy a b d) ≡ Some (at_line (returns_value 25 0 End) x y dx dy sx sy a b d)
      loop_ends a b d h k = rw (h, k) refl

      abbrev loops : Text
      loops = line_loop place bit paint

      -- each of the three statements of a step, whatever comes after it
      module _ (t : Text) where
        adds_a : (x' y' a b d a' : ℕ) → word_add a 1 ≡ a'
            → run subs 4 (at_line (Next (Let 19 (Local 4) (Binary Plus (Name (Local 4)) (Literal 1))) t) x' y' dx dy sx sy a b d) ≡ Some (at_line t x' y' dx dy sx sy a' b d)
        adds_a x' y' a b d a' h = rw h refl

        moves_x : (x' y' a b d x'' : ℕ) → word_add x' sx ≡ x''
            → run subs 4 (at_line (Next (Let 20 (Argument 0) (Binary Plus (Name (Argument 0)) (Name (Local 2)))) t) x' y' dx dy sx sy a b d) ≡ Some (at_line t x'' y' dx dy sx sy a b d)
        moves_x x' y' a b d x'' h = rw h refl

        raises_d : (x' y' a b d d' : ℕ) → word_add d dy ≡ d'
            → run subs 4 (at_line (Next (Let 21 (Local 6) (Binary Plus (Name (Local 6)) (Name (Local 1)))) t) x' y' dx dy sx sy a b d) ≡ Some (at_line t x' y' dx dy sx sy a b d')
        raises_d x' y' a b d d' h = rw h refl

        adds_b : (x' y' a b d b' : ℕ) → word_add b 1 ≡ b'
            → run subs 4 (at_line (Next (Let 22 (Local 5) (Binary Plus (Name (Local 5)) (Literal 1))) t) x' y' dx dy sx sy a b d) ≡ Some (at_line t x' y' dx dy sx sy a b' d)
        adds_b x' y' a b d b' h = rw h refl

        moves_y : (x' y' a b d y'' : ℕ) → word_add y' sy ≡ y''
            → run subs 4 (at_line (Next (Let 23 (Argument 1) (Binary Plus (Name (Argument 1)) (Name (Local 3)))) t) x' y' dx dy sx sy a b d) ≡ Some (at_line t x' y'' dx dy sx sy a b d)
        moves_y x' y' a b d y'' h = rw h refl

        lowers_d : (x' y' a b d d' : ℕ) → word_sub d dx ≡ d'
            → run subs 4 (at_line (Next (Let 24 (Local 6) (Binary Subtract (Name (Local 6)) (Name (Local 0)))) t) x' y' dx dy sx sy a b d) ≡ Some (at_line t x' y' dx dy sx sy a b d')
        lowers_d x' y' a b d d' h = rw h refl

      chooses_x : (a b d : ℕ) → word_lt d 0 ≡ 65535 → run subs 5 (at_line (Next (Do 17 (Value 0)) (behind_dot place bit paint)) x y dx dy sx sy a b d) ≡ Some (at_line (goes_x loops) x y dx dy sx sy a b d)
      chooses_x a b d h = rw h refl

      chooses_y : (a b d : ℕ) → word_lt d 0 ≡ 0 → run subs 5 (at_line (Next (Do 17 (Value 0)) (behind_dot place bit paint)) x y dx dy sx sy a b d) ≡ Some (at_line (goes_y loops) x y dx dy sx sy a b d)
      chooses_y a b d h = rw h refl

      pub steps_x : (a b d a' x' d' : ℕ) → word_lt d 0 ≡ 65535 → word_add a 1 ≡ a' → word_add x sx ≡ x' → word_add d dy ≡ d'
          → run subs 17 (at_line (Next (Do 17 (Value 0)) (behind_dot place bit paint)) x y dx dy sx sy a b d) ≡ Some (at_line (line_loop place bit paint) x' y dx dy sx sy a' b d')
      steps_x a b d a' x' d' h ha hx hd =
          let t2 = Next (Let 21 (Local 6) (Binary Plus (Name (Local 6)) (Name (Local 1)))) loops in
          let t1 = Next (Let 20 (Argument 0) (Binary Plus (Name (Argument 0)) (Name (Local 2)))) t2 in
          let c0 = at_line (Next (Do 17 (Value 0)) (behind_dot place bit paint)) x y dx dy sx sy a b d in
          let c1 = at_line (goes_x loops) x y dx dy sx sy a b d in
          let c2 = at_line t1 x y dx dy sx sy a' b d in
          let c3 = at_line t2 x' y dx dy sx sy a' b d in
          let c4 = at_line loops x' y dx dy sx sy a' b d' in
          run_then subs 5 12 c0 c1 c4 (chooses_x a b d h)
          (run_then subs 4 8 c1 c2 c4 (adds_a t1 x y a b d a' ha) (run_then subs 4 4 c2 c3 c4 (moves_x t2 x y a' b d x' hx) (raises_d loops x' y a' b d d' hd)))

      pub steps_y : (a b d b' y' d' : ℕ) → word_lt d 0 ≡ 0 → word_add b 1 ≡ b' → word_add y sy ≡ y' → word_sub d dx ≡ d'
          → run subs 17 (at_line (Next (Do 17 (Value 0)) (behind_dot place bit paint)) x y dx dy sx sy a b d) ≡ Some (at_line (line_loop place bit paint) x y' dx dy sx sy a b' d')
      steps_y a b d b' y' d' h hb hy hd =
          let t2 = Next (Let 24 (Local 6) (Binary Subtract (Name (Local 6)) (Name (Local 0)))) loops in
          let t1 = Next (Let 23 (Argument 1) (Binary Plus (Name (Argument 1)) (Name (Local 3)))) t2 in
          let c0 = at_line (Next (Do 17 (Value 0)) (behind_dot place bit paint)) x y dx dy sx sy a b d in
          let c1 = at_line (goes_y loops) x y dx dy sx sy a b d in
          let c2 = at_line t1 x y dx dy sx sy a b' d in
          let c3 = at_line t2 x y' dx dy sx sy a b' d in
          let c4 = at_line loops x y' dx dy sx sy a b' d' in
          run_then subs 5 12 c0 c1 c4 (chooses_y a b d h)
          (run_then subs 4 8 c1 c2 c4 (adds_b t1 x y a b d b' hb) (run_then subs 4 4 c2 c3 c4 (moves_y t2 x y a b' d y' hy) (lowers_d loops x y' a b' d d' hd)))
