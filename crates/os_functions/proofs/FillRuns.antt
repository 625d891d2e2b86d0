-- Rectangles: each straight piece of the runs is a computation.
use Rattle.std.proofs.Common.{◌≡◌, ℕ, suc, ◌-◌, true, false, nat_eq, bit_and, bit_or, List, [], ◌∷◌, Some, refl}
use Rattle.std.specs.Prelude.{slice_set}
use Rattle.word16.specs.Words.{word_add, word_sub, word_neg, word_gt}
use Rattle.jack_meaning.specs.Text.{Local, Minus, Subtract, Value, Name, Unary, Binary, Store, Call as Calling, NoMore, More, Let, Do, Return, Literal, Text, End, Next, Subroutine}
use Rattle.os_laws.proofs.Runs.{Call, run, run_then}
use Rattle.os_laws.proofs.Searching.{Reaches}
use Rattle.os_functions.proofs.Pieces.{in_call, tail, returns_value, erring}
use Rattle.os_functions.proofs.FillTexts.{rectangle_body, rows_text, words_text, behind_word, behind_last, doubling, from_right, from_left, from_last, fill_body, clear_loop, clear_body}

module _ (subs : List Subroutine) (g : ℕ) (ss ws : List ℕ) where
  -- ---- drawRectangle

  module _ (x1 y1 x2 y2 : ℕ) where
    abbrev pub at_rectangle : Text → Call
    at_rectangle t = in_call g 0 ss ws t (x1 ∷ y1 ∷ x2 ∷ y2 ∷ []) []

    abbrev pub rectangle_end : Text
    rectangle_end = Next (Return 4 (Literal 0)) End

    abbrev pub asks_fill : ℕ → Text
    asks_fill fill = Next (Do 3 (Calling fill (More (Value x1) (More (Value y1) (More (Value x2) (More (Value y2) NoMore)))))) rectangle_end

    pub to_fill : (error fill : ℕ) → bit_and (bit_or x1 x2) 65024 ≡ 0 → bit_and (bit_or y1 y2) 65280 ≡ 0 → word_gt x1 x2 ≡ 0 → word_gt y1 y2 ≡ 0
        → run subs 26 (at_rectangle (rectangle_body error fill)) ≡ Some (at_rectangle (asks_fill fill))
    to_fill error fill a b c d = rw (a, b, c, d) refl

    pub fill_passed : run subs 2 (at_rectangle (Next (Do 3 (Value 0)) rectangle_end)) ≡ Some (at_rectangle (returns_value 4 0 End))
    fill_passed = refl

    pub to_error : (error fill a b c d m : ℕ) → bit_and (bit_or x1 x2) 65024 ≡ a → bit_and (bit_or y1 y2) 65280 ≡ b → word_gt x1 x2 ≡ c → word_gt y1 y2 ≡ d → bit_or (bit_or (bit_or a b) c) d ≡ suc m
        → run subs 23 (at_rectangle (rectangle_body error fill)) ≡ Some (at_rectangle (erring error 9 (tail (rectangle_body error fill))))
    to_error error fill a b c d m ha hb hc hd h = rw (ha, hb, hc, hd, h) refl

  -- ---- fill

  module _ (x1 x2 y2 : ℕ) where
    abbrev pub at_fill : Text → ℕ → ℕ → ℕ → ℕ → ℕ → ℕ → ℕ → Call
    at_fill t y first last word left right pixels = in_call g 0 ss ws t (x1 ∷ y ∷ x2 ∷ y2 ∷ []) (first ∷ last ∷ word ∷ left ∷ right ∷ pixels ∷ [])

    module _ (place bit paint y : ℕ) where
      abbrev pub asks_place : ℕ → ℕ → ℕ → Text → Text
      asks_place n k x rest = Next (Let n (Local k) (Calling place (More (Value x) (More (Value y) NoMore)))) rest

      abbrev pub has_value : ℕ → ℕ → ℕ → Text → Text
      has_value n k v rest = Next (Let n (Local k) (Value v)) rest

      abbrev pub asks_left : Text
      asks_left = Next (Let 3 (Local 3) (Unary Minus (Calling bit (More (Value x1) NoMore)))) (from_right bit paint)

      abbrev pub has_left : ℕ → Text
      has_left b = Next (Let 3 (Local 3) (Unary Minus (Value b))) (from_right bit paint)

      abbrev pub asks_right : Text
      asks_right = Next (Let 4 (Local 4) (Calling bit (More (Value x2) NoMore))) (doubling paint)

      pub fill_begins : run subs 2 (at_fill (fill_body place bit paint) y 0 0 0 0 0 0) ≡ Some (at_fill (asks_place 1 0 x1 (from_last place bit paint)) y 0 0 0 0 0 0)
      fill_begins = refl

      pub first_placed : (first : ℕ) → run subs 3 (at_fill (has_value 1 0 first (from_last place bit paint)) y 0 0 0 0 0 0) ≡ Some (at_fill (asks_place 2 1 x2 (from_left bit paint)) y first 0 0 0 0 0)
      first_placed first = refl

      pub last_placed : (first last : ℕ) → run subs 2 (at_fill (has_value 2 1 last (from_left bit paint)) y first 0 0 0 0 0) ≡ Some (at_fill asks_left y first last 0 0 0 0)
      last_placed first last = refl

      pub left_set : (first last b left : ℕ) → word_neg b ≡ left → run subs 3 (at_fill (has_left b) y first last 0 0 0 0) ≡ Some (at_fill asks_right y first last 0 left 0 0)
      left_set first last b left h = rw h refl

      pub right_set : (first last left b c right : ℕ) → word_add b b ≡ c → word_sub c 1 ≡ right → run subs 7 (at_fill (has_value 4 4 b (doubling paint)) y first last 0 left 0 0) ≡ Some (at_fill (rows_text paint) y first last 0 left right 0)
      right_set first last left b c right h k = rw (h, k) refl

    module _ (paint left right : ℕ) where
      abbrev pub asks_paint : ℕ → ℕ → ℕ → Text → Text
      asks_paint n word b rest = Next (Do n (Calling paint (More (Value word) (More (Value b) NoMore)))) rest

      pub row_begins : (y first last word pixels : ℕ) → word_gt y y2 ≡ 0 → run subs 9 (at_fill (rows_text paint) y first last word left right pixels) ≡ Some (at_fill (words_text paint) y first last first left right left)
      row_begins y first last word pixels h = rw h refl

      pub rows_end : (y first last word pixels : ℕ) → word_gt y y2 ≡ 65535 → run subs 6 (at_fill (rows_text paint) y first last word left right pixels) ≡ Some (at_fill (returns_value 17 0 End) y first last word left right pixels)
      rows_end y first last word pixels h = rw h refl

      pub word_begins : (y first last word pixels : ℕ) → nat_eq word last ≡ false
          → run subs 7 (at_fill (words_text paint) y first last word left right pixels) ≡ Some (at_fill (asks_paint 10 word pixels (behind_word paint)) y first last word left right pixels)
      word_begins y first last word pixels h = rw h refl

      pub word_ends : (y first last word pixels word' : ℕ) → word_add word 1 ≡ word'
          → run subs 8 (at_fill (Next (Do 10 (Value 0)) (behind_word paint)) y first last word left right pixels) ≡ Some (at_fill (words_text paint) y first last word' left right 65535)
      word_ends y first last word pixels word' h = rw h refl

      pub last_begins : (y first last word pixels : ℕ) → nat_eq word last ≡ true
          → run subs 9 (at_fill (words_text paint) y first last word left right pixels) ≡ Some (at_fill (asks_paint 13 word (bit_and pixels right) (behind_last paint)) y first last word left right pixels)
      last_begins y first last word pixels h = rw h refl

      pub last_ends : (y first last word pixels first' last' y' : ℕ) → word_add first 32 ≡ first' → word_add last 32 ≡ last' → word_add y 1 ≡ y'
          → run subs 13 (at_fill (Next (Do 13 (Value 0)) (behind_last paint)) y first last word left right pixels) ≡ Some (at_fill (rows_text paint) y' first' last' word left right pixels)
      last_ends y first last word pixels first' last' y' h k m = rw (h, k, m) refl

-- ---- clearScreen

module _ (subs : List Subroutine) (g : ℕ) (ss : List ℕ) where
  abbrev pub at_clear : Text → ℕ → ℕ → List ℕ → Call
  at_clear t screen n ws = in_call g 0 ss ws t [] (screen ∷ n ∷ [])

  pub clear_begins : (ws : List ℕ) → run subs 4 (at_clear clear_body 0 0 ws) ≡ Some (at_clear clear_loop 16384 8192 ws)
  clear_begins ws = refl

  abbrev in_turn : Text
  in_turn = Next (Let 4 (Local 1) (Binary Subtract (Name (Local 1)) (Literal 1))) (Next (Store 5 (Name (Local 0)) (Name (Local 1)) (Literal 0)) clear_loop)

  abbrev at_store : Text
  at_store = Next (Store 5 (Name (Local 0)) (Name (Local 1)) (Literal 0)) clear_loop

  turn_begins : (ws : List ℕ) (screen n : ℕ) → run subs 2 (at_clear clear_loop screen (suc n) ws) ≡ Some (at_clear in_turn screen (suc n) ws)
  turn_begins ws screen n = refl

  turn_counts : (ws : List ℕ) (screen m n' : ℕ) → word_sub m 1 ≡ n' → run subs 4 (at_clear in_turn screen m ws) ≡ Some (at_clear at_store screen n' ws)
  turn_counts ws screen m n' h = rw h refl

  turn_stores : (ws : List ℕ) (screen n a d : ℕ) → Reaches screen n a → a - 2048 ≡ d → run subs 4 (at_clear at_store screen n ws) ≡ Some (at_clear clear_loop screen n (slice_set ws d 0))
  turn_stores ws screen n a d r k = rw (r.at, r.low, r.high, k) refl

  pub clear_turn : (ws : List ℕ) (screen n n' a d : ℕ) → word_sub (suc n) 1 ≡ n' → Reaches screen n' a → a - 2048 ≡ d → run subs 10 (at_clear clear_loop screen (suc n) ws) ≡ Some (at_clear clear_loop screen n' (slice_set ws d 0))
  clear_turn ws screen n n' a d h r k =
      let last = at_clear clear_loop screen n' (slice_set ws d 0) in
      run_then subs 2 8 (at_clear clear_loop screen (suc n) ws) (at_clear in_turn screen (suc n) ws) last (turn_begins ws screen n)
      (run_then subs 4 4 (at_clear in_turn screen (suc n) ws) (at_clear at_store screen n' ws) last (turn_counts ws screen (suc n) n' h) (turn_stores ws screen n' a d r k))

  pub clear_ends : (ws : List ℕ) → run subs 3 (at_clear clear_loop 16384 0 ws) ≡ Some (at_clear (returns_value 6 0 End) 16384 0 ws)
  clear_ends ws = refl
