-- The cursor goes on: each straight piece of the runs is a computation.
use Rattle.std.proofs.Common.{◌≡◌, ℕ, bit_and, List, [], ◌∷◌, true, false, nat_eq, Some, refl}
use Rattle.std.specs.Prelude.{slice_index, slice_set}
use Rattle.word16.specs.Words.{word_add, word_sub, word_gt}
use Rattle.jack_meaning.specs.Text.{Value, Call as Calling, NoMore, More, Do, Return, Literal, Text, End, Next, Subroutine}
use Rattle.os_laws.proofs.Runs.{Call, run}
use Rattle.os_functions.proofs.Pieces.{in_call, returns_value}
use Rattle.os_functions.proofs.Texts.{line_body, back_body, print_body, moves_on}

module _ (subs : List Subroutine) (g : ℕ) (ws : List ℕ) (place right : ℕ) where
  -- ---- println

  abbrev pub line_at : List ℕ → Text → Call
  line_at ss t = in_call g 0 ss ws t [] []

  pub line_ends : (ss : List ℕ) (a m b : ℕ) → slice_index ss place ≡ a → bit_and a 65504 ≡ m → word_add m 352 ≡ b → slice_index (slice_set (slice_set ss place b) right 0) place ≡ b → word_gt b 24479 ≡ 0
      → run subs 14 (line_at ss (line_body place right)) ≡ Some (line_at (slice_set (slice_set ss place b) right 0) (returns_value 5 0 End))
  line_ends ss a m b ha hm hb hp h = rw (ha, hm, hb, hp, h) refl

  pub line_turns : (ss : List ℕ) (a m b : ℕ) → slice_index ss place ≡ a → bit_and a 65504 ≡ m → word_add m 352 ≡ b → slice_index (slice_set (slice_set ss place b) right 0) place ≡ b → word_gt b 24479 ≡ 65535
      → run subs 16 (line_at ss (line_body place right)) ≡ Some (line_at (slice_set (slice_set (slice_set ss place b) right 0) place 16384) (returns_value 5 0 End))
  line_turns ss a m b ha hm hb hp h = rw (ha, hm, hb, hp, h) refl

  -- ---- printChar

  module _ (c line : ℕ) where
    abbrev pub print_at : List ℕ → Text → Call
    print_at ss t = in_call g 0 ss ws t (c ∷ []) []

    abbrev pub print_end : Text
    print_end = Next (Return 11 (Literal 0)) End

    abbrev pub draws : ℕ → Text
    draws draw = Next (Do 5 (Calling draw (More (Value c) NoMore))) (moves_on line place right)

    abbrev pub has_drawn : Text
    has_drawn = Next (Do 5 (Value 0)) (moves_on line place right)

    pub to_draw : (ss : List ℕ) (back draw : ℕ) → nat_eq c 128 ≡ false → nat_eq c 129 ≡ false → run subs 9 (print_at ss (print_body line back draw place right)) ≡ Some (print_at ss (draws draw))
    to_draw ss back draw h k = rw (h, k) refl

    -- from a left cell to the right one beside it
    pub moves_right : (ss : List ℕ) → slice_index ss right ≡ 0 → slice_index (slice_set ss right 65535) right ≡ 65535 → run subs 8 (print_at ss has_drawn) ≡ Some (print_at (slice_set ss right 65535) (returns_value 11 0 End))
    moves_right ss h k = rw (h, k) refl

    -- from a right cell to the next word, and at the end of a row
    pub moves_next : (ss : List ℕ) (a m b : ℕ) → slice_index ss right ≡ 65535 → slice_index (slice_set ss right 0) right ≡ 0 → slice_index (slice_set ss right 0) place ≡ a → bit_and a 31 ≡ m → nat_eq m 31 ≡ false → word_add a 1 ≡ b
        → run subs 18 (print_at ss has_drawn) ≡ Some (print_at (slice_set (slice_set ss right 0) place b) (returns_value 11 0 End))
    moves_next ss a m b h k hp hm e hb = rw (h, k, hp, hm, e, hp, hb) refl

    pub to_line : (ss : List ℕ) (a m : ℕ) → slice_index ss right ≡ 65535 → slice_index (slice_set ss right 0) right ≡ 0 → slice_index (slice_set ss right 0) place ≡ a → bit_and a 31 ≡ m → nat_eq m 31 ≡ true
        → run subs 13 (print_at ss has_drawn) ≡ Some (print_at (slice_set ss right 0) (Next (Do 9 (Calling line NoMore)) print_end))
    to_line ss a m h k hp hm e = rw (h, k, hp, hm, e) refl

    pub line_done : (ss : List ℕ) (n : ℕ) → run subs 2 (print_at ss (Next (Do n (Value 0)) print_end)) ≡ Some (print_at ss (returns_value 11 0 End))
    line_done ss n = refl

  pub to_new_line : (ss : List ℕ) (line back draw : ℕ) → run subs 4 (print_at 128 line ss (print_body line back draw place right)) ≡ Some (print_at 128 line ss (Next (Do 2 (Calling line NoMore)) (print_end 128 line)))
  to_new_line ss line back draw = refl

  pub to_back : (ss : List ℕ) (line back draw : ℕ) → run subs 8 (print_at 129 line ss (print_body line back draw place right)) ≡ Some (print_at 129 line ss (Next (Do 4 (Calling back NoMore)) (print_end 129 line)))
  to_back ss line back draw = refl

  -- ---- backSpace

  abbrev pub back_at : List ℕ → Text → Call
  back_at ss t = in_call g 0 ss ws t [] []

  abbrev pub draws_space : ℕ → Text
  draws_space draw = Next (Do 8 (Calling draw (More (Value 32) NoMore))) (Next (Return 9 (Literal 0)) End)

  pub space_done : (ss : List ℕ) → run subs 2 (back_at ss (Next (Do 8 (Value 0)) (Next (Return 9 (Literal 0)) End))) ≡ Some (back_at ss (returns_value 9 0 End))
  space_done ss = refl

  pub back_left : (ss : List ℕ) (draw : ℕ) → slice_index ss right ≡ 65535 → run subs 5 (back_at ss (back_body draw place right)) ≡ Some (back_at (slice_set ss right 0) (draws_space draw))
  back_left ss draw h = rw h refl

  pub back_stays : (ss : List ℕ) (draw a : ℕ) → slice_index ss right ≡ 0 → slice_index ss place ≡ a → word_gt a 16384 ≡ 0 → run subs 7 (back_at ss (back_body draw place right)) ≡ Some (back_at ss (draws_space draw))
  back_stays ss draw a h hp k = rw (h, hp, k) refl

  pub back_word : (ss : List ℕ) (draw a b m : ℕ) → slice_index ss right ≡ 0 → slice_index ss place ≡ a → word_gt a 16384 ≡ 65535 → slice_index (slice_set ss right 65535) place ≡ a → word_sub a 1 ≡ b
      → slice_index (slice_set (slice_set ss right 65535) place b) place ≡ b → bit_and b 31 ≡ m → nat_eq m 31 ≡ false
      → run subs 19 (back_at ss (back_body draw place right)) ≡ Some (back_at (slice_set (slice_set ss right 65535) place b) (draws_space draw))
  back_word ss draw a b m h hp k hs hb hq hm e = rw (h, hp, k, hs, hb, hq, hm, e) refl

  pub back_row : (ss : List ℕ) (draw a b m d : ℕ) → slice_index ss right ≡ 0 → slice_index ss place ≡ a → word_gt a 16384 ≡ 65535 → slice_index (slice_set ss right 65535) place ≡ a → word_sub a 1 ≡ b
      → slice_index (slice_set (slice_set ss right 65535) place b) place ≡ b → bit_and b 31 ≡ m → nat_eq m 31 ≡ true → word_sub b 320 ≡ d
      → run subs 23 (back_at ss (back_body draw place right)) ≡ Some (back_at (slice_set (slice_set (slice_set ss right 65535) place b) place d) (draws_space draw))
  back_row ss draw a b m d h hp k hs hb hq hm e hd = rw (h, hp, k, hs, hb, hq, hm, e, hq, hd) refl
