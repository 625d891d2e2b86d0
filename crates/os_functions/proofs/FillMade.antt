-- A rectangle drawn: calls of Screen's own routines within calls.
use Rattle.std.proofs.Common.{◌≡◌, ⊎_elim, ℕ, zero, suc, ◌+◌, ◌-◌, ◌*◌, ◌/◌, ◌%◌, ◌^◌, ◌<◌, ◌≤◌, true, false, nat_eq, bit_and, bit_or, List, [], ◌∷◌, length, codes, refl, sym, ap, ◌∙◌, subst, arith}
use Rattle.std.specs.Prelude.{slice_index, slice_set, if◌then◌else◌}
use Rattle.std.proofs.lemmas.Bool.{cases_lt}
use Rattle.std.proofs.lemmas.Bool.Decides.{nat_tests}
use Rattle.std.proofs.lemmas.Nat.{pow_below, pow_pos, or_lt, le_or_l, le_or_r}
use Rattle.word16.specs.Words.{word_add, word_sub, word_neg, word_not, word_gt}
use Rattle.jack_core.specs.declared.program.Core.{Core}
use Rattle.jack_core.specs.Texts.{the_subroutines}
use Rattle.jack_meaning.specs.Text.{Local, Minus, Value, Unary, Open, Let, Do, Text, End, Next, Function, Subroutine}
use Rattle.jack_meaning.specs.Meaning.{Frame, State, Acts, step, subroutine_at, new_frame, filled_text}
use Rattle.os_laws.specs.Calls.{NextCall}
use Rattle.os_laws.specs.Heap.{word_at}
use Rattle.os_laws.specs.Names.{IsShipped}
use Rattle.os_laws.proofs.Basics.{enters}
use Rattle.os_laws.proofs.Comparing.{less, not_less}
use Rattle.os_laws.proofs.Runs.{Call, over, run}
use Rattle.os_laws.proofs.Walking.{here}
use Rattle.os_functions.specs.Calls.{routine_number, HasStatics}
use Rattle.os_functions.specs.RectangleLaws.{AreCorners, InRectangle, IsColoured, RectangleLaw, RectangleErrorLaw}
use Rattle.os_functions.proofs.FillFacts.{brush, ink, IsFrom, left_mask, whole_mask, inner_mask, last_mask, Done, word_place, none_done, row_done, all_done, word_done}
use Rattle.os_functions.proofs.FillRuns.{at_rectangle, rectangle_end, asks_fill, to_fill, fill_passed, to_error, at_fill, asks_place, has_value, asks_left, has_left, asks_right, fill_begins, first_placed, last_placed, left_set, right_set, asks_paint, row_begins, rows_end, word_begins, word_ends, last_begins, last_ends}
use Rattle.os_functions.proofs.FillTexts.{rectangle_body, fill_body, from_last, from_left, from_right, doubling, rows_text, words_text, behind_word, behind_last}
use Rattle.os_functions.proofs.Named.{leads, numbered, is_error, system_error, number_of, own_number}
use Rattle.os_functions.proofs.Pieces.{in_call, tail, returns_value, refuses_by}
use Rattle.os_functions.proofs.PixelFacts.{in_columns, in_rows, off_columns, off_rows, one_more}
use Rattle.os_functions.proofs.ScreenRoutines.{is_paint, is_place, is_bit}
use Rattle.os_functions.proofs.ScreenRuns.{places, bits, paints_black, paints_white}
use Rattle.os_functions.proofs.Statics.{same_black}
use Rattle.os_functions.proofs.Texts.{routine, paint_body, place_body, bit_body}
use Rattle.os_functions.proofs.Ways.{Way, way_then, way_of_run, way_of_call, opened, returns_by, inner_leaf}

-- ---- what stands at the numbers of the names, by computation from the shipped texts

module _ (core : Core) (p : IsShipped core) where
  abbrev screen_number : List ℕ → ℕ
  screen_number name = number_of core p (codes "Screen") name

  abbrev pub place_at : ℕ
  place_at = screen_number (codes "place")

  abbrev pub bit_at : ℕ
  bit_at = screen_number (codes "bit")

  abbrev pub paint_at : ℕ
  paint_at = screen_number (codes "paint")

  abbrev pub fill_at : ℕ
  fill_at = screen_number (codes "fill")

  pub called_at : (name : List ℕ) → subroutine_at (the_subroutines core) (screen_number name) ≡ subroutine_at (the_subroutines core) (routine_number p (codes "Screen") name)
  called_at name = ap (subroutine_at (the_subroutines core)) (sym (numbered core p (codes "Screen") name))

  is_fill : subroutine_at (the_subroutines core) fill_at ≡ routine Function (own_number core p 5) 4 6 (fill_body place_at bit_at paint_at)
  is_fill = called_at (codes "fill") ∙ leads core p 5 7 (refl, refl)

  is_rectangle : subroutine_at (the_subroutines core) (routine_number p (codes "Screen") (codes "drawRectangle")) ≡ routine Function (own_number core p 5) 4 0 (rectangle_body (system_error p) fill_at)
  is_rectangle = leads core p 5 5 (refl, refl)

equals : (a b : ℕ) → a ≡ b → nat_eq a b ≡ true
equals a b h = grind (arith, nat_tests)

differs : (a b : ℕ) → a < b → nat_eq a b ≡ false
differs a b h = grind (arith, nat_tests)

-- ---- calls of place, bit and paint within a call

module _ {core : Core} (p : IsShipped core) (h : HasStatics p) (below : List Frame) (ss : List ℕ) where
  abbrev subs : List Subroutine
  subs = the_subroutines core

  abbrev least : ℕ
  least = suc (length below)

  abbrev has_paint : subroutine_at subs (paint_at core p) ≡ routine Function (own_number core p 5) 2 0 (paint_body h.black)
  has_paint = called_at core p (codes "paint") ∙ is_paint core p ∙ ap (λ (k : ℕ). routine Function (own_number core p 5) 2 0 (paint_body k)) (same_black h)

  pub place_way : (f waits : Frame) (ws : List ℕ) (x y : ℕ) → x < 512 → y < 256
      → step subs 0 (record { frames = f ∷ below; statics = ss; words = ws }) ≡ Acts false (record { frames = new_frame subs (place_at core p) (x ∷ y ∷ []) ∷ waits ∷ below; statics = ss; words = ws })
      → (n : ℕ) × (n ≤ 119) × Way subs least n (record { frames = f ∷ below; statics = ss; words = ws }) (record { frames = record waits { text = filled_text (16384 + 32 * y + x / 16) waits.text } ∷ below; statics = ss; words = ws })
  place_way f waits ws x y hx hy calls =
      let r = places subs (place_at core p) ss ws x y hx hy in
      let end : Frame = (in_call (place_at core p) 0 ss ws End (r.2 ∷ (32 * y + x / 16) ∷ []) (0 ∷ [])).frame in (
        suc (suc r.0),
        (let few = r.1 in omega (arith, few)),
        inner_leaf subs below f waits ss ws ss ws (place_at core p) (x ∷ y ∷ []) (routine Function (own_number core p 5) 2 1 place_body) r.0 8 (16384 + 32 * y + x / 16) End end (called_at core p (codes "place") ∙ is_place core p) calls r.3,
      )

  pub bit_way : (f waits : Frame) (ws : List ℕ) (x : ℕ)
      → step subs 0 (record { frames = f ∷ below; statics = ss; words = ws }) ≡ Acts false (record { frames = new_frame subs (bit_at core p) (x ∷ []) ∷ waits ∷ below; statics = ss; words = ws })
      → (n : ℕ) × (n ≤ 161) × Way subs least n (record { frames = f ∷ below; statics = ss; words = ws }) (record { frames = record waits { text = filled_text (2 ^ (x % 16)) waits.text } ∷ below; statics = ss; words = ws })
  bit_way f waits ws x calls =
      let b = 2 ^ (x % 16) in
      let low : x % 16 < 16 = omega arith in
      let end : Frame = (in_call (bit_at core p) 0 ss ws End (0 ∷ []) (b ∷ [])).frame in (
        suc (suc (6 + (10 * (x % 16) + 3))),
        omega (arith, low),
        inner_leaf subs below f waits ss ws ss ws (bit_at core p) (x ∷ []) (routine Function (own_number core p 5) 1 1 bit_body) (6 + (10 * (x % 16) + 3)) 6 b End end (called_at core p (codes "bit") ∙ is_bit core p) calls
            (bits subs (bit_at core p) ss ws x b refl (pow_below (x % 16) 16 low)),
      )

  abbrev paints : Frame → Frame → List ℕ → ℕ → ℕ → ℕ → Type 0
  paints f waits ws a b v =
      (n : ℕ) × (n ≤ 14)
      × Way subs least n (record { frames = f ∷ below; statics = ss; words = ws }) (record { frames = record waits { text = filled_text 0 waits.text } ∷ below; statics = ss; words = slice_set ws (a - 2048) (brush v (word_at ws a) b) })

  pub paint_way : (f waits : Frame) (ws : List ℕ) (a b : ℕ) → 2048 ≤ a → a < 24576
      → step subs 0 (record { frames = f ∷ below; statics = ss; words = ws }) ≡ Acts false (record { frames = new_frame subs (paint_at core p) (a ∷ b ∷ []) ∷ waits ∷ below; statics = ss; words = ws })
      → (v : ℕ) → slice_index ss h.black ≡ v → paints f waits ws a b v
  paint_way f waits ws a b low high calls zero e =
      let ws' = slice_set ws (a - 2048) (brush 0 (word_at ws a) b) in
      let end : Frame = (in_call (paint_at core p) 0 ss ws' End (a ∷ b ∷ []) []).frame in (
        14,
        omega arith,
        inner_leaf subs below f waits ss ws ss ws' (paint_at core p) (a ∷ b ∷ []) (routine Function (own_number core p 5) 2 0 (paint_body h.black)) 12 4 0 End end has_paint calls
            (paints_white subs (paint_at core p) ss ws h.black a b e (here a low high)),
      )
  paint_way f waits ws a b low high calls (suc m) e =
      let ws' = slice_set ws (a - 2048) (brush (suc m) (word_at ws a) b) in
      let end : Frame = (in_call (paint_at core p) 0 ss ws' End (a ∷ b ∷ []) []).frame in (
        13,
        omega arith,
        inner_leaf subs below f waits ss ws ss ws' (paint_at core p) (a ∷ b ∷ []) (routine Function (own_number core p 5) 2 0 (paint_body h.black)) 11 4 0 End end has_paint calls
            (paints_black subs (paint_at core p) ss ws h.black a b m e (here a low high)),
      )

  -- ---- the loops of fill

  module _ (first : List ℕ) (long : length first ≡ 22528) (x1 y1 x2 y2 : ℕ) (corners : AreCorners x1 y1 x2 y2) (right : ℕ) (is_right : right ≡ 2 ^ (x2 % 16 + 1) - 1) (left : ℕ) (is_left : left ≡ word_not (2 ^ (x1 % 16) - 1)) where
    abbrev v : ℕ
    v = slice_index ss h.black

    abbrev g : ℕ
    g = fill_at core p

    abbrev paint : ℕ
    paint = paint_at core p

    abbrev w1 : ℕ
    w1 = x1 / 16

    abbrev w2 : ℕ
    w2 = x2 / 16

    -- the state of a call of fill at this text
    abbrev filling : List ℕ → Text → ℕ → ℕ → ℕ → State
    filling ws t y word pixels = over below (at_fill subs g ss ws x1 x2 y2 t y (word_place y w1) (word_place y w2) word left right pixels)

    abbrev Part : List ℕ → ℕ → ℕ → Type 0
    Part ws y w = IsColoured first (Done x1 y1 x2 y2 y w) (ink v) ws

    -- a word within a row
    one_word : (ws : List ℕ) (y w b : ℕ) → y1 ≤ y → y ≤ y2 → w < w2 → IsFrom x1 w b → Part ws y w
        → (n : ℕ) × (n ≤ 29) × (ws' : List ℕ) × Part ws' y (w + 1) × Way subs least n (filling ws (words_text paint) y (word_place y w) b) (filling ws' (words_text paint) y (word_place y (w + 1)) 65535)
    one_word ws y w b low high few mask was =
        let a = word_place y w in
        let f = word_place y w1 in
        let l = word_place y w2 in
        let begin = at_fill subs g ss ws x1 x2 y2 (words_text paint) y f l a left right b in
        let asks = at_fill subs g ss ws x1 x2 y2 (asks_paint subs g ss ws x1 x2 y2 paint left right 10 a b (behind_word paint)) y f l a left right b in
        let waits = at_fill subs g ss ws x1 x2 y2 (Next (Do 10 Open) (behind_word paint)) y f l a left right b in
        let ws' = slice_set ws (a - 2048) (brush v (word_at ws a) b) in
        let has = at_fill subs g ss ws' x1 x2 y2 (Next (Do 10 (Value 0)) (behind_word paint)) y f l a left right b in
        let end = at_fill subs g ss ws' x1 x2 y2 (words_text paint) y f l (word_place y (w + 1)) left right 65535 in
        let (n, short, way) = paint_way asks.frame waits.frame ws a b (omega arith) (omega (arith, high, corners, few)) refl v refl in
        let next : word_add a 1 ≡ word_place y (w + 1) = omega (arith, high, corners, few) in (
          7 + (n + 8),
          omega (arith, short),
          ws',
          word_done first x1 y1 x2 y2 v ws y w b (was.same_length ∙ long) low high corners.3 (omega (arith, few, corners)) (inner_mask x1 x2 w b few mask) was,
          way_then subs least 7 (n + 8) (over below begin) (over below asks) (over below end)
              (way_of_run subs below 7 begin asks (word_begins subs g ss ws x1 x2 y2 paint left right y f l a b (differs a l (omega (arith, few)))))
              (way_then subs least n 8 (over below asks) (over below has) (over below end) way (way_of_run subs below 8 has end (word_ends subs g ss ws' x1 x2 y2 paint left right y f l a b (word_place y (w + 1)) next))),
        )

    -- all words of a row but the last
    words : (m : ℕ) (ws : List ℕ) (y w b : ℕ) → w + m ≡ w2 → y1 ≤ y → y ≤ y2 → w1 ≤ w → IsFrom x1 w b → Part ws y w
        → (n : ℕ) × (n ≤ 29 * m) × (ws' : List ℕ) × Part ws' y w2 × (b' : ℕ) × IsFrom x1 w2 b' × Way subs least n (filling ws (words_text paint) y (word_place y w) b) (filling ws' (words_text paint) y (word_place y w2) b')
    words zero ws y w b e low high from mask was =
        let f : w ≡ w2 = omega (arith, e) in (
          0,
          omega arith,
          ws,
          subst (λ k. Part ws y k) f was,
          b,
          subst (λ k. IsFrom x1 k b) f mask,
          subst (λ (k : ℕ). Way subs least 0 (filling ws (words_text paint) y (word_place y w) b) (filling ws (words_text paint) y (word_place y k) b)) f
              (way_of_run subs below 0 _ _ refl),
        )
    words (suc m) ws y w b e low high from mask was =
        let (n, short, ws1, part1, way1) = one_word ws y w b low high (omega (arith, e)) mask was in
        let (k, few, ws', part, b', mask', way) = words m ws1 y (w + 1) 65535 (omega (arith, e)) low high (omega (arith, from)) (whole_mask x1 (w + 1) (omega (arith, from))) part1 in (
          n + k,
          omega (arith, short, few),
          ws',
          part,
          b',
          mask',
          way_then subs least n k (filling ws (words_text paint) y (word_place y w) b) (filling ws1 (words_text paint) y (word_place y (w + 1)) 65535) (filling ws' (words_text paint) y (word_place y w2) b') way1 way,
        )

    -- a row
    one_row : (ws : List ℕ) (y word pixels : ℕ) → y1 ≤ y → y ≤ y2 → Part ws y w1
        → (n : ℕ) × (n ≤ 1000) × (ws' : List ℕ) × Part ws' (y + 1) w1 × (word' : ℕ) × (pixels' : ℕ) × Way subs least n (filling ws (rows_text paint) y word pixels) (filling ws' (rows_text paint) (y + 1) word' pixels')
    one_row ws y word pixels low high was =
        let f = word_place y w1 in
        let l = word_place y w2 in
        let f' = word_place (y + 1) w1 in
        let l' = word_place (y + 1) w2 in
        let begin = at_fill subs g ss ws x1 x2 y2 (rows_text paint) y f l word left right pixels in
        let middle = at_fill subs g ss ws x1 x2 y2 (words_text paint) y f l f left right left in
        let count : w1 + (w2 - w1) ≡ w2 = omega (arith, corners) in
        let (n, few, ws1, part1, b, mask, way1) = words (w2 - w1) ws y w1 left count low high (omega arith) (left_mask x1 left is_left) was in
        let b' = bit_and b right in
        let at = at_fill subs g ss ws1 x1 x2 y2 (words_text paint) y f l l left right b in
        let asks = at_fill subs g ss ws1 x1 x2 y2 (asks_paint subs g ss ws1 x1 x2 y2 paint left right 13 l b' (behind_last paint)) y f l l left right b in
        let waits = at_fill subs g ss ws1 x1 x2 y2 (Next (Do 13 Open) (behind_last paint)) y f l l left right b in
        let ws' = slice_set ws1 (l - 2048) (brush v (word_at ws1 l) b') in
        let has = at_fill subs g ss ws' x1 x2 y2 (Next (Do 13 (Value 0)) (behind_last paint)) y f l l left right b in
        let end = at_fill subs g ss ws' x1 x2 y2 (rows_text paint) (y + 1) f' l' l left right b in
        let (k, short, way2) = paint_way asks.frame waits.frame ws1 l b' (omega arith) (omega (arith, high, corners)) refl v refl in
        let done = word_done first x1 y1 x2 y2 v ws1 y w2 b' (part1.same_length ∙ long) low high corners.3 (omega (arith, corners)) (last_mask x1 x2 b right is_right mask) part1 in
        let sum1 : word_add f 32 ≡ f' = omega (arith, high, corners) in
        let sum2 : word_add l 32 ≡ l' = omega (arith, high, corners) in
        let sum3 : word_add y 1 ≡ y + 1 = omega (arith, high, corners) in (
          9 + (n + (9 + (k + 13))),
          omega (arith, few, short, corners),
          ws',
          row_done first x1 y1 x2 y2 v ws' y done,
          l,
          b,
          way_then subs least 9 (n + (9 + (k + 13))) (over below begin) (over below middle) (over below end)
              (way_of_run subs below 9 begin middle (row_begins subs g ss ws x1 x2 y2 paint left right y f l word pixels (not_less y2 y high (omega (arith, corners)))))
              (way_then subs least n (9 + (k + 13)) (over below middle) (over below at) (over below end) way1
              (way_then subs least 9 (k + 13) (over below at) (over below asks) (over below end) (way_of_run subs below 9 at asks (last_begins subs g ss ws1 x1 x2 y2 paint left right y f l l b (equals l l refl)))
              (way_then subs least k 13 (over below asks) (over below has) (over below end) way2
              (way_of_run subs below 13 has end (last_ends subs g ss ws' x1 x2 y2 paint left right y f l l b f' l' (y + 1) sum1 sum2 sum3))))),
        )

    rows : (m : ℕ) (ws : List ℕ) (y word pixels : ℕ) → y + m ≡ y2 + 1 → y1 ≤ y → Part ws y w1
        → (n : ℕ) × (n ≤ 1000 * m) × (ws' : List ℕ) × Part ws' (y2 + 1) w1 × (word' : ℕ) × (pixels' : ℕ) × Way subs least n (filling ws (rows_text paint) y word pixels) (filling ws' (rows_text paint) (y2 + 1) word' pixels')
    rows zero ws y word pixels e low was =
        let f : y ≡ y2 + 1 = omega (arith, e) in (
          0,
          omega arith,
          ws,
          subst (λ k. Part ws k w1) f was,
          word,
          pixels,
          subst (λ (k : ℕ). Way subs least 0 (filling ws (rows_text paint) y word pixels) (filling ws (rows_text paint) k word pixels)) f (way_of_run subs below 0 _ _ refl),
        )
    rows (suc m) ws y word pixels e low was =
        let (n, short, ws1, part1, word1, pixels1, way1) = one_row ws y word pixels low (omega (arith, e)) was in
        let (k, few, ws', part, word', pixels', way) = rows m ws1 (y + 1) word1 pixels1 (omega (arith, e)) (omega (arith, low)) part1 in (
          n + k,
          omega (arith, short, few),
          ws',
          part,
          word',
          pixels',
          way_then subs least n k (filling ws (rows_text paint) y word pixels) (filling ws1 (rows_text paint) (y + 1) word1 pixels1) (filling ws' (rows_text paint) (y2 + 1) word' pixels') way1 way,
        )

    -- from the loop on
    all_rows : (n : ℕ) × (n ≤ 6 + 1000 * (y2 + 1 - y1)) × (ws : List ℕ) × IsColoured first (InRectangle x1 y1 x2 y2) (ink v) ws × (end : Frame)
        × Way subs least n (filling first (rows_text paint) y1 0 0) (record { frames = record end { text = returns_value 17 0 End } ∷ below; statics = ss; words = ws })
    all_rows =
        let (n, few, ws, part, word, pixels, way) = rows (y2 + 1 - y1) first y1 0 0 (omega (arith, corners)) (omega arith) (none_done first x1 y1 x2 y2 v) in
        let at = at_fill subs g ss ws x1 x2 y2 (rows_text paint) (y2 + 1) (word_place (y2 + 1) w1) (word_place (y2 + 1) w2) word left right pixels in
        let last = at_fill subs g ss ws x1 x2 y2 (returns_value 17 0 End) (y2 + 1) (word_place (y2 + 1) w1) (word_place (y2 + 1) w2) word left right pixels in (
          n + 6,
          omega (arith, few),
          ws,
          all_done first x1 y1 x2 y2 v ws w1 part,
          last.frame,
          way_then subs least n 6 (filling first (rows_text paint) y1 0 0) (over below at) (over below last) way
              (way_of_run subs below 6 at last (rows_end subs g ss ws x1 x2 y2 paint left right (y2 + 1) (word_place (y2 + 1) w1) (word_place (y2 + 1) w2) word pixels (less y2 (y2 + 1) (omega arith) (omega (arith, corners))))),
        )

  -- ---- fill, from its own frame to its return

  abbrev at_begin : List ℕ → ℕ → ℕ → ℕ → ℕ → Call
  at_begin ws x1 y1 x2 y2 = at_fill subs (fill_at core p) ss ws x1 x2 y2 (fill_body (place_at core p) (bit_at core p) (paint_at core p)) y1 0 0 0 0 0 0

  fill_run : (ws : List ℕ) (x1 y1 x2 y2 : ℕ) → AreCorners x1 y1 x2 y2 → length ws ≡ 22528
      → (n : ℕ) × (n ≤ 600 + 1000 * (y2 + 1 - y1)) × (ws' : List ℕ) × IsColoured ws (InRectangle x1 y1 x2 y2) (ink (slice_index ss h.black)) ws' × (end : Frame)
      × Way subs least n (over below (at_begin ws x1 y1 x2 y2)) (record { frames = record end { text = returns_value 17 0 End } ∷ below; statics = ss; words = ws' })
  fill_run ws x1 y1 x2 y2 corners long =
      let g = fill_at core p in
      let place = place_at core p in
      let bit = bit_at core p in
      let paint = paint_at core p in
      let f = word_place y1 (x1 / 16) in
      let l = word_place y1 (x2 / 16) in
      let b1 = 2 ^ (x1 % 16) in
      let b2 = 2 ^ (x2 % 16) in
      let low1 : x1 % 16 < 16 = omega arith in
      let low2 : x2 % 16 < 16 = omega arith in
      let some1 = pow_pos (x1 % 16) in
      let some2 = pow_pos (x2 % 16) in
      let few1 = pow_below (x1 % 16) 16 low1 in
      let half : b2 ≤ 32768 = half_word (x2 % 16) low2 in
      let left = word_not (b1 - 1) in
      let right = 2 ^ (x2 % 16 + 1) - 1 in
      let twice : 2 ^ (x2 % 16 + 1) ≡ 2 * b2 = one_more_power (x2 % 16) in
      let is_left : word_neg b1 ≡ left = omega (arith, some1, few1) in
      let is_right : word_sub (word_add b2 b2) 1 ≡ right = omega (arith, some2, half, twice) in
      let at : Text → ℕ → ℕ → ℕ → ℕ → Call = λ t a b c d. at_fill subs g ss ws x1 x2 y2 t y1 a b 0 c d 0 in
      let a0 = at_begin ws x1 y1 x2 y2 in
      let a1 = at (asks_place subs g ss ws x1 x2 y2 place bit paint y1 1 0 x1 (from_last place bit paint)) 0 0 0 0 in
      let v1 = at (Next (Let 1 (Local 0) Open) (from_last place bit paint)) 0 0 0 0 in
      let c1 = at (has_value subs g ss ws x1 x2 y2 place bit paint y1 1 0 f (from_last place bit paint)) 0 0 0 0 in
      let a2 = at (asks_place subs g ss ws x1 x2 y2 place bit paint y1 2 1 x2 (from_left bit paint)) f 0 0 0 in
      let v2 = at (Next (Let 2 (Local 1) Open) (from_left bit paint)) f 0 0 0 in
      let c2 = at (has_value subs g ss ws x1 x2 y2 place bit paint y1 2 1 l (from_left bit paint)) f 0 0 0 in
      let a3 = at (asks_left subs g ss ws x1 x2 y2 place bit paint y1) f l 0 0 in
      let v3 = at (Next (Let 3 (Local 3) (Unary Minus Open)) (from_right bit paint)) f l 0 0 in
      let c3 = at (has_left subs g ss ws x1 x2 y2 place bit paint y1 b1) f l 0 0 in
      let a4 = at (asks_right subs g ss ws x1 x2 y2 place bit paint y1) f l left 0 in
      let v4 = at (Next (Let 4 (Local 4) Open) (doubling paint)) f l left 0 in
      let c4 = at (has_value subs g ss ws x1 x2 y2 place bit paint y1 4 4 b2 (doubling paint)) f l left 0 in
      let a5 = at (rows_text paint) f l left right in
      let (n1, s1, way1) = place_way a1.frame v1.frame ws x1 y1 (omega (arith, corners)) (omega (arith, corners)) refl in
      let (n2, s2, way2) = place_way a2.frame v2.frame ws x2 y1 (omega (arith, corners)) (omega (arith, corners)) refl in
      let (n3, s3, way3) = bit_way a3.frame v3.frame ws x1 refl in
      let (n4, s4, way4) = bit_way a4.frame v4.frame ws x2 refl in
      let (n5, s5, ws', is, end, way5) = all_rows ws long x1 y1 x2 y2 corners right refl left refl in
      let last : State = record { frames = record end { text = returns_value 17 0 End } ∷ below; statics = ss; words = ws' } in
      let m4 = n4 + (7 + n5) in
      let m3 = n3 + (3 + m4) in
      let m2 = n2 + (2 + m3) in
      let m1 = n1 + (3 + m2) in (
        2 + m1,
        omega (arith, s1, s2, s3, s4, s5),
        ws',
        is,
        end,
        way_then subs least 2 m1 (over below a0) (over below a1) last (way_of_run subs below 2 a0 a1 (fill_begins subs g ss ws x1 x2 y2 place bit paint y1))
            (way_then subs least n1 (3 + m2) (over below a1) (over below c1) last way1
            (way_then subs least 3 m2 (over below c1) (over below a2) last (way_of_run subs below 3 c1 a2 (first_placed subs g ss ws x1 x2 y2 place bit paint y1 f))
            (way_then subs least n2 (2 + m3) (over below a2) (over below c2) last way2
            (way_then subs least 2 m3 (over below c2) (over below a3) last (way_of_run subs below 2 c2 a3 (last_placed subs g ss ws x1 x2 y2 place bit paint y1 f l))
            (way_then subs least n3 (3 + m4) (over below a3) (over below c3) last way3
            (way_then subs least 3 m4 (over below c3) (over below a4) last (way_of_run subs below 3 c3 a4 (left_set subs g ss ws x1 x2 y2 place bit paint y1 f l b1 left is_left))
            (way_then subs least n4 (7 + n5) (over below a4) (over below c4) last way4
            (way_then subs least 7 n5 (over below c4) (over below a5) last (way_of_run subs below 7 c4 a5 (right_set subs g ss ws x1 x2 y2 place bit paint y1 f l left b2 (word_add b2 b2) right refl is_right)) way5)))))))),
      )
    where
      one_more_power : (k : ℕ) → 2 ^ (k + 1) ≡ 2 * 2 ^ k
      one_more_power k = ap (λ z. 2 ^ z) (let e : k + 1 ≡ suc k = omega arith in e) ∙ (let e : 2 ^ suc k ≡ 2 * 2 ^ k = omega arith in e)

      half_word : (k : ℕ) → k < 16 → 2 ^ k ≤ 32768
      half_word k low = ⊎_elim (λ (l : k < 15). let m = pow_below k 15 l in omega (arith, m)) (λ (g : 15 ≤ k). let e : k ≡ 15 = omega (arith, g, low) in let f : 2 ^ k ≡ 32768 = ap (λ z. 2 ^ z) e in omega (arith, f)) (cases_lt k 15)

-- ---- a call of fill within a call

module _ {core : Core} (p : IsShipped core) (h : HasStatics p) (below : List Frame) (ss : List ℕ) where
  pub fill_way : (f waits : Frame) (ws : List ℕ) (x1 y1 x2 y2 : ℕ) → AreCorners x1 y1 x2 y2 → length ws ≡ 22528
      → step (the_subroutines core) 0 (record { frames = f ∷ below; statics = ss; words = ws })
      ≡ Acts false (record { frames = new_frame (the_subroutines core) (fill_at core p) (x1 ∷ y1 ∷ x2 ∷ y2 ∷ []) ∷ waits ∷ below; statics = ss; words = ws })
      → (n : ℕ) × (n ≤ 602 + 1000 * (y2 + 1 - y1)) × (ws' : List ℕ) × IsColoured ws (InRectangle x1 y1 x2 y2) (ink (slice_index ss h.black)) ws'
      × Way (the_subroutines core) (suc (length below)) n (record { frames = f ∷ below; statics = ss; words = ws })
      (record { frames = record waits { text = filled_text 0 waits.text } ∷ below; statics = ss; words = ws' })
  fill_way f waits ws x1 y1 x2 y2 corners long calls =
      let subs = the_subroutines core in
      let g = fill_at core p in
      let values = x1 ∷ y1 ∷ x2 ∷ y2 ∷ [] in
      let s1 : State = record { frames = f ∷ below; statics = ss; words = ws } in
      let c1 : NextCall subs s1 g values = record { top = f; caller = waits; below = below; frames = refl; calls = calls } in
      let under : List Frame = waits ∷ below in
      let (n, few, ws', is, end, way) = fill_run p h under ss ws x1 y1 x2 y2 corners long in
      let begin : Call = at_begin p h under ss ws x1 y1 x2 y2 in
      let start : opened subs s1 g values c1 ≡ over under begin = ap (λ (z : Frame). record { frames = z ∷ under; statics = ss; words = ws }) (enters subs g _ values (is_fill core p)) in
      let last : State = record { frames = record end { text = returns_value 17 0 End } ∷ under; statics = ss; words = ws' } in
      let whole = subst (λ (z : State). Way subs (suc (length under)) n z last) (sym start) way in
      let back = returns_by subs s1 g values c1 n end ss ws' 17 0 End whole in
      (suc (suc n), omega (arith, few), ws', is, way_of_call subs (suc (length below)) (suc (suc n)) s1 (record { frames = record waits { text = filled_text 0 waits.text } ∷ below; statics = ss; words = ws' }) (omega arith) back)

-- ---- drawRectangle

pub ink_is : (v : ℕ) → ink v ≡ (if nat_eq v 0 then 0 else 1)
ink_is zero = refl
ink_is (suc m) = let e : nat_eq (suc m) 0 ≡ false = grind (arith, nat_tests) in sym (ap (λ b. if b then 0 else 1) e)

module _ {core : Core} (p : IsShipped core) (s : State) where
  pub rectangle_law : RectangleLaw p s
  rectangle_law h x1 y1 x2 y2 corners long c =
      let subs = the_subroutines core in
      let g = routine_number p (codes "Screen") (codes "drawRectangle") in
      let ss = s.statics in
      let ws = s.words in
      let fill = fill_at core p in
      let values = x1 ∷ y1 ∷ x2 ∷ y2 ∷ [] in
      let below : List Frame = c.caller ∷ c.below in
      let d = suc (length below) in
      let first = opened subs s g values c in
      let asks = at_rectangle subs g ss ws x1 y1 x2 y2 (asks_fill subs g ss ws x1 y1 x2 y2 fill) in
      let waits = at_rectangle subs g ss ws x1 y1 x2 y2 (Next (Do 3 Open) (rectangle_end subs g ss ws x1 y1 x2 y2)) in
      let columns : bit_and (bit_or x1 x2) 65024 ≡ 0 = in_columns (bit_or x1 x2) (or_lt 9 x1 x2 (omega (arith, corners)) (omega (arith, corners))) in
      let lines : bit_and (bit_or y1 y2) 65280 ≡ 0 = in_rows (bit_or y1 y2) (or_lt 8 y1 y2 (omega (arith, corners)) (omega (arith, corners))) in
      let begins : Way subs d 26 first (over below asks) =
      way_of_run subs below 26 (record { frame = new_frame subs g values; statics = ss; words = ws }) asks
      (ap (λ (z : Frame). run subs 26 (record { frame = z; statics = ss; words = ws })) (enters subs g _ values (is_rectangle core p))
      ∙ to_fill subs g ss ws x1 y1 x2 y2 (system_error p) fill columns lines (not_less x2 x1 corners.0 (omega (arith, corners))) (not_less y2 y1 corners.2 (omega (arith, corners)))) in
      let (n, few, ws', is, way) = fill_way p h below ss asks.frame waits.frame ws x1 y1 x2 y2 corners long refl in
      let has = at_rectangle subs g ss ws' x1 y1 x2 y2 (Next (Do 3 (Value 0)) (rectangle_end subs g ss ws' x1 y1 x2 y2)) in
      let last = at_rectangle subs g ss ws' x1 y1 x2 y2 (returns_value 4 0 End) in
      let ends : Way subs d 2 (over below has) (over below last) = way_of_run subs below 2 has last (fill_passed subs g ss ws' x1 y1 x2 y2) in
      let whole = way_then subs d 26 (n + 2) first (over below asks) (over below last) begins (way_then subs d n 2 (over below asks) (over below has) (over below last) way ends) in (
        ws',
        subst (λ (k : ℕ). IsColoured ws (InRectangle x1 y1 x2 y2) k ws') (ink_is (slice_index ss h.black)) is,
        (suc (suc (26 + (n + 2))), omega (arith, few), returns_by subs s g values c (26 + (n + 2)) (at_rectangle subs g ss ws' x1 y1 x2 y2 End).frame ss ws' 4 0 End whole),
      )

  pub rectangle_error_law : RectangleErrorLaw p s
  rectangle_error_law x1 y1 x2 y2 a1 b1 a2 b2 none c =
      let subs = the_subroutines core in
      let g = routine_number p (codes "Screen") (codes "drawRectangle") in
      let fill = fill_at core p in
      let error = system_error p in
      let a = bit_and (bit_or x1 x2) 65024 in
      let b = bit_and (bit_or y1 y2) 65280 in
      let i = word_gt x1 x2 in
      let j = word_gt y1 y2 in
      let from_a : 0 < a → 0 < bit_or (bit_or (bit_or a b) i) j = λ l. let k1 = le_or_l a b in let k2 = le_or_l (bit_or a b) i in let k3 = le_or_l (bit_or (bit_or a b) i) j in omega (arith, l, k1, k2, k3) in
      let from_b : 0 < b → 0 < bit_or (bit_or (bit_or a b) i) j = λ l. let k1 = le_or_r a b in let k2 = le_or_l (bit_or a b) i in let k3 = le_or_l (bit_or (bit_or a b) i) j in omega (arith, l, k1, k2, k3) in
      let from_i : i ≡ 65535 → 0 < bit_or (bit_or (bit_or a b) i) j = λ l. let k2 = le_or_r (bit_or a b) i in let k3 = le_or_l (bit_or (bit_or a b) i) j in omega (arith, l, k2, k3) in
      let from_j : j ≡ 65535 → 0 < bit_or (bit_or (bit_or a b) i) j = λ l. let k3 = le_or_r (bit_or (bit_or a b) i) j in omega (arith, l, k3) in
      let wide : 512 ≤ bit_or x1 x2 → 0 < a = λ l. off_columns (bit_or x1 x2) l (or_lt 16 x1 x2 a1 a2) in
      let high : 256 ≤ bit_or y1 y2 → 0 < b = λ l. off_rows (bit_or y1 y2) l (or_lt 16 y1 y2 b1 b2) in
      let some : 0 < bit_or (bit_or (bit_or a b) i) j =
      ⊎_elim
      (λ (l1 : x1 < 512).
      ⊎_elim
      (λ (l2 : x2 < 512).
      ⊎_elim
      (λ (m1 : y1 < 256).
      ⊎_elim
      (λ (m2 : y2 < 256).
      ⊎_elim (λ (o : x2 < x1). from_i (less x2 x1 o (omega (arith, l1))))
      (λ (k : x1 ≤ x2). ⊎_elim (λ (o : y2 < y1). from_j (less y2 y1 o (omega (arith, m1)))) (λ (q : y1 ≤ y2). absurd (none (k, l2, q, m2))) (cases_lt y2 y1)) (cases_lt x2 x1))
      (λ (m2 : 256 ≤ y2). from_b (high (let k = le_or_r y1 y2 in omega (arith, m2, k))))
      (cases_lt y2 256))
      (λ (m1 : 256 ≤ y1). from_b (high (let k = le_or_l y1 y2 in omega (arith, m1, k))))
      (cases_lt y1 256))
      (λ (l2 : 512 ≤ x2). from_a (wide (let k = le_or_r x1 x2 in omega (arith, l2, k))))
      (cases_lt x2 512))
      (λ (l1 : 512 ≤ x1). from_a (wide (let k = le_or_l x1 x2 in omega (arith, l1, k))))
      (cases_lt x1 512) in
      let (m, off) = one_more (bit_or (bit_or (bit_or a b) i) j) some in
      refuses_by p s (codes "Screen") (codes "drawRectangle") (x1 ∷ y1 ∷ x2 ∷ y2 ∷ []) c 23 25 (omega arith) _ (is_rectangle core p) error (is_error core p) 0 9 (tail (rectangle_body error fill)) (x1 ∷ y1 ∷ x2 ∷ y2 ∷ []) []
      (to_error subs g s.statics s.words x1 y1 x2 y2 error fill a b i j m refl refl refl refl off)
