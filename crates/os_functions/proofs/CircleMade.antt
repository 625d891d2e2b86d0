-- A circle drawn: row after row, by calls of fill within a call.
use Rattle.std.proofs.Common.{◌≡◌, ◌⊎◌, inl, inr, ⊎_elim, ℕ, zero, suc, ◌+◌, ◌-◌, ◌*◌, ◌<◌, ◌≤◌, bit_and, bit_or, List, [], ◌∷◌, length, Some, codes, refl, sym, ap, ◌∙◌, subst, arith}
use Rattle.std.specs.Prelude.{slice_index}
use Rattle.std.proofs.lemmas.Bool.{cases_lt}
use Rattle.std.proofs.lemmas.Nat.{or_lt, le_or_l, le_or_r}
use Rattle.word16.specs.Words.{word_add, word_sub, word_lt}
use Rattle.jack_core.specs.declared.program.Core.{Core}
use Rattle.jack_core.specs.Texts.{the_subroutines}
use Rattle.jack_meaning.specs.Text.{Value, Open, Call as Calling, More, NoMore, Do, Text, End, Next, Function, Subroutine}
use Rattle.jack_meaning.specs.Meaning.{Frame, State, subroutine_at, new_frame}
use Rattle.os_laws.specs.Calls.{ComesToCall}
use Rattle.os_laws.specs.Names.{IsShipped}
use Rattle.os_laws.proofs.Basics.{enters}
use Rattle.os_laws.proofs.Comparing.{less, not_less, negative, not_negative}
use Rattle.os_laws.proofs.Runs.{Call, over, run, run_then}
use Rattle.os_functions.specs.Calls.{routine_number, HasStatics}
use Rattle.os_functions.specs.CircleLaws.{IsCircle, InCircle, CircleLaw, CentreErrorLaw, CircleErrorLaw, CircleLaws}
use Rattle.os_functions.specs.RectangleLaws.{AreCorners, InRectangle, IsColoured}
use Rattle.os_functions.proofs.CircleFacts.{more_points, IsHalf, Left, is_some, is_short, raise_left, narrow_left, short_word, some_word, square_up, Rows, first_row, of_first_row, Upper, upper_row, of_upper, lower_row, upper_in, of_lower, all_rows}
use Rattle.os_functions.proofs.CircleRuns.{at_circle, to_second, to_centre_error, to_third, refused, to_circle_error, to_middle, filled, to_raise, raised, circle_ends, to_narrow, narrowed, to_upper, to_lower}
use Rattle.os_functions.proofs.CircleTexts.{narrows, raises, circle_loop, behind_upper, deep_loop, third, second, circle_body, asks_fill}
use Rattle.os_functions.proofs.FillFacts.{ink}
use Rattle.os_functions.proofs.FillMade.{fill_at, fill_way, ink_is}
use Rattle.os_functions.proofs.Named.{leads, is_error, system_error, own_number}
use Rattle.os_functions.proofs.Pieces.{tail, returns_value, refuses_by}
use Rattle.os_functions.proofs.PixelFacts.{in_columns, in_rows, off_columns, off_rows, one_more}
use Rattle.os_functions.proofs.Texts.{routine}
use Rattle.os_functions.proofs.Ways.{Way, way_then, way_of_run, opened, returns_by, comes_to}

module _ {core : Core} (p : IsShipped core) where
  abbrev g : ℕ
  g = routine_number p (codes "Screen") (codes "drawCircle")

  abbrev text : Text
  text = circle_body (system_error p) (fill_at core p)

  is_circle : subroutine_at (the_subroutines core) g ≡ routine Function (own_number core p 5) 3 3 text
  is_circle = leads core p 5 6 (refl, refl)

module _ {core : Core} (p : IsShipped core) (h : HasStatics p) (below : List Frame) (ss first : List ℕ) (long : length first ≡ 22528) (x y r : ℕ) (circle : IsCircle x y r) where
  abbrev subs : List Subroutine
  subs = the_subroutines core

  abbrev least : ℕ
  least = suc (length below)

  abbrev fill : ℕ
  fill = fill_at core p

  abbrev v : ℕ
  v = slice_index ss h.black

  abbrev at : List ℕ → Text → ℕ → ℕ → ℕ → Call
  at ws t e w d = at_circle subs (g p) ss ws x y r t e w d

  abbrev Part : List ℕ → ℕ → Type 0
  Part ws k = IsColoured first (Rows x y r circle k) (ink v) ws

  few_r : r ≤ 127
  few_r = omega (arith, circle)

  -- ---- a call of fill with a row

  row_way : (n e w d row : ℕ) (t : Text) (ws : List ℕ) → w ≤ r → row < 256 → length ws ≡ 22528
      → (k : ℕ) × (k ≤ 1602) × (ws' : List ℕ) × IsColoured ws (InRectangle (x - w) row (x + w) row) (ink v) ws'
      × Way subs least k (over below (at ws (asks_fill n fill (x - w) row (x + w) row t) e w d)) (over below (at ws' (Next (Do n (Value 0)) t) e w d))
  row_way n e w d row t ws hw hrow is_long =
      let corners : AreCorners (x - w) row (x + w) row = (omega arith, omega (arith, circle, hw), omega arith, hrow) in
      let (k, few, ws', is, way) =
      fill_way p h below ss (at ws (asks_fill n fill (x - w) row (x + w) row t) e w d).frame (at ws (Next (Do n Open) t) e w d).frame ws (x - w) row (x + w) row corners is_long refl in
      (k, omega (arith, few), ws', is, way)

  -- ---- the width of a row

  record IsWide (e w d : ℕ) : Type 0 where
    narrow : w ≤ r
    most : r * r < (w + 1) * (w + 1) + e * e
    left : Left r e w d

  abbrev Narrows : ℕ → List ℕ → ℕ → ℕ → ℕ → Type 0
  Narrows w ws e w' d =
      (w'' : ℕ) × (w'' ≤ w') × (d' : ℕ) × IsHalf r e w'' × (d' ≡ r * r - (w'' * w'' + e * e)) × (n : ℕ) × (n + 16 * w'' ≤ 16 * w') × Way subs least n (over below (at ws (deep_loop fill) e w' d)) (over below (at ws (deep_loop fill) e w'' d'))

  stays : (w : ℕ) (ws : List ℕ) (e d : ℕ) → r * r < (w + 1) * (w + 1) + e * e → w * w + e * e ≤ r * r → d ≡ r * r - (w * w + e * e) → Narrows w ws e w d
  stays w ws e d most l k = (w, omega arith, d, record { fits = l; most = most }, k, 0, omega arith, way_of_run subs below 0 (at ws (deep_loop fill) e w d) (at ws (deep_loop fill) e w d) refl)

  narrowing : (w : ℕ) (ws : List ℕ) (e d : ℕ) → e ≤ r → IsWide e w d → Narrows w ws e w d
  narrowing zero ws e d he wide =
      elim wide.left [
        | is_some l k ↦ stays zero ws e d wide.most l k
        | is_short l k ↦ let t = square_up e r he in absurd (omega (arith, l, t))
      ]
  narrowing (suc w) ws e d he wide =
      elim wide.left [
        | is_some l k ↦ stays (suc w) ws e d wide.most l k
        | is_short l k ↦
            let fr = few_r in
            let hw = wide.narrow in
            let hw' : w + 1 ≤ r = omega (arith, hw) in
            let same : suc w ≡ w + 1 = omega arith in
            let l' : r * r < (w + 1) * (w + 1) + e * e = omega (arith, l) in
            let k' : d ≡ 65536 - ((w + 1) * (w + 1) + e * e - r * r) = k ∙ ap (λ n. 65536 - (n * n + e * e - r * r)) same in
            let deep = (short_word r e (suc w) d fr he hw l k).0 in
            let low : word_lt d 0 ≡ 65535 = negative d deep in
            let less_one : word_sub (suc w) 1 ≡ w = omega (arith, hw, fr) in
            let d' = word_add (word_add (word_add d w) w) 1 in
            let wide' : IsWide e w d' = record { narrow = omega (arith, hw); most = l'; left = narrow_left r e w d fr he hw' l' k' } in
            let (w'', lw, d'', half, is, n, few, way) = narrowing w ws e d' he wide' in
            let a0 = at ws (deep_loop fill) e (suc w) d in
            let a1 = at ws (narrows (deep_loop fill)) e (suc w) d in
            let a2 = at ws (deep_loop fill) e w d' in
            let last = at ws (deep_loop fill) e w'' d'' in
            let counted : run subs 12 a1 ≡ Some a2 =
            narrowed subs (g p) ss ws x y r fill e (suc w) d ∙ ap (λ (z : ℕ). Some (at ws (deep_loop fill) e z (word_add (word_add (word_add d z) z) 1))) less_one in (
              w'',
              omega (arith, lw),
              d'',
              half,
              is,
              4 + (12 + n),
              omega (arith, few),
              way_then subs least 4 (12 + n) (over below a0) (over below a1) (over below last) (way_of_run subs below 4 a0 a1 (to_narrow subs (g p) ss ws x y r fill e (suc w) d low))
                  (way_then subs least 12 n (over below a1) (over below a2) (over below last) (way_of_run subs below 12 a1 a2 counted) way),
            )
      ]

  -- ---- two rows

  abbrev Goes : List ℕ → ℕ → ℕ → ℕ → Type 0
  Goes ws e w d =
      (w' : ℕ) × (w' ≤ w) × (d' : ℕ) × IsHalf r (e + 1) w' × (d' ≡ r * r - (w' * w' + (e + 1) * (e + 1))) × (ws' : List ℕ) × Part ws' (e + 1)
      × (n : ℕ) × (n + 16 * w' ≤ 3250 + 16 * w) × Way subs least n (over below (at ws (circle_loop fill) e w d)) (over below (at ws' (circle_loop fill) (e + 1) w' d'))

  two_rows : (ws : List ℕ) (e w d : ℕ) → e < r → w ≤ r → IsHalf r e w → d ≡ r * r - (w * w + e * e) → Part ws e → Goes ws e w d
  two_rows ws e w d he hw half is_d was =
      let fr = few_r in
      let next : word_add e 1 ≡ e + 1 = omega (arith, he, fr) in
      let d1 = word_add (word_sub (word_sub d (e + 1)) (e + 1)) 1 in
      let grows = square_up e (e + 1) (omega arith) in
      let above = half.most in
      let wide : IsWide (e + 1) w d1 = record { narrow = hw; most = omega (arith, above, grows); left = raise_left r e w d fr he hw half.fits is_d } in
      let (w', lw, d', half', is_d', n1, s1, way1) = narrowing w ws (e + 1) d1 (omega (arith, he)) wide in
      let hw' : w' ≤ r = omega (arith, lw, hw) in
      let shallow : word_lt d' 0 ≡ 0 = not_negative d' (some_word r (e + 1) w' d' fr is_d') in
      let x_low : word_sub x w' ≡ x - w' = omega (arith, circle, hw') in
      let x_high : word_add x w' ≡ x + w' = omega (arith, circle, hw') in
      let y_low : word_sub y (e + 1) ≡ y - (e + 1) = omega (arith, circle, he) in
      let y_high : word_add y (e + 1) ≡ y + (e + 1) = omega (arith, circle, he) in
      let long0 = was.same_length ∙ long in
      let (n2, s2, ws1, is1, way2) = row_way 13 (e + 1) w' d' (y - (e + 1)) (behind_upper fill) ws hw' (omega (arith, circle)) long0 in
      let part1 = more_points first ws ws1 (ink v) (x - w') (y - (e + 1)) (x + w') (y - (e + 1)) (Rows x y r circle e) (Upper x y r circle e w' half' he hw') was is1 (of_upper x y r circle e w' half' he hw') (λ a b q. (q.0, inl q.1)) (λ a b ha hb i. upper_row x y r circle e w' half' he hw' a b i) in
      let (n3, s3, ws2, is2, way3) = row_way 14 (e + 1) w' d' (y + (e + 1)) (circle_loop fill) ws1 hw' (omega (arith, circle, he)) (part1.same_length ∙ long) in
      let part2 = more_points first ws1 ws2 (ink v) (x - w') (y + (e + 1)) (x + w') (y + (e + 1)) (Upper x y r circle e w' half' he hw') (Rows x y r circle (e + 1)) part1 is2 (of_lower x y r circle e w' half' he hw') (upper_in x y r circle e w' half' he hw') (λ a b ha hb i. lower_row x y r circle e w' half' he hw' a b i) in
      let a0 = at ws (circle_loop fill) e w d in
      let a1 = at ws (raises (deep_loop fill)) e w d in
      let a2 = at ws (deep_loop fill) (e + 1) w d1 in
      let a3 = at ws (deep_loop fill) (e + 1) w' d' in
      let a4 = at ws (asks_fill 13 fill (x - w') (y - (e + 1)) (x + w') (y - (e + 1)) (behind_upper fill)) (e + 1) w' d' in
      let a5 = at ws1 (Next (Do 13 (Value 0)) (behind_upper fill)) (e + 1) w' d' in
      let a6 = at ws1 (asks_fill 14 fill (x - w') (y + (e + 1)) (x + w') (y + (e + 1)) (circle_loop fill)) (e + 1) w' d' in
      let a7 = at ws2 (Next (Do 14 (Value 0)) (circle_loop fill)) (e + 1) w' d' in
      let a8 = at ws2 (circle_loop fill) (e + 1) w' d' in
      let up : run subs 12 a1 ≡ Some a2 = raised subs (g p) ss ws x y r fill e w d ∙ ap (λ (z : ℕ). Some (at ws (deep_loop fill) z w (word_add (word_sub (word_sub d z) z) 1))) next in
      let asks1 : run subs 16 a3 ≡ Some a4 =
      to_upper subs (g p) ss ws x y r fill (e + 1) w' d' shallow
      ∙ ap (λ (z : ℕ). Some (at ws (asks_fill 13 fill z (word_sub y (e + 1)) (word_add x w') (word_sub y (e + 1)) (behind_upper fill)) (e + 1) w' d')) x_low
      ∙ ap (λ (z : ℕ). Some (at ws (asks_fill 13 fill (x - w') (word_sub y (e + 1)) z (word_sub y (e + 1)) (behind_upper fill)) (e + 1) w' d')) x_high
      ∙ ap (λ (z : ℕ). Some (at ws (asks_fill 13 fill (x - w') z (x + w') z (behind_upper fill)) (e + 1) w' d')) y_low in
      let asks2 : run subs 13 a5 ≡ Some a6 =
      to_lower subs (g p) ss ws1 x y r fill (e + 1) w' d'
      ∙ ap (λ (z : ℕ). Some (at ws1 (asks_fill 14 fill z (word_add y (e + 1)) (word_add x w') (word_add y (e + 1)) (circle_loop fill)) (e + 1) w' d')) x_low
      ∙ ap (λ (z : ℕ). Some (at ws1 (asks_fill 14 fill (x - w') (word_add y (e + 1)) z (word_add y (e + 1)) (circle_loop fill)) (e + 1) w' d')) x_high
      ∙ ap (λ (z : ℕ). Some (at ws1 (asks_fill 14 fill (x - w') z (x + w') z (circle_loop fill)) (e + 1) w' d')) y_high in
      let m6 = n3 + 1 in
      let m5 = 13 + m6 in
      let m4 = n2 + m5 in
      let m3 = 16 + m4 in
      let m2 = n1 + m3 in
      let m1 = 12 + m2 in (
        w',
        lw,
        d',
        half',
        is_d',
        ws2,
        part2,
        4 + m1,
        omega (arith, s1, s2, s3),
        way_then subs least 4 m1 (over below a0) (over below a1) (over below a8) (way_of_run subs below 4 a0 a1 (to_raise subs (g p) ss ws x y r fill e w d (less e r he (omega (arith, fr)))))
            (way_then subs least 12 m2 (over below a1) (over below a2) (over below a8) (way_of_run subs below 12 a1 a2 up)
            (way_then subs least n1 m3 (over below a2) (over below a3) (over below a8) way1
            (way_then subs least 16 m4 (over below a3) (over below a4) (over below a8) (way_of_run subs below 16 a3 a4 asks1)
            (way_then subs least n2 m5 (over below a4) (over below a5) (over below a8) way2
            (way_then subs least 13 m6 (over below a5) (over below a6) (over below a8) (way_of_run subs below 13 a5 a6 asks2)
            (way_then subs least n3 1 (over below a6) (over below a7) (over below a8) way3 (way_of_run subs below 1 a7 a8 (filled subs (g p) ss ws2 x y r fill 14 (e + 1) w' d' (circle_loop fill))))))))),
      )

  abbrev Ends : ℕ → Call → Type 0
  Ends most from = (n : ℕ) × (n ≤ most) × (ws : List ℕ) × Part ws r × (end : Frame) × Way subs least n (over below from) (record { frames = record end { text = returns_value 15 0 End } ∷ below; statics = ss; words = ws })

  all_turns : (m : ℕ) (ws : List ℕ) (e w d : ℕ) → e + m ≡ r → w ≤ r → IsHalf r e w → d ≡ r * r - (w * w + e * e) → Part ws e → Ends (5 + 3250 * m + 16 * w) (at ws (circle_loop fill) e w d)
  all_turns zero ws e w d is hw half is_d was =
      let fr = few_r in
      let same : e ≡ r = omega (arith, is) in
      let last = at ws (returns_value 15 0 End) e w d in
      (5, omega arith, ws, subst (λ k. Part ws k) same was, last.frame, way_of_run subs below 5 (at ws (circle_loop fill) e w d) last (circle_ends subs (g p) ss ws x y r fill e w d (not_less e r (omega (arith, same)) (omega (arith, same, fr)))))
  all_turns (suc m) ws e w d is hw half is_d was =
      let (w', lw, d', half', is_d', ws', part, n1, s1, way1) = two_rows ws e w d (omega (arith, is)) hw half is_d was in
      let (n2, s2, ws2, all, end, way2) = all_turns m ws' (e + 1) w' d' (omega (arith, is)) (omega (arith, lw, hw)) half' is_d' part in
      let last : State = record { frames = record end { text = returns_value 15 0 End } ∷ below; statics = ss; words = ws2 } in
      (n1 + n2, omega (arith, s1, s2), ws2, all, end, way_then subs least n1 n2 (over below (at ws (circle_loop fill) e w d)) (over below (at ws' (circle_loop fill) (e + 1) w' d')) last way1 way2)

  -- ---- after the tests

  start_points : (ws : List ℕ) → IsColoured first (InRectangle (x - r) y (x + r) y) (ink v) ws → Part ws 0
  start_points ws was = record {
    same_length = was.same_length;
    inside = λ a b ha hb q. was.inside a b ha hb (of_first_row x y r circle a b q);
    others = λ a b ha hb n. was.others a b ha hb (λ i. n (first_row x y r circle a b i));
    each = was.each;
    heap = was.heap;
  }

  end_points : (ws : List ℕ) → Part ws r → IsColoured first (InCircle x y r) (ink v) ws
  end_points ws was = record {
    same_length = was.same_length;
    inside = λ a b ha hb i. was.inside a b ha hb (all_rows x y r circle a b i);
    others = λ a b ha hb n. was.others a b ha hb (λ q. n q.0);
    each = was.each;
    heap = was.heap;
  }

  pub from_third : (n : ℕ) × (n ≤ 1618 + 3266 * r) × (ws : List ℕ) × IsColoured first (InCircle x y r) (ink v) ws × (end : Frame)
      × Way subs least n (over below (at first (third fill) 0 0 0)) (record { frames = record end { text = returns_value 15 0 End } ∷ below; statics = ss; words = ws })
  from_third =
      let fr = few_r in
      let x_low : word_sub x r ≡ x - r = omega (arith, circle) in
      let x_high : word_add x r ≡ x + r = omega (arith, circle) in
      let (n1, s1, ws1, is1, way1) = row_way 6 0 r 0 y (circle_loop fill) first (omega arith) (omega (arith, circle)) long in
      let half : IsHalf r 0 r = record { fits = omega arith; most = omega arith } in
      let (n2, s2, ws2, all, end, way2) = all_turns r ws1 0 r 0 (omega arith) (omega arith) half (omega arith) (start_points ws1 is1) in
      let a0 = at first (third fill) 0 0 0 in
      let a1 = at first (asks_fill 6 fill (x - r) y (x + r) y (circle_loop fill)) 0 r 0 in
      let a2 = at ws1 (Next (Do 6 (Value 0)) (circle_loop fill)) 0 r 0 in
      let a3 = at ws1 (circle_loop fill) 0 r 0 in
      let last : State = record { frames = record end { text = returns_value 15 0 End } ∷ below; statics = ss; words = ws2 } in
      let asks : run subs 10 a0 ≡ Some a1 =
      to_middle subs (g p) ss first x y r fill ∙ ap (λ (z : ℕ). Some (at first (asks_fill 6 fill z y (word_add x r) y (circle_loop fill)) 0 r 0)) x_low
      ∙ ap (λ (z : ℕ). Some (at first (asks_fill 6 fill (x - r) y z y (circle_loop fill)) 0 r 0)) x_high in (
        10 + (n1 + (1 + n2)),
        omega (arith, s1, s2),
        ws2,
        end_points ws2 all,
        end,
        way_then subs least 10 (n1 + (1 + n2)) (over below a0) (over below a1) last (way_of_run subs below 10 a0 a1 asks)
            (way_then subs least n1 (1 + n2) (over below a1) (over below a2) last way1
            (way_then subs least 1 n2 (over below a2) (over below a3) last (way_of_run subs below 1 a2 a3 (filled subs (g p) ss ws1 x y r fill 6 0 r 0 (circle_loop fill))) way2)),
      )

module _ {core : Core} (p : IsShipped core) (s : State) where
  circle_law : CircleLaw p s
  circle_law h x y r circle long c =
      let subs = the_subroutines core in
      let ss = s.statics in
      let ws = s.words in
      let fill = fill_at core p in
      let error = system_error p in
      let values = x ∷ y ∷ r ∷ [] in
      let below : List Frame = c.caller ∷ c.below in
      let d = suc (length below) in
      let opening = opened subs s (g p) values c in
      let a0 = at_circle subs (g p) ss ws x y r (circle_body error fill) 0 0 0 in
      let a1 = at_circle subs (g p) ss ws x y r (second error fill) 0 0 0 in
      let a2 = at_circle subs (g p) ss ws x y r (third fill) 0 0 0 in
      let columns : bit_and (bit_or (x - r) (x + r)) 65024 ≡ 0 = in_columns (bit_or (x - r) (x + r)) (or_lt 9 (x - r) (x + r) (omega (arith, circle)) (omega (arith, circle))) in
      let lines : bit_and (bit_or (y - r) (y + r)) 65280 ≡ 0 = in_rows (bit_or (y - r) (y + r)) (or_lt 8 (y - r) (y + r) (omega (arith, circle)) (omega (arith, circle))) in
      let tested : run subs 36 a0 ≡ Some a2 =
      run_then subs 10 26 a0 a1 a2 (to_second subs (g p) ss ws x y r error fill (in_columns x (omega (arith, circle))) (in_rows y (omega (arith, circle))))
      (to_third subs (g p) ss ws x y r error fill (x - r) (x + r) (y - r) (y + r) (not_negative r (omega (arith, circle))) (let e : word_sub x r ≡ x - r = omega (arith, circle) in e) (let e : word_add x r ≡ x + r = omega (arith, circle) in e)
      (let e : word_sub y r ≡ y - r = omega (arith, circle) in e) (let e : word_add y r ≡ y + r = omega (arith, circle) in e) columns lines) in
      let begins : Way subs d 36 opening (over below a2) =
      way_of_run subs below 36 (record { frame = new_frame subs (g p) values; statics = ss; words = ws }) a2
      (ap (λ (z : Frame). run subs 36 (record { frame = z; statics = ss; words = ws })) (enters subs (g p) _ values (is_circle p)) ∙ tested) in
      let (n, few, ws', is, end, way) = from_third p h below ss ws long x y r circle in
      let last : State = record { frames = record end { text = returns_value 15 0 End } ∷ below; statics = ss; words = ws' } in
      let whole = way_then subs d 36 n opening (over below a2) last begins way in (
        ws',
        subst (λ (i : ℕ). IsColoured ws (InCircle x y r) i ws') (ink_is (slice_index ss h.black)) is,
        (suc (suc (36 + n)), omega (arith, few), returns_by subs s (g p) values c (36 + n) end ss ws' 15 0 End whole),
      )

  centre_error_law : CentreErrorLaw p s
  centre_error_law x y r hx hy none c =
      let fill = fill_at core p in
      let error = system_error p in
      let a = bit_and x 65024 in
      let b = bit_and y 65280 in
      let some : 0 < bit_or a b =
      ⊎_elim
      (λ (l : x < 512). ⊎_elim (λ (m : y < 256). absurd (none (l, m))) (λ (m : 256 ≤ y). let k = le_or_r a b in let q = off_rows y m hy in omega (arith, k, q)) (cases_lt y 256))
      (λ (l : 512 ≤ x). let k = le_or_l a b in let q = off_columns x l hx in omega (arith, k, q))
      (cases_lt x 512) in
      let (m, off) = one_more (bit_or a b) some in
      refuses_by p s (codes "Screen") (codes "drawCircle") (x ∷ y ∷ r ∷ []) c 11 13 (omega arith) _ (is_circle p) error (is_error core p) 0 12 (tail (text p)) (x ∷ y ∷ r ∷ []) (0 ∷ 0 ∷ 0 ∷ [])
      (to_centre_error (the_subroutines core) (g p) s.statics s.words x y r error fill a b m refl refl off)

  -- a word with a bit outside the columns, or the rows
  far_column : (a b : ℕ) → a < 65536 → b < 65536 → (512 ≤ a) ⊎ (512 ≤ b) → 0 < bit_and (bit_or a b) 65024
  far_column a b ha hb o = off_columns (bit_or a b) (⊎_elim (λ (l : 512 ≤ a). let k = le_or_l a b in omega (arith, k, l)) (λ (l : 512 ≤ b). let k = le_or_r a b in omega (arith, k, l)) o) (or_lt 16 a b ha hb)

  far_row : (a b : ℕ) → a < 65536 → b < 65536 → (256 ≤ a) ⊎ (256 ≤ b) → 0 < bit_and (bit_or a b) 65280
  far_row a b ha hb o = off_rows (bit_or a b) (⊎_elim (λ (l : 256 ≤ a). let k = le_or_l a b in omega (arith, k, l)) (λ (l : 256 ≤ b). let k = le_or_r a b in omega (arith, k, l)) o) (or_lt 16 a b ha hb)

  circle_error_law : CircleErrorLaw p s
  circle_error_law x y r hr centre none c =
      let subs = the_subroutines core in
      let fill = fill_at core p in
      let error = system_error p in
      let n = word_lt r 0 in
      let xl = word_sub x r in
      let xh = word_add x r in
      let yl = word_sub y r in
      let yh = word_add y r in
      let a = bit_and (bit_or xl xh) 65024 in
      let b = bit_and (bit_or yl yh) 65280 in
      let from_a : 0 < a → 0 < bit_or (bit_or n a) b = λ l. let k1 = le_or_r n a in let k2 = le_or_l (bit_or n a) b in omega (arith, l, k1, k2) in
      let from_b : 0 < b → 0 < bit_or (bit_or n a) b = λ l. let k2 = le_or_r (bit_or n a) b in omega (arith, l, k2) in
      let some : 0 < bit_or (bit_or n a) b =
      ⊎_elim
      (λ (small : r < 32768).
      let wxl : xl < 65536 = omega arith in
      let wxh : xh < 65536 = omega arith in
      let wyl : yl < 65536 = omega arith in
      let wyh : yh < 65536 = omega arith in
      ⊎_elim (λ (l : x < r). from_a (far_column xl xh wxl wxh (inl (let e : 512 ≤ word_sub x r = omega (arith, l, small, centre) in e))))
      (λ (k1 : r ≤ x).
      ⊎_elim
      (λ (k2 : x + r < 512).
      ⊎_elim (λ (l : y < r). from_b (far_row yl yh wyl wyh (inl (let e : 256 ≤ word_sub y r = omega (arith, l, small, centre) in e))))
      (λ (k3 : r ≤ y).
      ⊎_elim (λ (k4 : y + r < 256). absurd (none (k1, k2, k3, k4))) (λ (l : 256 ≤ y + r). from_b (far_row yl yh wyl wyh (inr (let e : 256 ≤ word_add y r = omega (arith, l, small, centre) in e)))) (cases_lt (y + r) 256))
      (cases_lt y r))
      (λ (l : 512 ≤ x + r). from_a (far_column xl xh wxl wxh (inr (let e : 512 ≤ word_add x r = omega (arith, l, small, centre) in e))))
      (cases_lt (x + r) 512))
      (cases_lt x r))
      (λ (large : 32768 ≤ r). let e = negative r large in let k1 = le_or_l n a in let k2 = le_or_l (bit_or n a) b in omega (arith, e, k1, k2))
      (cases_lt r 32768) in
      let (m, off) = one_more (bit_or (bit_or n a) b) some in
      let begin = at_circle subs (g p) s.statics s.words x y r (circle_body error fill) 0 0 0 in
      let middle = at_circle subs (g p) s.statics s.words x y r (second error fill) 0 0 0 in
      let asks = at_circle subs (g p) s.statics s.words x y r (refused subs (g p) s.statics s.words x y r error fill (Calling error (More (Value 13) NoMore))) 0 0 0 in
      let waits = at_circle subs (g p) s.statics s.words x y r (refused subs (g p) s.statics s.words x y r error fill Open) 0 0 0 in
      let ran : run subs 37 begin ≡ Some asks =
      run_then subs 10 27 begin middle asks (to_second subs (g p) s.statics s.words x y r error fill (in_columns x centre.0) (in_rows y centre.1))
      (to_circle_error subs (g p) s.statics s.words x y r error fill n xl xh yl yh a b m refl refl refl refl refl refl refl off) in (
        39,
        omega arith,
        subst (λ e. ComesToCall c e (13 ∷ []) 39) (sym (is_error core p)) (comes_to subs s (g p) (x ∷ y ∷ r ∷ []) c 37 _ asks.frame waits.frame error (13 ∷ []) (is_circle p) ran (λ below. refl)),
      )

pub law : CircleLaws
law = record { circle = λ p s. circle_law p s; centre_error = λ p s. centre_error_law p s; circle_error = λ p s. circle_error_law p s }
