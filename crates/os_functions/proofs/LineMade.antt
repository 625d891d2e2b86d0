-- A line drawn: calls within a call, and one dot after another.
use Rattle.std.proofs.Common.{◌≡◌, ◌≢◌, ◌⊎◌, inl, inr, ⊎_elim, ℕ, zero, suc, ◌+◌, ◌-◌, ◌*◌, ◌%◌, ◌^◌, ◌<◌, ◌≤◌, Bool, true, false, min, max, nat_eq, bit_and, bit_or, List, [], ◌∷◌, length, codes, refl, sym, ap, ◌∙◌, subst, arith}
use Rattle.std.specs.Prelude.{slice_index, slice_set}
use Rattle.std.proofs.lemmas.Bool.{cases_lt}
use Rattle.std.proofs.lemmas.Bool.Decides.{nat_tests}
use Rattle.std.proofs.lemmas.Nat.{or_lt, le_or_l, le_or_r}
use Rattle.word16.specs.Words.{word_add, word_sub, word_neg, word_lt, word_gt}
use Rattle.jack_core.specs.declared.program.Core.{Core}
use Rattle.jack_core.specs.Texts.{the_subroutines}
use Rattle.jack_meaning.specs.Text.{Value, Literal, Open, Do, Return, Text, End, Next, Function, Subroutine}
use Rattle.jack_meaning.specs.Meaning.{Frame, State, Acts, step, subroutine_at, new_frame, filled_text}
use Rattle.os_laws.specs.Heap.{word_at}
use Rattle.os_laws.specs.Names.{IsShipped}
use Rattle.os_laws.proofs.Basics.{enters}
use Rattle.os_laws.proofs.Comparing.{less, not_less, negative, not_negative}
use Rattle.os_laws.proofs.Runs.{Call, over, run}
use Rattle.os_functions.specs.Calls.{routine_number, HasStatics}
use Rattle.os_functions.specs.LineLaws.{AreEnds, distance, IsBeside, OnLine, LineLaw, LineErrorLaw, LineLaws}
use Rattle.os_functions.specs.RectangleLaws.{AreCorners, InRectangle, IsColoured}
use Rattle.os_functions.specs.ScreenLaws.{pixel_address}
use Rattle.os_functions.proofs.FillFacts.{brush, ink}
use Rattle.os_functions.proofs.FillMade.{place_at, bit_at, paint_at, fill_at, place_way, bit_way, paint_way, fill_way, ink_is}
use Rattle.os_functions.proofs.LineFacts.{Along, upward, downward, begins, goes_x, goes_y, in_width, at_end, Side, is_below, is_above, side_x, side_y, Drawn, none_drawn, point_drawn}
use Rattle.os_functions.proofs.LineRuns.{min_left, min_right, max_left, max_right, at_line, at_first, to_second, to_error, picked, ends_1, ends_2, ends_3, ends_4, to_ends, to_ends_2, to_ends_3, to_ends_4, ends_done, to_slants, slanted, x_forward, x_backward, y_forward, y_backward, dots, asks_place, bit_later, asks_bit, to_dot, to_bit, loop_ends, steps_x, steps_y}
use Rattle.os_functions.proofs.LineTexts.{line_loop, behind_dot, turns_y, turns_x, slants, second, line_body}
use Rattle.os_functions.proofs.MathRoutines.{is_min, is_max}
use Rattle.os_functions.proofs.Named.{leads, numbered, is_error, system_error, number_of, own_number}
use Rattle.os_functions.proofs.Pieces.{in_call, tail, returns_value, refuses_by}
use Rattle.os_functions.proofs.PixelFacts.{in_columns, in_rows, off_columns, off_rows, one_more}
use Rattle.os_functions.proofs.StringFacts.{same_or_not}
use Rattle.os_functions.proofs.Texts.{routine, min_body, max_body}
use Rattle.os_functions.proofs.Ways.{Way, way_then, way_of_run, opened, returns_by, inner_leaf}

differs : (a b : ℕ) → a ≢ b → nat_eq a b ≡ false
differs a b d = grind (arith, nat_tests)

equals : (a b : ℕ) → a ≡ b → nat_eq a b ≡ true
equals a b h = grind (arith, nat_tests)

module _ {core : Core} (p : IsShipped core) where
  abbrev min_at : ℕ
  min_at = number_of core p (codes "Math") (codes "min")

  abbrev max_at : ℕ
  max_at = number_of core p (codes "Math") (codes "max")

  abbrev text : Text
  text = line_body (system_error p) (fill_at core p) min_at max_at (place_at core p) (bit_at core p) (paint_at core p)

  abbrev g : ℕ
  g = routine_number p (codes "Screen") (codes "drawLine")

  is_line : subroutine_at (the_subroutines core) g ≡ routine Function (own_number core p 5) 4 7 text
  is_line = leads core p 5 4 (refl, refl)

  has_min : subroutine_at (the_subroutines core) min_at ≡ routine Function (own_number core p 2) 2 0 min_body
  has_min = ap (subroutine_at (the_subroutines core)) (sym (numbered core p (codes "Math") (codes "min"))) ∙ is_min core p

  has_max : subroutine_at (the_subroutines core) max_at ≡ routine Function (own_number core p 2) 2 0 max_body
  has_max = ap (subroutine_at (the_subroutines core)) (sym (numbered core p (codes "Math") (codes "max"))) ∙ is_max core p

module _ {core : Core} (p : IsShipped core) (h : HasStatics p) (below : List Frame) (ss : List ℕ) where
  abbrev subs : List Subroutine
  subs = the_subroutines core

  abbrev least : ℕ
  least = suc (length below)

  abbrev place : ℕ
  place = place_at core p

  abbrev bit : ℕ
  bit = bit_at core p

  abbrev paint : ℕ
  paint = paint_at core p

  abbrev fill : ℕ
  fill = fill_at core p

  -- ---- calls of min and max within a call

  abbrev Picks : ℕ → (ℕ → ℕ → ℕ) → Type 0
  Picks pick chosen =
      (f waits : Frame) (ws : List ℕ) (x y : ℕ) → x < 512 → y < 512
      → step subs 0 (record { frames = f ∷ below; statics = ss; words = ws }) ≡ Acts false (record { frames = new_frame subs pick (x ∷ y ∷ []) ∷ waits ∷ below; statics = ss; words = ws })
      → Way subs least 7 (record { frames = f ∷ below; statics = ss; words = ws }) (record { frames = record waits { text = filled_text (chosen x y) waits.text } ∷ below; statics = ss; words = ws })

  min_way : Picks (min_at p) min
  min_way f waits ws x y hx hy calls =
      let from : State = record { frames = f ∷ below; statics = ss; words = ws } in
      let to : ℕ → State = λ v. record { frames = record waits { text = filled_text v waits.text } ∷ below; statics = ss; words = ws } in
      let end : Frame = (in_call (min_at p) 0 ss ws End (x ∷ y ∷ []) []).frame in
      ⊎_elim
      (λ (l : x < y).
      subst (λ (v : ℕ). Way subs least 7 from (to v)) (let e : x ≡ min x y = omega (arith, l) in e)
      (inner_leaf subs below f waits ss ws ss ws (min_at p) (x ∷ y ∷ []) (routine Function (own_number core p 2) 2 0 min_body) 5 2 x (tail min_body) end (has_min p) calls (min_left subs (min_at p) ss ws x y (less x y l (omega (arith, hy))))))
      (λ (k : y ≤ x).
      subst (λ (v : ℕ). Way subs least 7 from (to v)) (let e : y ≡ min x y = omega (arith, k) in e)
      (inner_leaf subs below f waits ss ws ss ws (min_at p) (x ∷ y ∷ []) (routine Function (own_number core p 2) 2 0 min_body) 5 3 y End end (has_min p) calls (min_right subs (min_at p) ss ws x y (not_less x y k (omega (arith, hx))))))
      (cases_lt x y)

  max_way : Picks (max_at p) max
  max_way f waits ws x y hx hy calls =
      let from : State = record { frames = f ∷ below; statics = ss; words = ws } in
      let to : ℕ → State = λ v. record { frames = record waits { text = filled_text v waits.text } ∷ below; statics = ss; words = ws } in
      let end : Frame = (in_call (max_at p) 0 ss ws End (x ∷ y ∷ []) []).frame in
      ⊎_elim
      (λ (l : y < x).
      subst (λ (v : ℕ). Way subs least 7 from (to v)) (let e : x ≡ max x y = omega (arith, l) in e)
      (inner_leaf subs below f waits ss ws ss ws (max_at p) (x ∷ y ∷ []) (routine Function (own_number core p 2) 2 0 max_body) 5 2 x (tail max_body) end (has_max p) calls (max_left subs (max_at p) ss ws x y (less y x l (omega (arith, hx))))))
      (λ (k : x ≤ y).
      subst (λ (v : ℕ). Way subs least 7 from (to v)) (let e : y ≡ max x y = omega (arith, k) in e)
      (inner_leaf subs below f waits ss ws ss ws (max_at p) (x ∷ y ∷ []) (routine Function (own_number core p 2) 2 0 max_body) 5 3 y End end (has_max p) calls (max_right subs (max_at p) ss ws x y (not_less y x k (omega (arith, hy))))))
      (cases_lt y x)

  module _ (first : List ℕ) (long : length first ≡ 22528) (x1 y1 x2 y2 : ℕ) (ends : AreEnds x1 y1 x2 y2) where
    abbrev v : ℕ
    v = slice_index ss h.black

    abbrev dx : ℕ
    dx = distance x1 x2

    abbrev dy : ℕ
    dy = distance y1 y2

    -- what the rest of drawLine leaves, from a call of it on
    abbrev Draws : ℕ → Call → Type 0
    Draws most from =
        (n : ℕ) × (n ≤ most) × (ws : List ℕ) × IsColoured first (OnLine x1 y1 x2 y2) (ink v) ws × (k : ℕ) × (rest : Text) × (end : Frame)
        × Way subs least n (over below from) (record { frames = record end { text = returns_value k 0 rest } ∷ below; statics = ss; words = ws })

    -- ---- level or upright

    abbrev at_text : List ℕ → Text → Call
    at_text ws t = at_first subs (g p) ss ws x2 y2 t x1 y1

    straight_points : (ws : List ℕ) → (x1 ≡ x2) ⊎ (y1 ≡ y2) → IsColoured first (InRectangle (min x1 x2) (min y1 y2) (max x1 x2) (max y1 y2)) (ink v) ws → IsColoured first (OnLine x1 y1 x2 y2) (ink v) ws
    straight_points ws o was = record {
      same_length = was.same_length;
      inside = λ x y hx hy d. was.inside x y hx hy d.0;
      others = λ x y hx hy n. was.others x y hx hy (λ d. n (d, ⊎_elim (λ (e : x1 ≡ x2). inl e) (λ (e : y1 ≡ y2). inr (inl e)) o));
      each = was.each;
      heap = was.heap;
    }

    straight : (e f : Bool) → nat_eq x1 x2 ≡ e → nat_eq y1 y2 ≡ f → (e ≡ true) ⊎ (f ≡ true) → (x1 ≡ x2) ⊎ (y1 ≡ y2) → Draws (700 + 1000 * (dy + 1)) (at_text first (second fill (min_at p) (max_at p) place bit paint))
    straight e f is_e is_f o same =
        let error = system_error p in
        let lo = min_at p in
        let hi = max_at p in
        let a = min x1 x2 in
        let b = min y1 y2 in
        let c = max x1 x2 in
        let d = max y1 y2 in
        let rest = slants place bit paint in
        let t0 = at_text first (second fill lo hi place bit paint) in
        let t1 = at_text first (ends_1 subs (g p) ss first x2 y2 error fill lo hi place bit paint x1 y1 (picked subs (g p) ss first x2 y2 error fill lo hi place bit paint x1 y1 lo x1 x2)) in
        let w1 = at_text first (ends_1 subs (g p) ss first x2 y2 error fill lo hi place bit paint x1 y1 Open) in
        let u1 = at_text first (ends_1 subs (g p) ss first x2 y2 error fill lo hi place bit paint x1 y1 (Value a)) in
        let t2 = at_text first (ends_2 subs (g p) ss first x2 y2 error fill lo hi place bit paint x1 y1 a (picked subs (g p) ss first x2 y2 error fill lo hi place bit paint x1 y1 lo y1 y2)) in
        let w2 = at_text first (ends_2 subs (g p) ss first x2 y2 error fill lo hi place bit paint x1 y1 a Open) in
        let u2 = at_text first (ends_2 subs (g p) ss first x2 y2 error fill lo hi place bit paint x1 y1 a (Value b)) in
        let t3 = at_text first (ends_3 subs (g p) ss first x2 y2 error fill lo hi place bit paint x1 y1 a b (picked subs (g p) ss first x2 y2 error fill lo hi place bit paint x1 y1 hi x1 x2)) in
        let w3 = at_text first (ends_3 subs (g p) ss first x2 y2 error fill lo hi place bit paint x1 y1 a b Open) in
        let u3 = at_text first (ends_3 subs (g p) ss first x2 y2 error fill lo hi place bit paint x1 y1 a b (Value c)) in
        let t4 = at_text first (ends_4 subs (g p) ss first x2 y2 error fill lo hi place bit paint x1 y1 a b c (picked subs (g p) ss first x2 y2 error fill lo hi place bit paint x1 y1 hi y1 y2)) in
        let w4 = at_text first (ends_4 subs (g p) ss first x2 y2 error fill lo hi place bit paint x1 y1 a b c Open) in
        let u4 = at_text first (ends_4 subs (g p) ss first x2 y2 error fill lo hi place bit paint x1 y1 a b c (Value d)) in
        let waits = at_text first (Next (Do 4 Open) (Next (Return 5 (Literal 0)) rest)) in
        let corners : AreCorners a b c d = (omega arith, omega (arith, ends), omega arith, omega (arith, ends)) in
        let (n, few, ws', is, filled) = fill_way p h below ss u4.frame waits.frame first a b c d corners long refl in
        let has = at_text ws' (Next (Do 4 (Value 0)) (Next (Return 5 (Literal 0)) rest)) in
        let last = at_text ws' (returns_value 5 0 rest) in
        let m8 = n + 2 in
        let m7 = 7 + m8 in
        let m6 = 2 + m7 in
        let m5 = 7 + m6 in
        let m4 = 2 + m5 in
        let m3 = 7 + m4 in
        let m2 = 2 + m3 in
        let m1 = 7 + m2 in (
          10 + m1,
          omega (arith, few),
          ws',
          straight_points ws' same is,
          5,
          rest,
          last.frame,
          way_then subs least 10 m1 (over below t0) (over below t1) (over below last) (way_of_run subs below 10 t0 t1 (to_ends subs (g p) ss first x2 y2 error fill lo hi place bit paint x1 y1 e f is_e is_f o))
              (way_then subs least 7 m2 (over below t1) (over below u1) (over below last) (min_way t1.frame w1.frame first x1 x2 ends.0 ends.2 refl)
              (way_then subs least 2 m3 (over below u1) (over below t2) (over below last) (way_of_run subs below 2 u1 t2 (to_ends_2 subs (g p) ss first x2 y2 error fill lo hi place bit paint x1 y1 a))
              (way_then subs least 7 m4 (over below t2) (over below u2) (over below last) (min_way t2.frame w2.frame first y1 y2 (omega (arith, ends)) (omega (arith, ends)) refl)
              (way_then subs least 2 m5 (over below u2) (over below t3) (over below last) (way_of_run subs below 2 u2 t3 (to_ends_3 subs (g p) ss first x2 y2 error fill lo hi place bit paint x1 y1 a b))
              (way_then subs least 7 m6 (over below t3) (over below u3) (over below last) (max_way t3.frame w3.frame first x1 x2 ends.0 ends.2 refl)
              (way_then subs least 2 m7 (over below u3) (over below t4) (over below last) (way_of_run subs below 2 u3 t4 (to_ends_4 subs (g p) ss first x2 y2 error fill lo hi place bit paint x1 y1 a b c))
              (way_then subs least 7 m8 (over below t4) (over below u4) (over below last) (max_way t4.frame w4.frame first y1 y2 (omega (arith, ends)) (omega (arith, ends)) refl)
              (way_then subs least n 2 (over below u4) (over below has) (over below last) filled (way_of_run subs below 2 has last (ends_done subs (g p) ss ws' x2 y2 error fill lo hi place bit paint x1 y1)))))))))),
        )

    -- ---- slanting

    module _ (some_x : 0 < dx) (some_y : 0 < dy) (sx sy : ℕ) (xs ys : ℕ → ℕ) (along : Along x1 x2 512 sx xs) (beyond : Along y1 y2 256 sy ys) where
      abbrev looping : List ℕ → ℕ → ℕ → ℕ → ℕ → ℕ → Call
      looping ws x y a b d = at_line subs (g p) ss ws x2 y2 (line_loop place bit paint) x y dx dy sx sy a b d

      record At (ws : List ℕ) (x y a b d : ℕ) : Type 0 where
        left : a ≤ dx
        beside : IsBeside dx dy a b
        tells : Side dx dy a b d
        is_x : x ≡ xs a
        is_y : b ≤ dy → y ≡ ys b
        few_y : b ≤ dy + 1
        drawn : IsColoured first (Drawn first x1 y1 x2 y2 v (a + b)) (ink v) ws

      abbrev Goes : List ℕ → ℕ → ℕ → ℕ → ℕ → ℕ → Type 0
      Goes ws x y a b d =
          (n : ℕ) × (n ≤ 330) × (ws' : List ℕ) × (x' : ℕ) × (y' : ℕ) × (a' : ℕ) × (b' : ℕ) × (d' : ℕ) × (a' + b' ≡ a + b + 1) × At ws' x' y' a' b' d' × Way subs least n (over below (looping ws x y a b d)) (over below (looping ws' x' y' a' b' d'))

      bound_x : dx < 512
      bound_x = omega (arith, ends)

      bound_y : dy < 256
      bound_y = omega (arith, ends)

      one_turn : (ws : List ℕ) (a b d : ℕ) → b ≤ dy → (at : At ws (xs a) (ys b) a b d) → Goes ws (xs a) (ys b) a b d
      one_turn ws a b d hb at =
          let ha = at.left in
          let x = xs a in
          let y = ys b in
          let hx = along.small a ha in
          let hy = beyond.small b hb in
          let bx = bound_x in
          let by = bound_y in
          let spot = pixel_address x y in
          let mask = 2 ^ (x % 16) in
          let line : List ℕ → Text → Call = λ l t. at_line subs (g p) ss l x2 y2 t x y dx dy sx sy a b d in
          let asks1 = line ws (dots subs (g p) ss ws x2 y2 place bit paint x y dx dy sx sy (asks_place subs (g p) ss ws x2 y2 place bit paint x y dx dy sx sy) (bit_later subs (g p) ss ws x2 y2 place bit paint x y dx dy sx sy)) in
          let waits1 = line ws (dots subs (g p) ss ws x2 y2 place bit paint x y dx dy sx sy Open (bit_later subs (g p) ss ws x2 y2 place bit paint x y dx dy sx sy)) in
          let has1 = line ws (dots subs (g p) ss ws x2 y2 place bit paint x y dx dy sx sy (Value spot) (bit_later subs (g p) ss ws x2 y2 place bit paint x y dx dy sx sy)) in
          let asks2 = line ws (dots subs (g p) ss ws x2 y2 place bit paint x y dx dy sx sy (Value spot) (asks_bit subs (g p) ss ws x2 y2 place bit paint x y dx dy sx sy)) in
          let waits2 = line ws (dots subs (g p) ss ws x2 y2 place bit paint x y dx dy sx sy (Value spot) Open) in
          let asks3 = line ws (dots subs (g p) ss ws x2 y2 place bit paint x y dx dy sx sy (Value spot) (Value mask)) in
          let waits3 = line ws (Next (Do 17 Open) (behind_dot place bit paint)) in
          let ws' = slice_set ws (spot - 2048) (brush v (word_at ws spot) mask) in
          let has3 = line ws' (Next (Do 17 (Value 0)) (behind_dot place bit paint)) in
          let (n1, s1, way1) = place_way p h below ss asks1.frame waits1.frame ws x y hx hy refl in
          let (n2, s2, way2) = bit_way p h below ss asks2.frame waits2.frame ws x refl in
          let (n3, s3, way3) = paint_way p h below ss asks3.frame waits3.frame ws spot mask (omega arith) (omega (arith, hx, hy)) refl v refl in
          let begin = looping ws x y a b d in
          let few_a : word_gt a dx ≡ 0 = not_less dx a ha (omega (arith, bx)) in
          let few_b : word_gt b dy ≡ 0 = not_less dy b hb (omega (arith, by)) in
          let was = at.drawn in
          let side = at.beside in
          let drawn = point_drawn first x1 y1 x2 y2 v sx sy xs ys along beyond some_x some_y ws (was.same_length ∙ long) a b ha hb side was in
          let m3 = n3 + 17 in
          let m2 = n2 + m3 in
          let m1 = 1 + m2 in
          let m0 = n1 + m1 in
          let upto : (last : State) → Way subs least 17 (over below has3) last → Way subs least (11 + m0) (over below begin) last =
          λ last ending.
          way_then subs least 11 m0 (over below begin) (over below asks1) last (way_of_run subs below 11 begin asks1 (to_dot subs (g p) ss ws x2 y2 place bit paint x y dx dy sx sy a b d few_a few_b))
          (way_then subs least n1 m1 (over below asks1) (over below has1) last way1
          (way_then subs least 1 m2 (over below has1) (over below asks2) last (way_of_run subs below 1 has1 asks2 (to_bit subs (g p) ss ws x2 y2 place bit paint x y dx dy sx sy a b d spot))
          (way_then subs least n2 m3 (over below asks2) (over below asks3) last way2 (way_then subs least n3 17 (over below asks3) (over below has3) last way3 ending)))) in
          elim at.tells [
            | is_below l e ↦
                let d' = word_add d dy in
                let next = goes_x dx dy some_x some_y a b side l in
                let wide = in_width dx dy some_x some_y (a + 1) b next hb in
                let diff : b * dx - a * dy ≤ 511 = (let q = side.1 in omega (arith, q, bx)) in
                let low : word_lt d 0 ≡ 65535 = negative d (omega (arith, e, diff)) in
                let last = looping ws' (xs (a + 1)) y (a + 1) b d' in (
                  11 + m0,
                  omega (arith, s1, s2, s3),
                  ws',
                  xs (a + 1),
                  y,
                  a + 1,
                  b,
                  d',
                  omega arith,
                  record {
                    left = wide;
                    beside = next;
                    tells = side_x dx dy a b d bx (omega (arith, by)) side l e;
                    is_x = refl;
                    is_y = λ m. refl;
                    few_y = omega (arith, hb);
                    drawn = subst (λ k. IsColoured first (Drawn first x1 y1 x2 y2 v k) (ink v) ws') (let f : a + b + 1 ≡ a + 1 + b = omega arith in f) drawn;
                  },
                  upto (over below last)
                      (way_of_run subs below 17 has3 last
                      (steps_x subs (g p) ss ws' x2 y2 place bit paint x y dx dy sx sy a b d (a + 1) (xs (a + 1)) d' low (let f : word_add a 1 ≡ a + 1 = omega (arith, ha, bx) in f) (along.next a (omega (arith, wide))) refl)),
                )
            | is_above l e ↦
                let d' = word_sub d dx in
                let next = goes_y dx dy some_x some_y a b side l in
                let diff : a * dy - b * dx ≤ 511 = (let q = side.0 in omega (arith, q, by)) in
                let high : word_lt d 0 ≡ 0 = not_negative d (omega (arith, e, diff)) in
                let y' = word_add y sy in
                let last = looping ws' x y' a (b + 1) d' in (
                  11 + m0,
                  omega (arith, s1, s2, s3),
                  ws',
                  x,
                  y',
                  a,
                  b + 1,
                  d',
                  omega arith,
                  record {
                    left = ha;
                    beside = next;
                    tells = side_y dx dy a b d bx (omega (arith, by)) side l e;
                    is_x = refl;
                    is_y = λ m. beyond.next b (omega (arith, m));
                    few_y = omega (arith, hb);
                    drawn = subst (λ k. IsColoured first (Drawn first x1 y1 x2 y2 v k) (ink v) ws') (let f : a + b + 1 ≡ a + (b + 1) = omega arith in f) drawn;
                  },
                  upto (over below last)
                      (way_of_run subs below 17 has3 last
                      (steps_y subs (g p) ss ws' x2 y2 place bit paint x y dx dy sx sy a b d (b + 1) y' d' high (let f : word_add b 1 ≡ b + 1 = omega (arith, hb, by) in f) refl refl)),
                )
          ]

      -- the points that are drawn at the end
      all_points : (ws : List ℕ) → IsColoured first (Drawn first x1 y1 x2 y2 v (dx + dy + 1)) (ink v) ws → IsColoured first (OnLine x1 y1 x2 y2) (ink v) ws
      all_points ws was = record {
        same_length = was.same_length;
        inside = λ x y hx hy d.
            let box = d.0 in
            let fx = along.far x box.0 box.1 in
            let fy = beyond.far y box.2 box.3 in
            was.inside x y hx hy (
              box,
              ⊎_elim (λ (e : x1 ≡ x2). absurd (omega (arith, e, some_x)))
                  (λ (o : (y1 ≡ y2) ⊎ IsBeside dx dy (distance x1 x) (distance y1 y)). ⊎_elim (λ (e : y1 ≡ y2). absurd (omega (arith, e, some_y))) (λ (b : IsBeside dx dy (distance x1 x) (distance y1 y)). b) o) d.1,
              omega (arith, fx, fy),
            );
        others = λ x y hx hy n. was.others x y hx hy (λ d. n (d.0, inr (inr d.1)));
        each = was.each;
        heap = was.heap;
      }

      abbrev Ends : ℕ → List ℕ → ℕ → ℕ → ℕ → ℕ → ℕ → Type 0
      Ends m ws x y a b d =
          (n : ℕ) × (n ≤ 10 + 330 * m) × (ws' : List ℕ) × IsColoured first (Drawn first x1 y1 x2 y2 v (dx + dy + 1)) (ink v) ws' × (end : Frame)
          × Way subs least n (over below (looping ws x y a b d)) (record { frames = record end { text = returns_value 25 0 End } ∷ below; statics = ss; words = ws' })

      turns : (m : ℕ) (ws : List ℕ) (x y a b d : ℕ) → a + b + m ≡ dx + dy + 1 → At ws x y a b d → Ends m ws x y a b d
      turns zero ws x y a b d e at =
          let ha = at.left in
          let bx = bound_x in
          let by = bound_y in
          let fy = at.few_y in
          let past : b ≡ dy + 1 = omega (arith, e, ha, fy) in
          let all : a + b ≡ dx + dy + 1 = omega (arith, e) in
          let last = at_line subs (g p) ss ws x2 y2 (returns_value 25 0 End) x y dx dy sx sy a b d in (
            10,
            omega arith,
            ws,
            subst (λ k. IsColoured first (Drawn first x1 y1 x2 y2 v k) (ink v) ws) all at.drawn,
            last.frame,
            way_of_run subs below 10 (looping ws x y a b d) last
                (loop_ends subs (g p) ss ws x2 y2 place bit paint x y dx dy sx sy a b d (not_less dx a ha (omega (arith, bx))) (less dy b (omega (arith, past)) (omega (arith, past, by)))),
          )
      turns (suc m) ws x y a b d e at =
          let fy = at.few_y in
          let ha = at.left in
          let hb : b ≤ dy =
          ⊎_elim (λ (l : dy < b). let q : b ≡ dy + 1 = omega (arith, l, fy) in let r = at_end dx dy some_x some_y a b at.beside q in absurd (omega (arith, e, q, r))) (λ (k : b ≤ dy). k) (cases_lt dy b) in
          let ex = at.is_x in
          let ey = at.is_y hb in
          let here : At ws (xs a) (ys b) a b d = subst (λ z. At ws z (ys b) a b d) ex (subst (λ z. At ws x z a b d) ey at) in
          let (n1, s1, ws1, x', y', a', b', d', sum, at', way1) = one_turn ws a b d hb here in
          let (n2, s2, ws2, drawn, end, way2) = turns m ws1 x' y' a' b' d' (omega (arith, e, sum)) at' in
          let last : State = record { frames = record end { text = returns_value 25 0 End } ∷ below; statics = ss; words = ws2 } in
          let whole = way_then subs least n1 n2 (over below (looping ws (xs a) (ys b) a b d)) (over below (looping ws1 x' y' a' b' d')) last way1 way2 in (
            n1 + n2,
            omega (arith, s1, s2),
            ws2,
            drawn,
            end,
            subst (λ z. Way subs least (n1 + n2) (over below (looping ws z y a b d)) last) (sym ex) (subst (λ z. Way subs least (n1 + n2) (over below (looping ws (xs a) z a b d)) last) (sym ey) whole),
          )

      from_loop : Draws (10 + 330 * (dx + dy + 1)) (looping first x1 y1 0 0 0)
      from_loop =
          let begin : At first x1 y1 0 0 0 = record {
            left = omega arith;
            beside = begins dx dy some_x some_y;
            tells = is_above (omega arith) (omega arith);
            is_x = sym along.first;
            is_y = λ m. sym beyond.first;
            few_y = omega arith;
            drawn = none_drawn first x1 y1 x2 y2 v;
          } in
          let (n, few, ws, drawn, end, way) = turns (dx + dy + 1) first x1 y1 0 0 0 (omega arith) begin in (n, few, ws, all_points ws drawn, 25, End, end, way)

    -- ---- which way the steps go

    abbrev at_turns : Text → ℕ → ℕ → ℕ → ℕ → Call
    at_turns t u w sx sy = at_line subs (g p) ss first x2 y2 t x1 y1 u w sx sy 0 0 0

    x_way : x1 ≢ x2 → (w : ℕ)
        → (sx : ℕ) × (xs : ℕ → ℕ) × Along x1 x2 512 sx xs × (n : ℕ) × (n ≤ 10) × Way subs least n (over below (at_turns (turns_x place bit paint) (word_sub x2 x1) w 1 1)) (over below (at_turns (turns_y place bit paint) dx w sx 1))
    x_way d w =
        ⊎_elim
        (λ (l : x1 < x2).
        let u : word_sub x2 x1 ≡ dx = omega (arith, l, ends) in (
          1,
          (λ a. x1 + a),
          upward x1 x2 512 l ends.2 (omega arith),
          4,
          omega arith,
          subst (λ z. Way subs least 4 (over below (at_turns (turns_x place bit paint) z w 1 1)) (over below (at_turns (turns_y place bit paint) dx w 1 1))) (sym u)
              (way_of_run subs below 4 _ _ (x_forward subs (g p) ss first x2 y2 place bit paint x1 y1 dx w (not_negative dx (omega (arith, ends))))),
        ))
        (λ (k : x2 ≤ x1).
        let l : x2 < x1 = below_other k in
        let u : word_neg (word_sub x2 x1) ≡ dx = omega (arith, l, ends) in (
          65535,
          (λ a. x1 - a),
          downward x1 x2 512 l ends.0 (omega arith),
          10,
          omega arith,
          way_of_run subs below 10 _ _ (x_backward subs (g p) ss first x2 y2 place bit paint x1 y1 (word_sub x2 x1) w dx (negative (word_sub x2 x1) (omega (arith, l, ends))) u),
        ))
        (cases_lt x1 x2)
      where
        below_other : x2 ≤ x1 → x2 < x1
        below_other k = ⊎_elim (λ (l : x2 < x1). l) (λ (m : x1 ≤ x2). absurd (d (let e : x1 ≡ x2 = omega (arith, k, m) in e))) (cases_lt x2 x1)

    y_way : y1 ≢ y2 → (sx : ℕ)
        → (sy : ℕ) × (ys : ℕ → ℕ) × Along y1 y2 256 sy ys × (n : ℕ) × (n ≤ 10)
        × Way subs least n (over below (at_turns (turns_y place bit paint) dx (word_sub y2 y1) sx 1)) (over below (at_turns (line_loop place bit paint) dx dy sx sy))
    y_way d sx =
        ⊎_elim
        (λ (l : y1 < y2).
        let u : word_sub y2 y1 ≡ dy = omega (arith, l, ends) in (
          1,
          (λ a. y1 + a),
          upward y1 y2 256 l ends.3 (omega arith),
          4,
          omega arith,
          subst (λ z. Way subs least 4 (over below (at_turns (turns_y place bit paint) dx z sx 1)) (over below (at_turns (line_loop place bit paint) dx dy sx 1))) (sym u)
              (way_of_run subs below 4 _ _ (y_forward subs (g p) ss first x2 y2 place bit paint x1 y1 dx dy sx (not_negative dy (omega (arith, ends))))),
        ))
        (λ (k : y2 ≤ y1).
        let l : y2 < y1 = below_other k in
        let u : word_neg (word_sub y2 y1) ≡ dy = omega (arith, l, ends) in (
          65535,
          (λ a. y1 - a),
          downward y1 y2 256 l ends.1 (omega arith),
          10,
          omega arith,
          way_of_run subs below 10 _ _ (y_backward subs (g p) ss first x2 y2 place bit paint x1 y1 dx (word_sub y2 y1) sx dy (negative (word_sub y2 y1) (omega (arith, l, ends))) u),
        ))
        (cases_lt y1 y2)
      where
        below_other : y2 ≤ y1 → y2 < y1
        below_other k = ⊎_elim (λ (l : y2 < y1). l) (λ (m : y1 ≤ y2). absurd (d (let e : y1 ≡ y2 = omega (arith, k, m) in e))) (cases_lt y2 y1)

    slanting : x1 ≢ x2 → y1 ≢ y2 → Draws (50 + 330 * (dx + dy + 1)) (at_text first (second fill (min_at p) (max_at p) place bit paint))
    slanting nx ny =
        let error = system_error p in
        let lo = min_at p in
        let hi = max_at p in
        let some_x : 0 < dx = apart x1 x2 nx in
        let some_y : 0 < dy = apart y1 y2 ny in
        let (sx, xs, along, n1, s1, way1) = x_way nx (word_sub y2 y1) in
        let (sy, ys, beyond, n2, s2, way2) = y_way ny sx in
        let (n3, s3, ws, is, k, rest, end, way3) = from_loop some_x some_y sx sy xs ys along beyond in
        let t0 = at_text first (second fill lo hi place bit paint) in
        let t1 = at_text first (slants place bit paint) in
        let t2 = at_turns (turns_x place bit paint) (word_sub x2 x1) (word_sub y2 y1) 1 1 in
        let t3 = at_turns (turns_y place bit paint) dx (word_sub y2 y1) sx 1 in
        let t4 = at_turns (line_loop place bit paint) dx dy sx sy in
        let last : State = record { frames = record end { text = returns_value k 0 rest } ∷ below; statics = ss; words = ws } in (
          8 + (12 + (n1 + (n2 + n3))),
          omega (arith, s1, s2, s3),
          ws,
          is,
          k,
          rest,
          end,
          way_then subs least 8 (12 + (n1 + (n2 + n3))) (over below t0) (over below t1) last (way_of_run subs below 8 t0 t1 (to_slants subs (g p) ss first x2 y2 error fill lo hi place bit paint x1 y1 (differs x1 x2 nx) (differs y1 y2 ny)))
              (way_then subs least 12 (n1 + (n2 + n3)) (over below t1) (over below t2) last (way_of_run subs below 12 t1 t2 (slanted subs (g p) ss first x2 y2 error fill lo hi place bit paint x1 y1 (word_sub x2 x1) (word_sub y2 y1) refl refl))
              (way_then subs least n1 (n2 + n3) (over below t2) (over below t3) last way1 (way_then subs least n2 n3 (over below t3) (over below t4) last way2 way3))),
        )
      where
        apart : (a b : ℕ) → a ≢ b → 0 < distance a b
        apart a b n = ⊎_elim (λ (l : a < b). omega (arith, l)) (λ (k : b ≤ a). ⊎_elim (λ (l : b < a). omega (arith, l)) (λ (m : a ≤ b). absurd (n (let e : a ≡ b = omega (arith, k, m) in e))) (cases_lt b a)) (cases_lt a b)

    -- ---- the whole

    weaker : (most most' : ℕ) (from : Call) → most ≤ most' → Draws most from → Draws most' from
    weaker most most' from l r = let few = r.1 in (r.0, omega (arith, few, l), r.2, r.3, r.4, r.5, r.6, r.7)

    pub drawn_line : Draws (1800 + 400 * dx + 1000 * dy) (at_text first (second fill (min_at p) (max_at p) place bit paint))
    drawn_line =
        ⊎_elim
        (λ (e : x1 ≡ x2). weaker (700 + 1000 * (dy + 1)) (1800 + 400 * dx + 1000 * dy) _ (omega arith) (straight true (nat_eq y1 y2) (equals x1 x2 e) refl (inl refl) (inl e)))
        (λ (n : x1 ≢ x2).
        ⊎_elim
        (λ (e : y1 ≡ y2). weaker (700 + 1000 * (dy + 1)) (1800 + 400 * dx + 1000 * dy) _ (omega arith) (straight (nat_eq x1 x2) true refl (equals y1 y2 e) (inr refl) (inr e)))
        (λ (m : y1 ≢ y2). weaker (50 + 330 * (dx + dy + 1)) (1800 + 400 * dx + 1000 * dy) _ (omega arith) (slanting n m))
        (same_or_not y1 y2))
        (same_or_not x1 x2)

module _ {core : Core} (p : IsShipped core) (s : State) where
  line_law : LineLaw p s
  line_law h x1 y1 x2 y2 ends long c =
      let subs = the_subroutines core in
      let ss = s.statics in
      let ws = s.words in
      let values = x1 ∷ y1 ∷ x2 ∷ y2 ∷ [] in
      let below : List Frame = c.caller ∷ c.below in
      let d = suc (length below) in
      let place = place_at core p in
      let bit = bit_at core p in
      let paint = paint_at core p in
      let fill = fill_at core p in
      let first = opened subs s (g p) values c in
      let middle = at_first subs (g p) ss ws x2 y2 (second fill (min_at p) (max_at p) place bit paint) x1 y1 in
      let columns : bit_and (bit_or x1 x2) 65024 ≡ 0 = in_columns (bit_or x1 x2) (or_lt 9 x1 x2 ends.0 ends.2) in
      let lines : bit_and (bit_or y1 y2) 65280 ≡ 0 = in_rows (bit_or y1 y2) (or_lt 8 y1 y2 ends.1 ends.3) in
      let begins : Way subs d 14 first (over below middle) =
      way_of_run subs below 14 (record { frame = new_frame subs (g p) values; statics = ss; words = ws }) middle
      (ap (λ (z : Frame). run subs 14 (record { frame = z; statics = ss; words = ws })) (enters subs (g p) _ values (is_line p))
      ∙ to_second subs (g p) ss ws x2 y2 (system_error p) fill (min_at p) (max_at p) place bit paint x1 y1 columns lines) in
      let (n, few, ws', is, k, rest, end, way) = drawn_line p h below ss ws long x1 y1 x2 y2 ends in
      let last : State = record { frames = record end { text = returns_value k 0 rest } ∷ below; statics = ss; words = ws' } in
      let whole = way_then subs d 14 n first (over below middle) last begins way in (
        ws',
        subst (λ (i : ℕ). IsColoured ws (OnLine x1 y1 x2 y2) i ws') (ink_is (slice_index ss h.black)) is,
        (suc (suc (14 + n)), omega (arith, few), returns_by subs s (g p) values c (14 + n) end ss ws' k 0 rest whole),
      )

  line_error_law : LineErrorLaw p s
  line_error_law x1 y1 x2 y2 a1 b1 a2 b2 none c =
      let subs = the_subroutines core in
      let error = system_error p in
      let place = place_at core p in
      let bit = bit_at core p in
      let paint = paint_at core p in
      let fill = fill_at core p in
      let a = bit_and (bit_or x1 x2) 65024 in
      let b = bit_and (bit_or y1 y2) 65280 in
      let from_a : 0 < a → 0 < bit_or a b = λ l. let k = le_or_l a b in omega (arith, l, k) in
      let from_b : 0 < b → 0 < bit_or a b = λ l. let k = le_or_r a b in omega (arith, l, k) in
      let wide : 512 ≤ bit_or x1 x2 → 0 < a = λ l. off_columns (bit_or x1 x2) l (or_lt 16 x1 x2 a1 a2) in
      let high : 256 ≤ bit_or y1 y2 → 0 < b = λ l. off_rows (bit_or y1 y2) l (or_lt 16 y1 y2 b1 b2) in
      let some : 0 < bit_or a b =
      ⊎_elim
      (λ (l1 : x1 < 512).
      ⊎_elim
      (λ (l2 : x2 < 512).
      ⊎_elim
      (λ (m1 : y1 < 256). ⊎_elim (λ (m2 : y2 < 256). absurd (none (l1, m1, l2, m2))) (λ (m2 : 256 ≤ y2). from_b (high (let k = le_or_r y1 y2 in omega (arith, m2, k)))) (cases_lt y2 256))
      (λ (m1 : 256 ≤ y1). from_b (high (let k = le_or_l y1 y2 in omega (arith, m1, k))))
      (cases_lt y1 256))
      (λ (l2 : 512 ≤ x2). from_a (wide (let k = le_or_r x1 x2 in omega (arith, l2, k))))
      (cases_lt x2 512))
      (λ (l1 : 512 ≤ x1). from_a (wide (let k = le_or_l x1 x2 in omega (arith, l1, k))))
      (cases_lt x1 512) in
      let (m, off) = one_more (bit_or a b) some in
      refuses_by p s (codes "Screen") (codes "drawLine") (x1 ∷ y1 ∷ x2 ∷ y2 ∷ []) c 15 17 (omega arith) _ (is_line p) error (is_error core p) 0 8 (tail (text p)) (x1 ∷ y1 ∷ x2 ∷ y2 ∷ []) (0 ∷ 0 ∷ 0 ∷ 0 ∷ 0 ∷ 0 ∷ 0 ∷ [])
      (to_error subs (g p) s.statics s.words x2 y2 error fill (min_at p) (max_at p) place bit paint x1 y1 a b m refl refl off)

pub law : LineLaws
law = record { line = λ p s. line_law p s; line_error = λ p s. line_error_law p s }
