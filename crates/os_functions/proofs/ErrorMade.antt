-- An error: three letters and the number are printed by calls within calls, and then the endless loop is called.
use Rattle.std.proofs.Common.{◌≡◌, ◌≢◌, ⊎_elim, ℕ, zero, suc, ◌+◌, ◌-◌, ◌*◌, ◌/◌, ◌%◌, ◌<◌, ◌≤◌, true, false, nat_eq, nat_lt, List, [], ◌∷◌, ◌++◌, length, Some, option_and_then, codes, refl, sym, ap, ◌∙◌, subst, arith, append_assoc}
use Rattle.std.specs.Prelude.{slice_index, slice_set, if◌then◌else◌}
use Rattle.std.specs.Prelude.{decimal}
use Rattle.std.proofs.lemmas.Fmt.{decimal_digit, decimal_step}
use Rattle.std.proofs.lemmas.Bool.{cases_lt}
use Rattle.std.proofs.lemmas.Bool.Decides.{nat_tests}
use Rattle.std.proofs.lemmas.List.{set-set, set-get_or}
use Rattle.word16.specs.Words.{word_sub, word_neg, word_gt, truth}
use Rattle.jack_core.specs.declared.program.Core.{Core}
use Rattle.jack_core.specs.Texts.{the_subroutines}
use Rattle.jack_meaning.specs.Text.{Local, Value, Open, Let, Do, Text, End, Next, Function, Subroutine}
use Rattle.jack_meaning.specs.Meaning.{Frame, State, Acts, step, subroutine_at, new_frame, filled_text, with_top}
use Rattle.os_laws.specs.Calls.{NextCall, after}
use Rattle.os_laws.specs.Names.{IsShipped}
use Rattle.os_laws.proofs.Basics.{enters}
use Rattle.os_laws.proofs.Comparing.{negative, not_negative}
use Rattle.os_laws.proofs.Runs.{Call, over, run, run_then, next_at, run_over}
use Rattle.os_functions.specs.Calls.{routine_number, HasStatics, CallsNext}
use Rattle.os_functions.specs.CursorLaws.{cell_address, with_cursor}
use Rattle.os_functions.specs.ErrorLaws.{StandsStill, ShowsText, IsBehind, shown_number, HaltLaw, IntLaw, ErrorLaw}
use Rattle.os_functions.specs.PrintLaws.{IsCursorAt, HasGlyph, IsDrawn, row_after, column_after, shown_code}
use Rattle.os_functions.proofs.DrawLoops.{shown}
use Rattle.os_functions.proofs.ErrorRuns.{is_smaller, is_not_smaller, at_digit, no_digit, digit_begins, digit_shown, up_to, up_to_10, up_to_100, up_to_1000, up_to_10000, counted, digit_done, at_int, from_thousand, from_hundred, from_ten, from_one, asks_digit, has_digit, asks_one, int_begins, asks_minus, has_minus, minus_begins, minus_done, int_thousand, int_hundred, int_ten, int_one, int_done, at_error, error_tail, asks_letter, has_letter, first_letter, second_letter, third_letter, asks_number, number_begins, asks_halt, number_done, loops}
use Rattle.os_functions.proofs.Named.{leads, numbered, number_of, own_number}
use Rattle.os_functions.proofs.Pieces.{in_call, tail, returns_value}
use Rattle.os_functions.proofs.PrintMade.{stands, font_kept, turned, print_law}
use Rattle.os_functions.proofs.Texts.{routine, int_body, digit_body, digit_loop, halt_body, sys_error_body}
use Rattle.os_functions.proofs.Ways.{Way, way_then, way_of_run, way_of_call, after_split, keys_behind, opened, returns_by, inner_leaf}

-- ---- texts one after the other

behind_join : (row column : ℕ) (xs : List ℕ) (row1 column1 : ℕ) (ys : List ℕ) (row2 column2 : ℕ) → IsBehind row column xs row1 column1 → IsBehind row1 column1 ys row2 column2 → IsBehind row column (xs ++ ys) row2 column2
behind_join row column [] row1 column1 ys row2 column2 a b = subst (λ r. IsBehind r column ys row2 column2) (sym a.0) (subst (λ c. IsBehind row1 c ys row2 column2) (sym a.1) b)
behind_join row column (x ∷ xs) row1 column1 ys row2 column2 a b = behind_join (row_after row column) (column_after column) xs row1 column1 ys row2 column2 a b

shows_join : (font : ℕ) (ws : List ℕ) (row column : ℕ) (xs ws1 : List ℕ) (row1 column1 : ℕ) (ys ws2 : List ℕ) → IsBehind row column xs row1 column1 → ShowsText font ws row column xs ws1 → ShowsText font ws1 row1 column1 ys ws2
    → ShowsText font ws row column (xs ++ ys) ws2
shows_join font ws row column [] ws1 row1 column1 ys ws2 a s t =
    subst (λ r. ShowsText font ws r column ys ws2) (sym a.0) (subst (λ c. ShowsText font ws row1 c ys ws2) (sym a.1) (subst (λ (l : List ℕ). ShowsText font l row1 column1 ys ws2) s t))
shows_join font ws row column (x ∷ xs) ws1 row1 column1 ys ws2 a s t = (s.0, s.1, shows_join font s.0 (row_after row column) (column_after column) xs ws1 row1 column1 ys ws2 a s.2 t)

-- ---- digits, as printInt takes them

abbrev digit_of : ℕ → ℕ → List ℕ
digit_of n unit = if nat_lt n unit then [] else (48 + n / unit % 10) ∷ []

abbrev digits : ℕ → List ℕ
digits n = digit_of n 10000 ++ (digit_of n 1000 ++ (digit_of n 100 ++ (digit_of n 10 ++ (48 + n % 10) ∷ [])))

is_less : (a b : ℕ) → a < b → nat_lt a b ≡ true
is_less a b h = grind (arith, nat_tests)

is_not_less : (a b : ℕ) → b ≤ a → nat_lt a b ≡ false
is_not_less a b h = grind (arith, nat_tests)

no_digit_of : (n unit : ℕ) → n < unit → digit_of n unit ≡ []
no_digit_of n unit h = ap (λ b. if b then [] else (48 + n / unit % 10) ∷ []) (is_less n unit h)

one_digit_of : (n unit v : ℕ) → unit ≤ n → n / unit % 10 ≡ v → digit_of n unit ≡ (48 + v) ∷ []
one_digit_of n unit v h e = ap (λ b. if b then [] else (48 + n / unit % 10) ∷ []) (is_not_less n unit h) ∙ ap (λ (z : ℕ). (48 + z) ∷ []) e

-- they are those of the decimal
all_digits : (n : ℕ) (a b c d : List ℕ) → digit_of n 10000 ≡ a → digit_of n 1000 ≡ b → digit_of n 100 ≡ c → digit_of n 10 ≡ d → digits n ≡ a ++ (b ++ (c ++ (d ++ (48 + n % 10) ∷ [])))
all_digits n a b c d ha hb hc hd =
    ap (λ z. z ++ (digit_of n 1000 ++ (digit_of n 100 ++ (digit_of n 10 ++ (48 + n % 10) ∷ [])))) ha ∙ ap (λ z. a ++ (z ++ (digit_of n 100 ++ (digit_of n 10 ++ (48 + n % 10) ∷ [])))) hb
    ∙ ap (λ z. a ++ (b ++ (z ++ (digit_of n 10 ++ (48 + n % 10) ∷ [])))) hc ∙ ap (λ z. a ++ (b ++ (c ++ (z ++ (48 + n % 10) ∷ [])))) hd

one_of : (n : ℕ) → n < 10 → digits n ≡ (48 + n) ∷ []
one_of n h =
    all_digits n [] [] [] [] (no_digit_of n 10000 (omega (arith, h))) (no_digit_of n 1000 (omega (arith, h))) (no_digit_of n 100 (omega (arith, h))) (no_digit_of n 10 h)
    ∙ ap (λ (z : ℕ). (48 + z) ∷ []) (let e : n % 10 ≡ n = omega (arith, h) in e)

-- from one length to the next
module _ (n : ℕ) (low : 10 ≤ n) (few : n < 100000) where
  unit_kept : (unit : ℕ) → unit ≡ 10 → digit_of n 10 ≡ (48 + n / 10 % 10) ∷ []
  unit_kept unit e = one_digit_of n 10 (n / 10 % 10) low refl

  up_10 : digit_of n 100 ≡ digit_of (n / 10) 10
  up_10 = ⊎_elim (λ (l : n < 100). no_digit_of n 100 l ∙ sym (no_digit_of (n / 10) 10 (omega (arith, l)))) (λ (g : 100 ≤ n). one_digit_of n 100 (n / 100 % 10) g refl ∙ sym (one_digit_of (n / 10) 10 (n / 100 % 10) (omega (arith, g)) (omega arith))) (cases_lt n 100)

  up_100 : digit_of n 1000 ≡ digit_of (n / 10) 100
  up_100 = ⊎_elim (λ (l : n < 1000). no_digit_of n 1000 l ∙ sym (no_digit_of (n / 10) 100 (omega (arith, l)))) (λ (g : 1000 ≤ n). one_digit_of n 1000 (n / 1000 % 10) g refl ∙ sym (one_digit_of (n / 10) 100 (n / 1000 % 10) (omega (arith, g)) (omega arith))) (cases_lt n 1000)

  up_1000 : digit_of n 10000 ≡ digit_of (n / 10) 1000
  up_1000 =
      ⊎_elim (λ (l : n < 10000). no_digit_of n 10000 l ∙ sym (no_digit_of (n / 10) 1000 (omega (arith, l)))) (λ (g : 10000 ≤ n). one_digit_of n 10000 (n / 10000 % 10) g refl ∙ sym (one_digit_of (n / 10) 1000 (n / 10000 % 10) (omega (arith, g)) (omega arith)))
      (cases_lt n 10000)

  one_more_digit : digits n ≡ digits (n / 10) ++ (48 + n % 10) ∷ []
  one_more_digit =
      all_digits n (digit_of (n / 10) 1000) (digit_of (n / 10) 100) (digit_of (n / 10) 10) ((48 + n / 10 % 10) ∷ []) up_1000 up_100 up_10 (unit_kept 10 refl)
      ∙ sym
      (ap (λ z. z ++ (48 + n % 10) ∷ [])
      (all_digits (n / 10) [] (digit_of (n / 10) 1000) (digit_of (n / 10) 100) (digit_of (n / 10) 10) (no_digit_of (n / 10) 10000 (omega (arith, few))) refl refl refl)
      ∙ append_assoc (digit_of (n / 10) 1000) (digit_of (n / 10) 100 ++ (digit_of (n / 10) 10 ++ (48 + n / 10 % 10) ∷ [])) ((48 + n % 10) ∷ [])
      ∙ ap (λ z. digit_of (n / 10) 1000 ++ z)
      (append_assoc (digit_of (n / 10) 100) (digit_of (n / 10) 10 ++ (48 + n / 10 % 10) ∷ []) ((48 + n % 10) ∷ [])
      ∙ ap (λ z. digit_of (n / 10) 100 ++ z) (append_assoc (digit_of (n / 10) 10) ((48 + n / 10 % 10) ∷ []) ((48 + n % 10) ∷ []))))

-- by as many steps as there may be digits
digits_by : (k n : ℕ) → n < 100000 → n < 10 + k → digits n ≡ decimal n
digits_by zero n few h = one_of n (omega (arith, h)) ∙ sym (decimal_digit n (omega (arith, h)))
digits_by (suc k) n few h =
    ⊎_elim (λ (l : n < 10). one_of n l ∙ sym (decimal_digit n l))
    (λ (g : 10 ≤ n). one_more_digit n g few ∙ ap (λ z. z ++ (48 + n % 10) ∷ []) (digits_by k (n / 10) (omega (arith, few)) (omega (arith, h, g))) ∙ sym (decimal_step n g (omega (arith, few)))) (cases_lt n 10)

digits_are : (n : ℕ) → n < 100000 → digits n ≡ decimal n
digits_are n few = digits_by n n few (omega arith)

-- ---- one cursor after another

module _ {core : Core} (p : IsShipped core) (h : HasStatics p) (ss : List ℕ) where
  twice : (row column row' column' : ℕ) → with_cursor h (with_cursor h ss row column) row' column' ≡ with_cursor h ss row' column'
  twice row column row' column' =
      let a = cell_address row column in
      let a' = cell_address row' column' in
      let v = truth (nat_eq (column % 2) 1) in
      let v' = truth (nat_eq (column' % 2) 1) in
      ap (λ (l : List ℕ). slice_set l h.right v') (turned p h (slice_set ss h.place a) a' v) ∙ set-set (slice_set (slice_set ss h.place a) h.place a') h.right v v' ∙ ap (λ (l : List ℕ). slice_set l h.right v') (set-set ss h.place a a')

  -- the cursor is set to where it is
  pub unmoved : (row column : ℕ) → IsCursorAt h ss row column → with_cursor h ss row column ≡ ss
  unmoved row column at =
      ap (λ (l : List ℕ). slice_set l h.right (truth (nat_eq (column % 2) 1))) (ap (slice_set ss h.place) (sym at.place) ∙ set-get_or ss h.place 0) ∙ ap (slice_set ss h.right) (sym at.right) ∙ set-get_or ss h.right 0

-- ---- the routines

module _ (core : Core) (p : IsShipped core) where
  abbrev output_number : List ℕ → ℕ
  output_number name = number_of core p (codes "Output") name

  abbrev pub print_at : ℕ
  print_at = output_number (codes "printChar")

  abbrev int_at : ℕ
  int_at = output_number (codes "printInt")

  abbrev digit_at : ℕ
  digit_at = output_number (codes "digit")

  abbrev halt_at : ℕ
  halt_at = number_of core p (codes "Sys") (codes "halt")

  is_int : subroutine_at (the_subroutines core) int_at ≡ routine Function (own_number core p 4) 1 1 (int_body print_at digit_at)
  is_int = ap (subroutine_at (the_subroutines core)) (sym (numbered core p (codes "Output") (codes "printInt"))) ∙ leads core p 4 5 (refl, refl)

  is_digit : subroutine_at (the_subroutines core) digit_at ≡ routine Function (own_number core p 4) 3 1 (digit_body print_at)
  is_digit = ap (subroutine_at (the_subroutines core)) (sym (numbered core p (codes "Output") (codes "digit"))) ∙ leads core p 4 6 (refl, refl)

  is_halt : subroutine_at (the_subroutines core) (routine_number p (codes "Sys") (codes "halt")) ≡ routine Function (own_number core p 7) 0 0 halt_body
  is_halt = leads core p 7 1 (refl, refl)

  is_error : subroutine_at (the_subroutines core) (routine_number p (codes "Sys") (codes "error")) ≡ routine Function (own_number core p 7) 1 0 (sys_error_body print_at int_at halt_at)
  is_error = leads core p 7 2 (refl, refl)

-- ---- standing still

-- a state after which it stands still
pub still_behind : (subs : List Subroutine) (s t : State) (m most : ℕ) (ss ws : List ℕ) → ((keys : ℕ → ℕ) → after subs keys m s ≡ Some t) → length s.frames ≤ length t.frames → StandsStill subs t 1 ss ws → m + 1 ≤ most → StandsStill subs s most ss ws
still_behind subs s t m most ss ws leads deep still enough = (m + still.0, (let few = still.1 in omega (arith, few, enough)), there)
  where
    there : (keys : ℕ → ℕ) (n : ℕ) → m + still.0 ≤ n → (u : State) × (after subs keys n s ≡ Some u) × (length s.frames < length u.frames) × (u.statics ≡ ss) × (u.words ≡ ws)
    there keys n h =
        let r = still.2 (keys_behind m keys) (n - m) (omega (arith, h)) in
        let e : n ≡ m + (n - m) = omega (arith, h) in
        let more = r.2 in
        (r.0, ap (λ i. after subs keys i s) e ∙ after_split subs m (n - m) keys s ∙ ap (option_and_then (after subs (keys_behind m keys) (n - m))) (leads keys) ∙ r.1, omega (arith, deep, more), r.3, r.4)

module _ {core : Core} (p : IsShipped core) (s : State) where
  pub halt_law : HaltLaw p s
  halt_law c = (1, omega arith, λ keys n h. there keys n h)
    where
      there : (keys : ℕ → ℕ) (n : ℕ) → 1 ≤ n → (t : State) × (after (the_subroutines core) keys n s ≡ Some t) × (length s.frames < length t.frames) × (t.statics ≡ s.statics) × (t.words ≡ s.words)
      there keys zero h = absurd (omega (arith, h))
      there keys (suc n) h =
          let subs = the_subroutines core in
          let g = routine_number p (codes "Sys") (codes "halt") in
          let (d, ran, a, b) = loops subs g s.statics s.words n in
          let below : List Frame = c.caller ∷ c.below in
          let deep : length s.frames ≡ suc (length c.below) = ap length c.frames in
          let entered : run subs n (record { frame = new_frame subs g []; statics = s.statics; words = s.words }) ≡ Some d =
          ap (λ (z : Frame). run subs n (record { frame = z; statics = s.statics; words = s.words })) (enters subs g _ [] (is_halt core p)) ∙ ran in (
            over below d,
            ap (option_and_then (after subs (λ i. keys (suc i)) n)) (next_at subs s _ (keys 0) c.calls) ∙ run_over subs below (λ i. keys (suc i)) n (record { frame = new_frame subs g []; statics = s.statics; words = s.words }) d entered,
            omega (arith, deep),
            a,
            b,
          )

-- ---- a character printed within a call, where the statics are these but for the cursor

module _ {core : Core} (p : IsShipped core) (h : HasStatics p) (base : List ℕ) (room : (h.place < length base) × (h.right < length base)) (font_in : (2048 ≤ slice_index base h.font + 3 * 32) × (slice_index base h.font + 3 * 128 ≤ 16384)) where
  abbrev subs : List Subroutine
  subs = the_subroutines core

  abbrev font : ℕ
  font = slice_index base h.font

  abbrev pub cursor : ℕ → ℕ → List ℕ
  cursor row column = with_cursor h base row column

  glyph_inside : (k : ℕ) → k < 65536 → (2048 ≤ font + 3 * shown_code k) × (font + 3 * shown_code k + 3 ≤ 16384)
  glyph_inside k small =
      let s = shown k small in
      let low : 32 ≤ shown_code k = shown_low k small in
      let high = s.small in
      (omega (arith, font_in, low), omega (arith, font_in, high))
    where
      shown_low : (k : ℕ) → k < 65536 → 32 ≤ shown_code k
      shown_low k small =
          ⊎_elim
          (λ (l : k < 32). let t : nat_lt k 32 ≡ true = grind (arith, nat_tests) in let v : shown_code k ≡ 127 = ap (λ b. if b then 127 else (if nat_lt 126 k then 127 else k)) t in omega (arith, v))
          (λ (g : 32 ≤ k).
          let t : nat_lt k 32 ≡ false = grind (arith, nat_tests) in
          let v : shown_code k ≡ (if nat_lt 126 k then 127 else k) = ap (λ b. if b then 127 else (if nat_lt 126 k then 127 else k)) t in
          ⊎_elim
          (λ (m : 126 < k). let u : nat_lt 126 k ≡ true = grind (arith, nat_tests) in let w : shown_code k ≡ 127 = v ∙ ap (λ b. if b then 127 else k) u in omega (arith, w))
          (λ (m : k ≤ 126). let u : nat_lt 126 k ≡ false = grind (arith, nat_tests) in let w : shown_code k ≡ k = v ∙ ap (λ b. if b then 127 else k) u in omega (arith, w, g))
          (cases_lt 126 k))
          (cases_lt k 32)

  -- rows and columns stay in range
  row_small : (row column : ℕ) → row_after row column < 23
  row_small row column = omega arith

  column_small : (column : ℕ) → column_after column < 64
  column_small column = omega arith

  print_any_way : (below : List Frame) (f waits : Frame) (ws : List ℕ) (row column k : ℕ) → row < 23 → column < 64 → k < 65536 → k ≢ 128 → k ≢ 129 → length ws ≡ 22528
      → step subs 0 (record { frames = f ∷ below; statics = cursor row column; words = ws })
      ≡ Acts false (record { frames = new_frame subs (print_at core p) (k ∷ []) ∷ waits ∷ below; statics = cursor row column; words = ws })
      → (n : ℕ) × (n ≤ 1800) × (ws' : List ℕ) × IsDrawn ws row column (font + 3 * shown_code k) ws'
      × Way subs (suc (length below)) n (record { frames = f ∷ below; statics = cursor row column; words = ws })
      (record { frames = record waits { text = filled_text 0 waits.text } ∷ below; statics = cursor (row_after row column) (column_after column); words = ws' })
  print_any_way below f waits ws row column k hr hc small no_line no_back long calls =
      let s1 : State = record { frames = f ∷ below; statics = cursor row column; words = ws } in
      let c1 : CallsNext p (codes "Output") (codes "printChar") s1 (k ∷ []) = record {
        top = f;
        caller = waits;
        below = below;
        frames = refl;
        calls = calls ∙ ap (λ (g : ℕ). Acts false (with_top s1 (waits ∷ below) (new_frame subs g (k ∷ [])))) (sym (numbered core p (codes "Output") (codes "printChar")));
      } in
      let glyph = font + 3 * shown_code k in
      let at = stands p h base row column room hr hc in
      let has : HasGlyph h s1 k glyph = record { place = ap (λ z. z + 3 * shown_code k) (font_kept p h base row column room); inside = glyph_inside k small; words = long } in
      let (ws', is, (n, few, back)) = print_law p s1 h row column k glyph small no_line no_back at has c1 in
      let same = twice p h base row column (row_after row column) (column_after column) in
      let s2 : List ℕ → State = λ ss. record { frames = record waits { text = filled_text 0 waits.text } ∷ below; statics = ss; words = ws' } in
      (n, few, ws', is, subst (λ (ss : List ℕ). Way subs (suc (length below)) n s1 (s2 ss)) same (way_of_call subs (suc (length below)) n s1 (s2 (with_cursor h (cursor row column) (row_after row column) (column_after column))) (omega arith) back))

  print_way : (below : List Frame) (f waits : Frame) (ws : List ℕ) (row column k : ℕ) → row < 23 → column < 64 → k < 128 → length ws ≡ 22528
      → step subs 0 (record { frames = f ∷ below; statics = cursor row column; words = ws })
      ≡ Acts false (record { frames = new_frame subs (print_at core p) (k ∷ []) ∷ waits ∷ below; statics = cursor row column; words = ws })
      → (n : ℕ) × (n ≤ 1800) × (ws' : List ℕ) × IsDrawn ws row column (font + 3 * shown_code k) ws'
      × Way subs (suc (length below)) n (record { frames = f ∷ below; statics = cursor row column; words = ws })
      (record { frames = record waits { text = filled_text 0 waits.text } ∷ below; statics = cursor (row_after row column) (column_after column); words = ws' })
  print_way below f waits ws row column k hr hc small long calls =
      print_any_way below f waits ws row column k hr hc (omega (arith, small)) (λ e. omega (arith, e, small)) (λ e. omega (arith, e, small)) long calls

  -- ---- one digit within a call

  abbrev digit_values : ℕ → ℕ → ℕ → List ℕ
  digit_values n rest unit = n ∷ rest ∷ unit ∷ []

  -- the call of printInt with its statics and words
  abbrev int_call : List ℕ → List ℕ → Text → ℕ → ℕ → Call
  int_call ss ws t n rest = at_int subs (int_at core p) ss ws (print_at core p) (digit_at core p) t n rest

  abbrev asks : ℕ → ℕ → ℕ → ℕ → Text → Text
  asks k n rest unit t = asks_digit subs (int_at core p) [] [] (print_at core p) (digit_at core p) k n rest unit t

  abbrev has : ℕ → ℕ → Text → Text
  has k rest t = has_digit subs (int_at core p) [] [] (print_at core p) (digit_at core p) k rest t

  abbrev waiting : ℕ → Text → Text
  waiting k t = Next (Let k (Local 0) Open) t

  none_way : (below : List Frame) (ss ws : List ℕ) (k n rest unit r : ℕ) (t : Text) → word_gt n (word_neg unit) ≡ 65535
      → Way subs (suc (length below)) 8 (over below (int_call ss ws (asks k n rest unit t) n r)) (over below (int_call ss ws (has k rest t) n r))
  none_way below ss ws k n rest unit r t small =
      inner_leaf subs below (int_call ss ws (asks k n rest unit t) n r).frame (int_call ss ws (waiting k t) n r).frame ss ws ss ws (digit_at core p) (digit_values n rest unit)
      (routine Function (own_number core p 4) 3 1 (digit_body (print_at core p))) 6 2 rest (tail (digit_body (print_at core p))) (at_digit subs (digit_at core p) ss ws (print_at core p) End n rest unit 0).frame (is_digit core p) refl
      (no_digit subs (digit_at core p) ss ws (print_at core p) n rest unit small)

  digit_way : (below : List Frame) (ws : List ℕ) (row column n unit q d : ℕ) → row < 23 → column < 64 → length ws ≡ 22528 → n ≤ 32768 → unit ≤ n → d < unit → up_to unit q d ≤ n → q < 10 → (k r : ℕ) (t : Text)
      → (m : ℕ) × (m ≤ 1960) × (ws' : List ℕ) × IsDrawn ws row column (font + 3 * shown_code (48 + q)) ws'
      × Way subs (suc (length below)) m (over below (int_call (cursor row column) ws (asks k (word_neg n) (word_neg (up_to unit q d)) unit t) (word_neg n) r))
      (over below (int_call (cursor (row_after row column) (column_after column)) ws' (has k (word_neg d) t) (word_neg n) r))
  digit_way below ws row column n unit q d hr hc long high low rest most few_units k r t =
      let g = digit_at core p in
      let print = print_at core p in
      let n' = word_neg n in
      let u = up_to unit q d in
      let values = digit_values n' (word_neg u) unit in
      let ss = cursor row column in
      let ss' = cursor (row_after row column) (column_after column) in
      let top : Frame = (int_call ss ws (asks k n' (word_neg u) unit t) n' r).frame in
      let waits : Frame = (int_call ss ws (waiting k t) n' r).frame in
      let s1 : State = record { frames = top ∷ below; statics = ss; words = ws } in
      let c1 : NextCall subs s1 g values = record { top = top; caller = waits; below = below; frames = refl; calls = refl } in
      let under : List Frame = waits ∷ below in
      let least = suc (length under) in
      let first : Call = at_digit subs g ss ws print (digit_body print) n' (word_neg u) unit 0 in
      let shows : Call = at_digit subs g ss ws print (digit_shown subs g ss ws print (48 + q)) n' (word_neg d) unit (48 + q) in
      let ran : run subs (7 + (14 * q + 7)) first ≡ Some shows =
      run_then subs 7 (14 * q + 7) first (at_digit subs g ss ws print (digit_loop print) n' (word_neg u) unit 48) shows (digit_begins subs g ss ws print n' (word_neg u) unit (is_not_smaller n unit low high))
      (counted subs g ss ws print n' unit q d 48 rest (omega (arith, most, high)) (omega (arith, low, high)) (omega (arith, few_units))) in
      let begins : Way subs least (7 + (14 * q + 7)) (opened subs s1 g values c1) (over under shows) =
      way_of_run subs under (7 + (14 * q + 7)) (record { frame = new_frame subs g values; statics = ss; words = ws }) shows
      (ap (λ (z : Frame). run subs (7 + (14 * q + 7)) (record { frame = z; statics = ss; words = ws })) (enters subs g _ values (is_digit core p)) ∙ ran) in
      let asked : Frame = (at_digit subs g ss ws print (Next (Do 7 Open) (tail (tail (digit_loop print)))) n' (word_neg d) unit (48 + q)).frame in
      let (i, few, ws', is, way) = print_way under shows.frame asked ws row column (48 + q) hr hc (omega (arith, few_units)) long refl in
      let done : Call = at_digit subs g ss' ws' print (Next (Do 7 (Value 0)) (tail (tail (digit_loop print)))) n' (word_neg d) unit (48 + q) in
      let last : Call = at_digit subs g ss' ws' print (returns_value 8 (word_neg d) End) n' (word_neg d) unit (48 + q) in
      let ends : Way subs least 2 (over under done) (over under last) = way_of_run subs under 2 done last (digit_done subs g ss' ws' print n' (word_neg d) unit (48 + q)) in
      let whole = way_then subs least (7 + (14 * q + 7)) (i + 2) (opened subs s1 g values c1) (over under shows) (over under last) begins (way_then subs least i 2 (over under shows) (over under done) (over under last) way ends) in
      let count = 7 + (14 * q + 7) + (i + 2) in
      let back = returns_by subs s1 g values c1 count (at_digit subs g ss' ws' print End n' (word_neg d) unit (48 + q)).frame ss' ws' 8 (word_neg d) End whole in
      (suc (suc count), omega (arith, few, few_units), ws', is, way_of_call subs (suc (length below)) (suc (suc count)) s1 (over below (int_call ss' ws' (has k (word_neg d) t) n' r)) (omega arith) back)

  -- the last digit
  last_way : (below : List Frame) (ws : List ℕ) (row column n' d r : ℕ) → row < 23 → column < 64 → length ws ≡ 22528 → d < 10
      → (m : ℕ) × (m ≤ 1806) × (ws' : List ℕ) × IsDrawn ws row column (font + 3 * shown_code (48 + d)) ws'
      × Way subs (suc (length below)) m (over below (int_call (cursor row column) ws (has 7 (word_neg d) (from_one subs (int_at core p) [] [] (print_at core p) (digit_at core p))) n' r))
      (over below (int_call (cursor (row_after row column) (column_after column)) ws' (returns_value 9 0 End) n' (word_neg d)))
  last_way below ws row column n' d r hr hc long small =
      let g = int_at core p in
      let print = print_at core p in
      let digit = digit_at core p in
      let least = suc (length below) in
      let t4 = from_one subs g [] [] print digit in
      let ss = cursor row column in
      let ss' = cursor (row_after row column) (column_after column) in
      let a = int_call ss ws (has 7 (word_neg d) t4) n' r in
      let b = int_call ss ws (asks_one subs g [] [] print digit (48 + d)) n' (word_neg d) in
      let waits = int_call ss ws (Next (Do 8 Open) (tail t4)) n' (word_neg d) in
      let sum : word_sub 48 (word_neg d) ≡ 48 + d = omega (arith, small) in
      let (k, few, ws', is, way) = print_way below b.frame waits.frame ws row column (48 + d) hr hc (omega (arith, small)) long refl in
      let c = int_call ss' ws' (Next (Do 8 (Value 0)) (tail t4)) n' (word_neg d) in
      let e = int_call ss' ws' (returns_value 9 0 End) n' (word_neg d) in (
        4 + (k + 2),
        omega (arith, few),
        ws',
        is,
        way_then subs least 4 (k + 2) (over below a) (over below b) (over below e) (way_of_run subs below 4 a b (int_one subs g ss ws print digit n' (word_neg d) r (48 + d) sum))
            (way_then subs least k 2 (over below b) (over below c) (over below e) way (way_of_run subs below 2 c e (int_done subs g ss' ws' print digit n' (word_neg d)))),
      )

  -- ---- pieces of a run that show texts

  -- what a text leaves: the words and the cell after it
  abbrev Shown : List ℕ → ℕ → ℕ → List ℕ → List ℕ → ℕ → ℕ → Type 0
  Shown ws row column text ws' row' column' = IsBehind row column text row' column' × ShowsText font ws row column text ws'

  pub record Shows (most least : ℕ) (s : State) (to : List ℕ → ℕ → ℕ → State) (text ws : List ℕ) (row column : ℕ) : Type 0 where
    pub n : ℕ
    pub few : n ≤ most
    pub ws' : List ℕ
    pub row' : ℕ
    pub column' : ℕ
    pub behind : IsBehind row column text row' column'
    pub shown : ShowsText font ws row column text ws'
    pub rows : row' < 23
    pub columns : column' < 64
    pub long : length ws' ≡ 22528
    pub way : Way subs least n s (to ws' row' column')

  pub joined_at : (a b least : ℕ) (s : State) (to to' : List ℕ → ℕ → ℕ → State) (xs ys ws : List ℕ) (row column : ℕ) (f : Shows a least s to xs ws row column)
      → Shows b least (to f.ws' f.row' f.column') to' ys f.ws' f.row' f.column' → Shows (a + b) least s to' (xs ++ ys) ws row column
  joined_at a b least s to to' xs ys ws row column f e =
      let few1 = f.few in
      let few2 = e.few in
      record {
        n = f.n + e.n;
        few = omega (arith, few1, few2);
        ws' = e.ws';
        row' = e.row';
        column' = e.column';
        behind = behind_join row column xs f.row' f.column' ys e.row' e.column' f.behind e.behind;
        shown = shows_join font ws row column xs f.ws' f.row' f.column' ys e.ws' f.behind f.shown e.shown;
        rows = e.rows;
        columns = e.columns;
        long = e.long;
        way = way_then subs least f.n e.n s (to f.ws' f.row' f.column') (to' e.ws' e.row' e.column') f.way e.way;
      }

  joined : (a b least : ℕ) (s : State) (to to' : List ℕ → ℕ → ℕ → State) (xs ys ws : List ℕ) (row column : ℕ) → Shows a least s to xs ws row column
      → ((ws1 : List ℕ) (row1 column1 : ℕ) → row1 < 23 → column1 < 64 → length ws1 ≡ 22528 → Shows b least (to ws1 row1 column1) to' ys ws1 row1 column1)
      → Shows (a + b) least s to' (xs ++ ys) ws row column
  joined a b least s to to' xs ys ws row column f g = joined_at a b least s to to' xs ys ws row column f (g f.ws' f.row' f.column' f.rows f.columns f.long)

  -- nothing is shown
  silent : (n least : ℕ) (s : State) (to : List ℕ → ℕ → ℕ → State) (ws : List ℕ) (row column : ℕ) → row < 23 → column < 64 → length ws ≡ 22528 → Way subs least n s (to ws row column) → Shows n least s to [] ws row column
  silent n least s to ws row column hr hc long way =
      record { n = n; few = omega arith; ws' = ws; row' = row; column' = column; behind = (refl, refl); shown = refl; rows = hr; columns = hc; long = long; way = way }

  -- one character is
  single : (n most least k : ℕ) (s : State) (to : List ℕ → ℕ → ℕ → State) (ws ws' : List ℕ) (row column : ℕ) → n ≤ most → IsDrawn ws row column (font + 3 * shown_code k) ws' → length ws ≡ 22528
      → Way subs least n s (to ws' (row_after row column) (column_after column)) → Shows most least s to (k ∷ []) ws row column
  single n most least k s to ws ws' row column few is long way =
      record {
        n = n;
        few = few;
        ws' = ws';
        row' = row_after row column;
        column' = column_after column;
        behind = (refl, refl);
        shown = (ws', is, refl);
        rows = row_small row column;
        columns = column_small column;
        long = is.same_length ∙ long;
        way = way;
      }

  -- a call of printChar
  pub print_any : (below : List Frame) (f waits : Frame) (ws : List ℕ) (row column k : ℕ) → row < 23 → column < 64 → k < 65536 → k ≢ 128 → k ≢ 129 → length ws ≡ 22528
      → step subs 0 (record { frames = f ∷ below; statics = cursor row column; words = ws })
      ≡ Acts false (record { frames = new_frame subs (print_at core p) (k ∷ []) ∷ waits ∷ below; statics = cursor row column; words = ws })
      → Shows 1800 (suc (length below)) (record { frames = f ∷ below; statics = cursor row column; words = ws })
      (λ ws' row' column'. record { frames = record waits { text = filled_text 0 waits.text } ∷ below; statics = cursor row' column'; words = ws' }) (k ∷ []) ws row column
  print_any below f waits ws row column k hr hc small no_line no_back long calls =
      let (n, few, ws', is, way) = print_any_way below f waits ws row column k hr hc small no_line no_back long calls in
      single n 1800 (suc (length below)) k (record { frames = f ∷ below; statics = cursor row column; words = ws })
      (λ ws' row' column'. record { frames = record waits { text = filled_text 0 waits.text } ∷ below; statics = cursor row' column'; words = ws' }) ws ws' row column few is long way

  -- the texts of printInt after its calls of digit
  abbrev behind_thousand : Text
  behind_thousand = from_thousand subs (int_at core p) [] [] (print_at core p) (digit_at core p)

  abbrev behind_hundred : Text
  behind_hundred = from_hundred subs (int_at core p) [] [] (print_at core p) (digit_at core p)

  abbrev behind_ten : Text
  behind_ten = from_ten subs (int_at core p) [] [] (print_at core p) (digit_at core p)

  abbrev behind_one : Text
  behind_one = from_one subs (int_at core p) [] [] (print_at core p) (digit_at core p)

  abbrev stands_at : List Frame → Text → ℕ → ℕ → List ℕ → ℕ → ℕ → State
  stands_at below t n r ws row column = over below (int_call (cursor row column) ws t n r)

  -- a call of digit, where the rest is this many units and d
  stage : (below : List Frame) (ws : List ℕ) (row column n unit q d rest k r : ℕ) (t : Text) → row < 23 → column < 64 → length ws ≡ 22528 → n ≤ 32768 → unit ≤ 32768 → d < unit → up_to unit q d ≡ rest → rest ≤ n → q < 10
      → (n < unit → rest ≡ d) → (n / unit % 10 ≡ q)
      → Shows 1960 (suc (length below)) (stands_at below (asks k (word_neg n) (word_neg rest) unit t) (word_neg n) r ws row column) (stands_at below (has k (word_neg d) t) (word_neg n) r) (digit_of n unit) ws row column
  stage below ws row column n unit q d rest k r t hr hc long high big low is most few none value =
      let n' = word_neg n in
      let least = suc (length below) in
      ⊎_elim
      (λ (l : n < unit).
      let from = stands_at below (asks k n' (word_neg rest) unit t) n' r ws row column in
      let to = stands_at below (has k (word_neg d) t) n' r in
      let way : Way subs least 8 from (to ws row column) =
      subst (λ (z : ℕ). Way subs least 8 from (stands_at below (has k (word_neg z) t) n' r ws row column)) (none l) (none_way below (cursor row column) ws k n' (word_neg rest) unit r t (is_smaller n unit l big)) in
      subst (λ text. Shows 1960 least from to text ws row column) (sym (no_digit_of n unit l))
      (record { n = 8; few = omega arith; ws' = ws; row' = row; column' = column; behind = (refl, refl); shown = refl; rows = hr; columns = hc; long = long; way = way }))
      (λ (l : unit ≤ n).
      let from = stands_at below (asks k n' (word_neg rest) unit t) n' r ws row column in
      let to = stands_at below (has k (word_neg d) t) n' r in
      let (m, enough, ws', drawn, way) = digit_way below ws row column n unit q d hr hc long high l low (omega (arith, is, most)) few k r t in
      subst (λ text. Shows 1960 least from to text ws row column) (sym (one_digit_of n unit q l value))
      (single m 1960 least (48 + q) from to ws ws' row column enough drawn long
      (subst (λ (z : ℕ). Way subs least m (stands_at below (asks k n' (word_neg z) unit t) n' r ws row column) (to ws' (row_after row column) (column_after column))) is way)))
      (cases_lt n unit)

  -- the digits, from the first call of digit on
  digits_shown : (below : List Frame) (ws : List ℕ) (row column n : ℕ) → row < 23 → column < 64 → length ws ≡ 22528 → n ≤ 32768
      → (rest : ℕ) × Shows 9658 (suc (length below)) (stands_at below (asks 4 (word_neg n) (word_neg n) 10000 behind_thousand) (word_neg n) 0 ws row column) (stands_at below (returns_value 9 0 End) (word_neg n) rest) (digits n) ws row column
  digits_shown below ws row column n hr hc long high =
      let g = int_at core p in
      let print = print_at core p in
      let digit = digit_at core p in
      let n' = word_neg n in
      let r1 = n % 10000 in
      let r2 = r1 % 1000 in
      let r3 = r2 % 100 in
      let r4 = r3 % 10 in
      let least = suc (length below) in
      let w1 = word_neg r1 in
      let w2 = word_neg r2 in
      let w3 = word_neg r3 in
      let w4 = word_neg r4 in
      let a1 = stands_at below (asks 4 n' n' 10000 behind_thousand) n' 0 in
      let b1 = stands_at below (has 4 w1 behind_thousand) n' 0 in
      let a2 = stands_at below (asks 5 n' w1 1000 behind_hundred) n' w1 in
      let b2 = stands_at below (has 5 w2 behind_hundred) n' w1 in
      let a3 = stands_at below (asks 6 n' w2 100 behind_ten) n' w2 in
      let b3 = stands_at below (has 6 w3 behind_ten) n' w2 in
      let a4 = stands_at below (asks 7 n' w3 10 behind_one) n' w3 in
      let b4 = stands_at below (has 7 w4 behind_one) n' w3 in
      let e = stands_at below (returns_value 9 0 End) n' w4 in
      let t4 : List ℕ = (48 + n % 10) ∷ [] in
      let t3 : List ℕ = digit_of n 10 ++ t4 in
      let t2 : List ℕ = digit_of n 100 ++ t3 in
      let t1 : List ℕ = digit_of n 1000 ++ t2 in
      let last : (ws1 : List ℕ) (row1 column1 : ℕ) → row1 < 23 → column1 < 64 → length ws1 ≡ 22528 → Shows 1806 least (b4 ws1 row1 column1) e t4 ws1 row1 column1 =
      λ ws1 row1 column1 hr1 hc1 long1.
      let (m, few, ws', is, way) = last_way below ws1 row1 column1 n' r4 w3 hr1 hc1 long1 (omega arith) in
      subst (λ (v : ℕ). Shows 1806 least (b4 ws1 row1 column1) e ((48 + v) ∷ []) ws1 row1 column1) (let f : r4 ≡ n % 10 = omega arith in f)
      (single m 1806 least (48 + r4) (b4 ws1 row1 column1) e ws1 ws' row1 column1 few is long1 way) in
      let tens : (ws1 : List ℕ) (row1 column1 : ℕ) → row1 < 23 → column1 < 64 → length ws1 ≡ 22528 → Shows 3766 least (a4 ws1 row1 column1) e t3 ws1 row1 column1 =
      λ ws1 row1 column1 hr1 hc1 long1.
      joined 1960 1806 least (a4 ws1 row1 column1) b4 e (digit_of n 10) t4 ws1 row1 column1
      (stage below ws1 row1 column1 n 10 (r3 / 10) r4 r3 7 w3 behind_one hr1 hc1 long1 high (omega arith) (omega arith) (up_to_10 (r3 / 10) r4 ∙ (let f : 10 * (r3 / 10) + r4 ≡ r3 = omega arith in f)) (omega arith) (omega arith) (λ l. omega (arith, l)) (omega arith)) last in
      let from_b3 : (ws1 : List ℕ) (row1 column1 : ℕ) → row1 < 23 → column1 < 64 → length ws1 ≡ 22528 → Shows 3770 least (b3 ws1 row1 column1) e t3 ws1 row1 column1 =
      λ ws1 row1 column1 hr1 hc1 long1.
      joined 4 3766 least (b3 ws1 row1 column1) a4 e [] t3 ws1 row1 column1
      (silent 4 least (b3 ws1 row1 column1) a4 ws1 row1 column1 hr1 hc1 long1 (way_of_run subs below 4 _ _ (int_ten subs g (cursor row1 column1) ws1 print digit n' w3 w2))) tens in
      let hundreds : (ws1 : List ℕ) (row1 column1 : ℕ) → row1 < 23 → column1 < 64 → length ws1 ≡ 22528 → Shows 5730 least (a3 ws1 row1 column1) e t2 ws1 row1 column1 =
      λ ws1 row1 column1 hr1 hc1 long1.
      joined 1960 3770 least (a3 ws1 row1 column1) b3 e (digit_of n 100) t3 ws1 row1 column1
      (stage below ws1 row1 column1 n 100 (r2 / 100) r3 r2 6 w2 behind_ten hr1 hc1 long1 high (omega arith) (omega arith) (up_to_100 (r2 / 100) r3 ∙ (let f : 100 * (r2 / 100) + r3 ≡ r2 = omega arith in f)) (omega arith) (omega arith) (λ l. omega (arith, l)) (omega arith)) from_b3 in
      let from_b2 : (ws1 : List ℕ) (row1 column1 : ℕ) → row1 < 23 → column1 < 64 → length ws1 ≡ 22528 → Shows 5734 least (b2 ws1 row1 column1) e t2 ws1 row1 column1 =
      λ ws1 row1 column1 hr1 hc1 long1.
      joined 4 5730 least (b2 ws1 row1 column1) a3 e [] t2 ws1 row1 column1
      (silent 4 least (b2 ws1 row1 column1) a3 ws1 row1 column1 hr1 hc1 long1 (way_of_run subs below 4 _ _ (int_hundred subs g (cursor row1 column1) ws1 print digit n' w2 w1))) hundreds in
      let thousands : (ws1 : List ℕ) (row1 column1 : ℕ) → row1 < 23 → column1 < 64 → length ws1 ≡ 22528 → Shows 7694 least (a2 ws1 row1 column1) e t1 ws1 row1 column1 =
      λ ws1 row1 column1 hr1 hc1 long1.
      joined 1960 5734 least (a2 ws1 row1 column1) b2 e (digit_of n 1000) t2 ws1 row1 column1
      (stage below ws1 row1 column1 n 1000 (r1 / 1000) r2 r1 5 w1 behind_hundred hr1 hc1 long1 high (omega arith) (omega arith) (up_to_1000 (r1 / 1000) r2 ∙ (let f : 1000 * (r1 / 1000) + r2 ≡ r1 = omega arith in f)) (omega arith) (omega arith) (λ l. omega (arith, l)) (omega arith)) from_b2 in
      let from_b1 : (ws1 : List ℕ) (row1 column1 : ℕ) → row1 < 23 → column1 < 64 → length ws1 ≡ 22528 → Shows 7698 least (b1 ws1 row1 column1) e t1 ws1 row1 column1 =
      λ ws1 row1 column1 hr1 hc1 long1.
      joined 4 7694 least (b1 ws1 row1 column1) a2 e [] t1 ws1 row1 column1
      (silent 4 least (b1 ws1 row1 column1) a2 ws1 row1 column1 hr1 hc1 long1 (way_of_run subs below 4 _ _ (int_thousand subs g (cursor row1 column1) ws1 print digit n' w1 0))) thousands in (
        w4,
        joined 1960 7698 least (a1 ws row column) b1 e (digit_of n 10000) t1 ws row column
            (stage below ws row column n 10000 (n / 10000) r1 n 4 0 behind_thousand hr hc long high (omega arith) (omega arith) (up_to_10000 (n / 10000) r1 ∙ (let f : 10000 * (n / 10000) + r1 ≡ n = omega arith in f)) (omega arith) (omega (arith, high)) (λ l. omega (arith, l)) (omega (arith, high))) from_b1,
      )

  -- the whole of printInt
  int_shown : (below : List Frame) (ws : List ℕ) (row column n : ℕ) → row < 23 → column < 64 → length ws ≡ 22528 → n < 65536
      → (n' : ℕ) × (rest : ℕ) × Shows 11500 (suc (length below)) (stands_at below (int_body (print_at core p) (digit_at core p)) n 0 ws row column) (stands_at below (returns_value 9 0 End) n' rest) (shown_number n) ws row column
  int_shown below ws row column n hr hc long small =
      let g = int_at core p in
      let print = print_at core p in
      let digit = digit_at core p in
      let least = suc (length below) in
      let a0 = stands_at below (int_body print digit) n 0 in
      ⊎_elim
      (λ (l : n < 32768).
      let n' = word_neg n in
      let (rest, shows) = digits_shown below ws row column n hr hc long (omega (arith, l)) in
      let e = stands_at below (returns_value 9 0 End) n' rest in
      let f : Way subs least 10 (a0 ws row column) (stands_at below (asks 4 n' n' 10000 behind_thousand) n' 0 ws row column) = way_of_run subs below 10 _ _ (int_begins subs g (cursor row column) ws print digit n n' (not_negative n l) refl) in
      let few = shows.few in
      let whole : Shows 11500 least (a0 ws row column) e (digits n) ws row column = record {
        n = 10 + shows.n;
        few = omega (arith, few);
        ws' = shows.ws';
        row' = shows.row';
        column' = shows.column';
        behind = shows.behind;
        shown = shows.shown;
        rows = shows.rows;
        columns = shows.columns;
        long = shows.long;
        way = way_then subs least 10 shows.n (a0 ws row column) (stands_at below (asks 4 n' n' 10000 behind_thousand) n' 0 ws row column) (e shows.ws' shows.row' shows.column') f shows.way;
      } in
      let same : shown_number n ≡ digits n = ap (λ b. if b then decimal n else 45 ∷ decimal (65536 - n)) (is_less n 32768 l) ∙ sym (digits_are n (omega (arith, l))) in
      (n', rest, subst (λ text. Shows 11500 least (a0 ws row column) e text ws row column) (sym same) whole))
      (λ (l : 32768 ≤ n).
      let m = 65536 - n in
      let neg : word_neg m ≡ n = omega (arith, l, small) in
      let asks_it : Call = int_call (cursor row column) ws (asks_minus subs g [] [] print digit) n 0 in
      let waits : Call = int_call (cursor row column) ws (Next (Do 2 Open) (tail (int_body print digit))) n 0 in
      let (i, short, ws1, drawn, way1) = print_way below asks_it.frame waits.frame ws row column 45 hr hc (omega arith) long refl in
      let row1 = row_after row column in
      let column1 = column_after column in
      let long1 = drawn.same_length ∙ long in
      let (rest, shows) = digits_shown below ws1 row1 column1 m (row_small row column) (column_small column) long1 (omega (arith, l)) in
      let e = stands_at below (returns_value 9 0 End) n rest in
      let has_it : Call = int_call (cursor row1 column1) ws1 (has_minus subs g [] [] print digit) n 0 in
      let first : State = over below (int_call (cursor row1 column1) ws1 (asks 4 n n 10000 behind_thousand) n 0) in
      let final : State = e shows.ws' shows.row' shows.column' in
      let few = shows.few in
      let last_way : Way subs least shows.n first final =
      subst (λ (z : ℕ). Way subs least shows.n (over below (int_call (cursor row1 column1) ws1 (asks 4 z z 10000 behind_thousand) z 0)) (stands_at below (returns_value 9 0 End) z rest shows.ws' shows.row' shows.column')) neg shows.way in
      let whole : Shows 11500 least (a0 ws row column) e (45 ∷ digits m) ws row column = record {
        n = 5 + (i + (4 + shows.n));
        few = omega (arith, few, short);
        ws' = shows.ws';
        row' = shows.row';
        column' = shows.column';
        behind = shows.behind;
        shown = (ws1, drawn, shows.shown);
        rows = shows.rows;
        columns = shows.columns;
        long = shows.long;
        way = way_then subs least 5 (i + (4 + shows.n)) (a0 ws row column) (over below asks_it) final (way_of_run subs below 5 _ _ (minus_begins subs g (cursor row column) ws print digit n (negative n l)))
            (way_then subs least i (4 + shows.n) (over below asks_it) (over below has_it) final way1 (way_then subs least 4 shows.n (over below has_it) first final (way_of_run subs below 4 _ _ (minus_done subs g (cursor row1 column1) ws1 print digit n)) last_way));
      } in
      let same : shown_number n ≡ 45 ∷ digits m = ap (λ b. if b then decimal n else 45 ∷ decimal (65536 - n)) (is_not_less n 32768 l) ∙ ap (λ (z : List ℕ). 45 ∷ z) (sym (digits_are m (omega (arith, l)))) in
      (n, rest, subst (λ text. Shows 11500 least (a0 ws row column) e text ws row column) (sym same) whole))
      (cases_lt n 32768)

  digits_way : (below : List Frame) (ws : List ℕ) (row column n : ℕ) → row < 23 → column < 64 → length ws ≡ 22528 → n < 65536
      → (m : ℕ) × (m ≤ 11500) × (ws' : List ℕ) × (row' : ℕ) × (column' : ℕ) × Shown ws row column (shown_number n) ws' row' column' × (n' : ℕ) × (rest : ℕ)
      × Way subs (suc (length below)) m (over below (int_call (cursor row column) ws (int_body (print_at core p) (digit_at core p)) n 0)) (over below (int_call (cursor row' column') ws' (returns_value 9 0 End) n' rest))
  digits_way below ws row column n hr hc long small =
      let (n', rest, shows) = int_shown below ws row column n hr hc long small in
      (shows.n, shows.few, shows.ws', shows.row', shows.column', (shows.behind, shows.shown), n', rest, shows.way)

  -- ---- the error's own text

  abbrev error_call : List ℕ → List ℕ → ℕ → Text → Call
  error_call ss ws n t = at_error subs (routine_number p (codes "Sys") (codes "error")) ss ws (print_at core p) (int_at core p) (halt_at core p) n t

  abbrev letter : ℕ → ℕ → ℕ → Text
  letter n k c = asks_letter subs (routine_number p (codes "Sys") (codes "error")) [] [] (print_at core p) (int_at core p) (halt_at core p) n k c

  abbrev lettered : ℕ → ℕ → Text
  lettered n k = has_letter subs (routine_number p (codes "Sys") (codes "error")) [] [] (print_at core p) (int_at core p) (halt_at core p) n k

  abbrev left_of : ℕ → ℕ → Text
  left_of n k = error_tail subs (routine_number p (codes "Sys") (codes "error")) [] [] (print_at core p) (int_at core p) (halt_at core p) n k

  abbrev numbering : ℕ → Text
  numbering n = asks_number subs (routine_number p (codes "Sys") (codes "error")) [] [] (print_at core p) (int_at core p) (halt_at core p) n

  abbrev halting : ℕ → Text
  halting n = asks_halt subs (routine_number p (codes "Sys") (codes "error")) [] [] (print_at core p) (int_at core p) (halt_at core p) n

  letter_way : (below : List Frame) (ws : List ℕ) (row column n k c : ℕ) → row < 23 → column < 64 → length ws ≡ 22528 → c < 128
      → (m : ℕ) × (m ≤ 1800) × (ws' : List ℕ) × IsDrawn ws row column (font + 3 * shown_code c) ws'
      × Way subs (suc (length below)) m (over below (error_call (cursor row column) ws n (letter n k c))) (over below (error_call (cursor (row_after row column) (column_after column)) ws' n (lettered n k)))
  letter_way below ws row column n k c hr hc long small =
      print_way below (error_call (cursor row column) ws n (letter n k c)).frame (error_call (cursor row column) ws n (Next (Do (suc k) Open) (left_of n (suc k)))).frame ws row column c hr hc small long refl

  -- the call of printInt
  number_way : (below : List Frame) (ws : List ℕ) (row column n : ℕ) → row < 23 → column < 64 → length ws ≡ 22528 → n < 65536
      → (m : ℕ) × (m ≤ 11502) × (ws' : List ℕ) × (row' : ℕ) × (column' : ℕ) × Shown ws row column (shown_number n) ws' row' column'
      × Way subs (suc (length below)) m (over below (error_call (cursor row column) ws n (numbering n))) (over below (error_call (cursor row' column') ws' n (Next (Do 4 (Value 0)) (left_of n 4))))
  number_way below ws row column n hr hc long small =
      let g = int_at core p in
      let ss = cursor row column in
      let top : Frame = (error_call ss ws n (numbering n)).frame in
      let waits : Frame = (error_call ss ws n (Next (Do 4 Open) (left_of n 4))).frame in
      let s1 : State = record { frames = top ∷ below; statics = ss; words = ws } in
      let c1 : NextCall subs s1 g (n ∷ []) = record { top = top; caller = waits; below = below; frames = refl; calls = refl } in
      let under : List Frame = waits ∷ below in
      let least = suc (length under) in
      let first : Call = int_call ss ws (int_body (print_at core p) (digit_at core p)) n 0 in
      let (m, few, ws', row', column', is, n', rest, way) = digits_way under ws row column n hr hc long small in
      let ss' = cursor row' column' in
      let last : Call = int_call ss' ws' (returns_value 9 0 End) n' rest in
      let start : opened subs s1 g (n ∷ []) c1 ≡ over under first = ap (λ (z : Frame). record { frames = z ∷ under; statics = ss; words = ws }) (enters subs g _ (n ∷ []) (is_int core p)) in
      let whole = subst (λ (z : State). Way subs least m z (over under last)) (sym start) way in
      let back = returns_by subs s1 g (n ∷ []) c1 m (int_call ss' ws' End n' rest).frame ss' ws' 9 0 End whole in
      (suc (suc m), omega (arith, few), ws', row', column', is, way_of_call subs (suc (length below)) (suc (suc m)) s1 (over below (error_call ss' ws' n (Next (Do 4 (Value 0)) (left_of n 4)))) (omega arith) back)

  -- from the beginning of the text to the endless loop
  error_way : (below : List Frame) (ws : List ℕ) (row column n : ℕ) → row < 23 → column < 64 → length ws ≡ 22528 → n < 65536
      → (m : ℕ) × (m ≤ 16911) × (ws' : List ℕ) × (row' : ℕ) × (column' : ℕ) × Shown ws row column (codes "ERR" ++ shown_number n) ws' row' column'
      × Way subs (suc (length below)) m (over below (error_call (cursor row column) ws n (sys_error_body (print_at core p) (int_at core p) (halt_at core p)))) (over below (error_call (cursor row' column') ws' n (halting n)))
  error_way below ws row column n hr hc long small =
      let g = routine_number p (codes "Sys") (codes "error") in
      let print = print_at core p in
      let int = int_at core p in
      let halt = halt_at core p in
      let d = suc (length below) in
      let row1 = row_after row column in
      let column1 = column_after column in
      let row2 = row_after row1 column1 in
      let column2 = column_after column1 in
      let row3 = row_after row2 column2 in
      let column3 = column_after column2 in
      let (m1, few1, ws1, is1, way1) = letter_way below ws row column n 0 69 hr hc long (omega arith) in
      let long1 = is1.same_length ∙ long in
      let (m2, few2, ws2, is2, way2) = letter_way below ws1 row1 column1 n 1 82 (row_small row column) (column_small column) long1 (omega arith) in
      let long2 = is2.same_length ∙ long1 in
      let (m3, few3, ws3, is3, way3) = letter_way below ws2 row2 column2 n 2 82 (row_small row1 column1) (column_small column1) long2 (omega arith) in
      let long3 = is3.same_length ∙ long2 in
      let (m4, few4, ws4, row4, column4, is4, way4) = number_way below ws3 row3 column3 n (row_small row2 column2) (column_small column2) long3 small in
      let a0 = error_call (cursor row column) ws n (sys_error_body print int halt) in
      let a1 = error_call (cursor row column) ws n (letter n 0 69) in
      let b1 = error_call (cursor row1 column1) ws1 n (lettered n 0) in
      let a2 = error_call (cursor row1 column1) ws1 n (letter n 1 82) in
      let b2 = error_call (cursor row2 column2) ws2 n (lettered n 1) in
      let a3 = error_call (cursor row2 column2) ws2 n (letter n 2 82) in
      let b3 = error_call (cursor row3 column3) ws3 n (lettered n 2) in
      let a4 = error_call (cursor row3 column3) ws3 n (numbering n) in
      let b4 = error_call (cursor row4 column4) ws4 n (Next (Do 4 (Value 0)) (left_of n 4)) in
      let a5 = error_call (cursor row4 column4) ws4 n (halting n) in
      let n7 = m4 + 1 in
      let n6 = 2 + n7 in
      let n5 = m3 + n6 in
      let n4 = 2 + n5 in
      let n3 = m2 + n4 in
      let n2 = 2 + n3 in
      let n1 = m1 + n2 in
      let whole =
      way_then subs d 1 n1 (over below a0) (over below a1) (over below a5) (way_of_run subs below 1 a0 a1 (first_letter subs g (cursor row column) ws print int halt n))
      (way_then subs d m1 n2 (over below a1) (over below b1) (over below a5) way1
      (way_then subs d 2 n3 (over below b1) (over below a2) (over below a5) (way_of_run subs below 2 b1 a2 (second_letter subs g (cursor row1 column1) ws1 print int halt n))
      (way_then subs d m2 n4 (over below a2) (over below b2) (over below a5) way2
      (way_then subs d 2 n5 (over below b2) (over below a3) (over below a5) (way_of_run subs below 2 b2 a3 (third_letter subs g (cursor row2 column2) ws2 print int halt n))
      (way_then subs d m3 n6 (over below a3) (over below b3) (over below a5) way3
      (way_then subs d 2 n7 (over below b3) (over below a4) (over below a5) (way_of_run subs below 2 b3 a4 (number_begins subs g (cursor row3 column3) ws3 print int halt n))
      (way_then subs d m4 1 (over below a4) (over below b4) (over below a5) way4 (way_of_run subs below 1 b4 a5 (number_done subs g (cursor row4 column4) ws4 print int halt n))))))))) in
      (1 + n1, omega (arith, few1, few2, few3, few4), ws4, row4, column4, (is4.0, (ws1, is1, (ws2, is2, (ws3, is3, is4.1)))), whole)

module _ {core : Core} (p : IsShipped core) (s : State) where
  pub error_law : ErrorLaw p s
  error_law h row column n small at has c =
      let subs = the_subroutines core in
      let g = routine_number p (codes "Sys") (codes "error") in
      let below : List Frame = c.caller ∷ c.below in
      let base = s.statics in
      let (m, few, ws', row', column', is, way) = error_way p h base at.room has.inside below s.words row column n at.rows at.columns has.words small in
      let ss' = with_cursor h base row' column' in
      let first : Call = error_call p h base at.room has.inside base s.words n (sys_error_body (print_at core p) (int_at core p) (halt_at core p)) in
      let begin : Call = error_call p h base at.room has.inside (with_cursor h base row column) s.words n (sys_error_body (print_at core p) (int_at core p) (halt_at core p)) in
      let last : Call = error_call p h base at.room has.inside ss' ws' n (halting p h base at.room has.inside n) in
      let waits : Call = error_call p h base at.room has.inside ss' ws' n (Next (Do 5 Open) (left_of p h base at.room has.inside n 5)) in
      let start : opened subs s g (n ∷ []) c ≡ over below begin =
      ap (λ (z : Frame). record { frames = z ∷ below; statics = base; words = s.words }) (enters subs g _ (n ∷ []) (is_error core p))
      ∙ ap (λ (ss : List ℕ). record { frames = first.frame ∷ below; statics = ss; words = s.words }) (sym (unmoved p h base row column at)) in
      let leads : (keys : ℕ → ℕ) → after subs keys (suc m) s ≡ Some (over below last) =
      λ keys. ap (option_and_then (after subs (λ i. keys (suc i)) m)) (next_at subs s (opened subs s g (n ∷ []) c) (keys 0) c.calls) ∙ ap (after subs (λ i. keys (suc i)) m) start ∙ way.leads (λ i. keys (suc i)) in
      let deep : length s.frames ≡ suc (length c.below) = ap length c.frames in
      let t = over below last in
      let halts : CallsNext p (codes "Sys") (codes "halt") t [] = record {
        top = last.frame;
        caller = waits.frame;
        below = below;
        frames = refl;
        calls = ap (λ (k : ℕ). Acts false (with_top t (waits.frame ∷ below) (new_frame subs k []))) (sym (numbered core p (codes "Sys") (codes "halt")));
      } in
      (ws', row', column', is.0, is.1, still_behind subs s t (suc m) 20000 ss' ws' leads (omega (arith, deep)) (halt_law p t halts) (omega (arith, few)))

  pub int_law : IntLaw p s
  int_law h row column n small at has c =
      let subs = the_subroutines core in
      let g = routine_number p (codes "Output") (codes "printInt") in
      let below : List Frame = c.caller ∷ c.below in
      let base = s.statics in
      let f = int_at core p in
      let print = print_at core p in
      let digit = digit_at core p in
      let least = suc (length below) in
      let (m, few, ws', row', column', is, n', rest, way) = digits_way p h base at.room has.inside below s.words row column n at.rows at.columns has.words small in
      let ss' = with_cursor h base row' column' in
      let first : Call = in_call f 0 (with_cursor h base row column) s.words (int_body print digit) (n ∷ []) (0 ∷ []) in
      let last : Call = in_call f 0 ss' ws' (returns_value 9 0 End) (n' ∷ []) (rest ∷ []) in
      let same : g ≡ f = numbered core p (codes "Output") (codes "printInt") in
      let start : opened subs s g (n ∷ []) c ≡ over below first =
      ap (λ (k : ℕ). record { frames = new_frame subs k (n ∷ []) ∷ below; statics = base; words = s.words }) same
      ∙ ap (λ (z : Frame). record { frames = z ∷ below; statics = base; words = s.words }) (enters subs f _ (n ∷ []) (is_int core p))
      ∙ ap (λ (ss : List ℕ). record { frames = first.frame ∷ below; statics = ss; words = s.words }) (sym (unmoved p h base row column at)) in
      let whole = subst (λ (z : State). Way subs least m z (over below last)) (sym start) way in
      (ws', row', column', is.0, is.1, (suc (suc m), omega (arith, few), returns_by subs s g (n ∷ []) c m (in_call f 0 ss' ws' End (n' ∷ []) (rest ∷ [])).frame ss' ws' 9 0 End whole))
