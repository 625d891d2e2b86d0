-- The number that a text begins with: one loop over its characters, in a call within a call.
use Rattle.std.proofs.Common.{◌≡◌, ◌≢◌, ◌⊎◌, inl, inr, ⊎_elim, ℕ, suc, ◌+◌, ◌-◌, ◌*◌, ◌%◌, ◌<◌, ◌≤◌, true, false, nat_eq, nat_lt, bit_or, List, [], ◌∷◌, length, Some, codes, refl, sym, ap, ◌∙◌, subst, arith}
use Rattle.std.specs.Prelude.{slice_index, if◌then◌else◌}
use Rattle.std.specs.List.{AllByRecursion}
use Rattle.std.proofs.lemmas.Bool.{cases_lt}
use Rattle.std.proofs.lemmas.Bool.Decides.{nat_tests}
use Rattle.std.proofs.lemmas.Nat.{le_or_l, le_or_r}
use Rattle.word16.specs.Words.{word_add, word_sub, word_neg, word_lt, word_gt}
use Rattle.jack_core.specs.declared.program.Core.{Core}
use Rattle.jack_core.specs.Texts.{the_subroutines}
use Rattle.jack_meaning.specs.Text.{Argument, Local, Minus, Plus, Subtract, Or, Less, Greater, Equal, Expression, Literal, Value, Name, This, Field, Unary, Binary, Load, Open, Call as Calling, NoMore, More, Let, If, While, Return, Text, End, Next, Method, Subroutine}
use Rattle.jack_meaning.specs.Meaning.{Frame, State, subroutine_at, new_frame}
use Rattle.os_laws.specs.Heap.{word_at}
use Rattle.os_laws.specs.Names.{IsShipped}
use Rattle.os_laws.proofs.Basics.{enters}
use Rattle.os_laws.proofs.Comparing.{less, not_less, negative, not_negative}
use Rattle.os_laws.proofs.Runs.{Call, over, run, run_then}
use Rattle.os_laws.proofs.Searching.{Reaches}
use Rattle.os_functions.specs.Calls.{routine_number, Gives}
use Rattle.os_functions.specs.StringLaws.{StringAt, CallsString}
use Rattle.os_strings.proofs.OwnCalls.{same_own}
use Rattle.os_strings.specs.ValueLaws.{is_digit, number_behind, number_in, ValueLaw}
use Rattle.os_functions.proofs.Named.{leads, own_number}
use Rattle.os_functions.proofs.Pieces.{in_call, returns_value}
use Rattle.os_functions.proofs.PixelFacts.{one_more}
use Rattle.os_functions.proofs.StringFacts.{at_place, at_count, at_character, same_or_not}
use Rattle.os_functions.proofs.Texts.{routine}
use Rattle.os_functions.proofs.Ways.{Way, way_then, way_of_run, opened, returns_by, inner_leaf}

-- ---- digitsFrom: the locals are n and digit

abbrev behind_test : Text → Text
behind_test rest =
    Next (Let 5 (Local 0) (Binary Plus (Binary Plus (Binary Plus (Binary Plus (Name (Local 0)) (Name (Local 0))) (Name (Local 0))) (Name (Local 0))) (Name (Local 0))))
    (Next (Let 6 (Local 0) (Binary Plus (Binary Plus (Name (Local 0)) (Name (Local 0))) (Name (Local 1)))) (Next (Let 7 (Argument 1) (Binary Plus (Name (Argument 1)) (Literal 1))) rest))

abbrev stops : Text
stops = Next (Return 4 (Name (Local 0))) End

abbrev tests : Text → Text
tests rest = Next (If 3 false (Binary Or (Binary Less (Name (Local 1)) (Literal 0)) (Binary Greater (Name (Local 1)) (Literal 9))) stops End) rest

abbrev takes : Expression → Text → Text
takes e rest = Next (Let 2 (Local 1) (Binary Subtract (Load e (Name (Argument 1))) (Literal 48))) rest

abbrev value_loop : Text
value_loop = Next (While 1 (Binary Less (Name (Argument 1)) (Field 1)) (takes (Field 0) (tests (behind_test End)))) (Next (Return 8 (Name (Local 0))) End)

module _ (subs : List Subroutine) (g o : ℕ) (ss ws : List ℕ) where
  abbrev at_digits : Text → ℕ → ℕ → ℕ → Call
  at_digits t j n dg = in_call g o ss ws t (o ∷ j ∷ []) (n ∷ dg ∷ [])

  abbrev in_turn : Text
  in_turn = takes (Field 0) (tests (behind_test value_loop))

  to_turn : (j n dg d : ℕ) → Reaches o 1 d → word_lt j (word_at ws d) ≡ 65535 → run subs 4 (at_digits value_loop j n dg) ≡ Some (at_digits in_turn j n dg)
  to_turn j n dg d r h = rw (r.at, r.low, r.high, h) refl

  to_end : (j n dg d : ℕ) → Reaches o 1 d → word_lt j (word_at ws d) ≡ 0 → run subs 5 (at_digits value_loop j n dg) ≡ Some (at_digits (returns_value 8 n End) j n dg)
  to_end j n dg d r h = rw (r.at, r.low, r.high, h) refl

  to_place : (j n dg : ℕ) → Reaches o 0 o → run subs 1 (at_digits in_turn j n dg) ≡ Some (at_digits (takes (Value (word_at ws o)) (tests (behind_test value_loop))) j n dg)
  to_place j n dg r = rw (r.at, r.low, r.high) refl

  to_digit : (j n dg b e q : ℕ) → Reaches b j e → word_sub (word_at ws e) 48 ≡ q → run subs 5 (at_digits (takes (Value b) (tests (behind_test value_loop))) j n dg) ≡ Some (at_digits (tests (behind_test value_loop)) j n q)
  to_digit j n dg b e q r h = rw (r.at, r.low, r.high, h) refl

  is_one : (j n q : ℕ) → word_lt q 0 ≡ 0 → word_gt q 9 ≡ 0 → run subs 8 (at_digits (tests (behind_test value_loop)) j n q) ≡ Some (at_digits (behind_test value_loop) j n q)
  is_one j n q h k = rw (h, k) refl

  is_none : (j n q a b m : ℕ) → word_lt q 0 ≡ a → word_gt q 9 ≡ b → bit_or a b ≡ suc m → run subs 9 (at_digits (tests (behind_test value_loop)) j n q) ≡ Some (at_digits (returns_value 4 n (behind_test value_loop)) j n q)
  is_none j n q a b m ha hb h = rw (ha, hb, h) refl

  abbrev five : ℕ → ℕ
  five n = word_add (word_add (word_add (word_add n n) n) n) n

  goes_on : (j n q : ℕ) → run subs 20 (at_digits (behind_test value_loop) j n q) ≡ Some (at_digits value_loop (word_add j 1) (word_add (word_add (five n) (five n)) q) q)
  goes_on j n q = refl

  -- ---- intValue

  abbrev at_value : Text → Call
  at_value t = in_call g o ss ws t (o ∷ []) []

  module _ (digits : ℕ) where
    abbrev calls_digits : Expression → Expression → Expression
    calls_digits a b = Calling digits (More a (More b NoMore))

    abbrev last_text : Expression → Text
    last_text e = Next (Return 4 e) End

    abbrev minus_text : Expression → Text
    minus_text e = Next (Return 3 (Unary Minus e)) (last_text (calls_digits This (Literal 0)))

    abbrev minus_test : Expression → Text
    minus_test e = Next (If 2 false (Binary Equal e (Literal 45)) (Next (Return 3 (Unary Minus (calls_digits This (Literal 1)))) End) End) (last_text (calls_digits This (Literal 0)))

    abbrev value_body : Text
    value_body =
        Next (If 1 false (Field 1) (Next (If 2 false (Binary Equal (Load (Field 0) (Literal 0)) (Literal 45)) (Next (Return 3 (Unary Minus (calls_digits This (Literal 1)))) End) End) End) End)
        (last_text (calls_digits This (Literal 0)))

    no_text : (d : ℕ) → Reaches o 1 d → word_at ws d ≡ 0 → run subs 4 (at_value value_body) ≡ Some (at_value (last_text (calls_digits (Value o) (Value 0))))
    no_text d r h = rw (r.at, r.low, r.high, h) refl

    some_text : (d m : ℕ) → Reaches o 1 d → word_at ws d ≡ suc m → run subs 2 (at_value value_body) ≡ Some (at_value (minus_test (Load (Field 0) (Literal 0))))
    some_text d m r h = rw (r.at, r.low, r.high, h) refl

    first_place : Reaches o 0 o → run subs 1 (at_value (minus_test (Load (Field 0) (Literal 0)))) ≡ Some (at_value (minus_test (Load (Value (word_at ws o)) (Literal 0))))
    first_place r = rw (r.at, r.low, r.high) refl

    is_minus : (b e : ℕ) → Reaches b 0 e → nat_eq (word_at ws e) 45 ≡ true → run subs 7 (at_value (minus_test (Load (Value b) (Literal 0)))) ≡ Some (at_value (minus_text (calls_digits (Value o) (Value 1))))
    is_minus b e r h = rw (r.at, r.low, r.high, h) refl

    no_minus : (b e : ℕ) → Reaches b 0 e → nat_eq (word_at ws e) 45 ≡ false → run subs 7 (at_value (minus_test (Load (Value b) (Literal 0)))) ≡ Some (at_value (last_text (calls_digits (Value o) (Value 0))))
    no_minus b e r h = rw (r.at, r.low, r.high, h) refl

    negates : (v w : ℕ) → word_neg v ≡ w → run subs 1 (at_value (minus_text (Value v))) ≡ Some (at_value (returns_value 3 w (last_text (calls_digits This (Literal 0)))))
    negates v w h = rw h refl

-- ---- digits

is_less : (a b : ℕ) → a < b → nat_lt a b ≡ true
is_less a b h = grind (arith, nat_tests)

is_not_less : (a b : ℕ) → b ≤ a → nat_lt a b ≡ false
is_not_less a b h = grind (arith, nat_tests)

digit_in : (k : ℕ) → 48 ≤ k → k < 58 → is_digit k ≡ true
digit_in k l h = ap (λ b. if b then false else nat_lt k 58) (is_not_less k 48 l) ∙ is_less k 58 h

digit_low : (k : ℕ) → k < 48 → is_digit k ≡ false
digit_low k h = ap (λ b. if b then false else nat_lt k 58) (is_less k 48 h)

digit_high : (k : ℕ) → 58 ≤ k → is_digit k ≡ false
digit_high k h = ap (λ b. if b then false else nat_lt k 58) (is_not_less k 48 (omega (arith, h))) ∙ is_not_less k 58 h

tenfold : (n q : ℕ) → n < 65536 → q < 10 → word_add (word_add ((5 * n) % 65536) ((5 * n) % 65536)) q ≡ (10 * n + q) % 65536
tenfold n q h l = omega arith

fivefold : (n : ℕ) → n < 65536 → word_add (word_add (word_add (word_add n n) n) n) n ≡ (5 * n) % 65536
fivefold n h = omega arith

module _ (subs : List Subroutine) (g o : ℕ) (ss ws text : List ℕ) (room : ℕ) (t : StringAt ws o text room) where
  record Found (j n dg : ℕ) (ks : List ℕ) : Type 0 where
    m : ℕ
    few : m ≤ 5 + 40 * length ks
    j' : ℕ
    dg' : ℕ
    k : ℕ
    rest : Text
    ran : run subs m (at_digits subs g o ss ws value_loop j n dg) ≡ Some (at_digits subs g o ss ws (returns_value k (number_behind n ks) rest) j' (number_behind n ks) dg')

  small_text : length text < 32768
  small_text = let a = t.few in let b = t.small in omega (arith, a, b)

  found : (ks : List ℕ) (j n dg : ℕ) → n < 65536 → j + length ks ≡ length text → ((i : ℕ) → i < length ks → slice_index text (j + i) ≡ slice_index ks i) → AllByRecursion (λ k. k < 65536) ks → Found j n dg ks
  found [] j n dg hn e same words =
      let at : word_lt j (word_at ws (o + 1)) ≡ 0 = ap (word_lt j) t.count ∙ (let s = small_text in not_less j (length text) (omega (arith, e)) (omega (arith, e, s))) in
      record { m = 5; few = omega arith; j' = j; dg' = dg; k = 8; rest = End; ran = to_end subs g o ss ws j n dg (o + 1) (at_count ws o text room t) at }
  found (k ∷ ks) j n dg hn e same words =
      let s = small_text in
      let hj : j < length text = omega (arith, e) in
      let few = t.few in
      let place = t.place + j in
      let char : word_at ws place ≡ k = t.each j hj ∙ ap (slice_index text) (let f : j ≡ j + 0 = omega arith in f) ∙ same 0 (omega arith) in
      let at : word_lt j (word_at ws (o + 1)) ≡ 65535 = ap (word_lt j) t.count ∙ less j (length text) hj s in
      let q = word_sub k 48 in
      let c0 = at_digits subs g o ss ws value_loop j n dg in
      let c1 = at_digits subs g o ss ws (in_turn subs g o ss ws) j n dg in
      let c2 = at_digits subs g o ss ws (takes (Value (word_at ws o)) (tests (behind_test value_loop))) j n dg in
      let c3 = at_digits subs g o ss ws (tests (behind_test value_loop)) j n q in
      let taken : run subs 10 c0 ≡ Some c3 =
      run_then subs 4 6 c0 c1 c3 (to_turn subs g o ss ws j n dg (o + 1) (at_count ws o text room t) at)
      (run_then subs 1 5 c1 c2 c3 (to_place subs g o ss ws j n dg (at_place ws o text room t))
      (to_digit subs g o ss ws j n dg (word_at ws o) place q (at_character ws o text room t j (omega (arith, hj, few))) (ap (λ z. word_sub z 48) char))) in
      let word = words.0 in
      let none : is_digit k ≡ false → (32768 ≤ q) ⊎ ((9 < q) × (q < 32768)) → Found j n dg (k ∷ ks) =
      λ off far.
      let value : number_behind n (k ∷ ks) ≡ n = ap (λ b. if b then number_behind ((10 * n + (k - 48)) % 65536) ks else n) off in
      let some : 0 < bit_or (word_lt q 0) (word_gt q 9) =
      ⊎_elim (λ (l : 32768 ≤ q). let a = negative q l in let b = le_or_l (word_lt q 0) (word_gt q 9) in omega (arith, a, b))
      (λ (l : (9 < q) × (q < 32768)). let a = less 9 q l.0 l.1 in let b = le_or_r (word_lt q 0) (word_gt q 9) in let c : word_gt q 9 ≡ 65535 = a in omega (arith, c, b)) far in
      let (i, one) = one_more (bit_or (word_lt q 0) (word_gt q 9)) some in
      let c4 = at_digits subs g o ss ws (returns_value 4 n (behind_test value_loop)) j n q in
      let ran : run subs 19 c0 ≡ Some c4 = run_then subs 10 9 c0 c3 c4 taken (is_none subs g o ss ws j n q (word_lt q 0) (word_gt q 9) i refl refl one) in
      record {
        m = 19;
        few = omega arith;
        j' = j;
        dg' = q;
        k = 4;
        rest = behind_test value_loop;
        ran = subst (λ (v : ℕ). run subs 19 c0 ≡ Some (at_digits subs g o ss ws (returns_value 4 v (behind_test value_loop)) j v q)) (sym value) ran;
      } in
      ⊎_elim
      (λ (l : k < 48). none (digit_low k l) (inl (let f : 32768 ≤ word_sub k 48 = omega (arith, l) in f)))
      (λ (low : 48 ≤ k).
      ⊎_elim
      (λ (h : k < 58).
      let is : q ≡ k - 48 = omega (arith, low, h) in
      let small : q < 10 = omega (arith, is, h) in
      let n' = (10 * n + (k - 48)) % 65536 in
      let new : word_add (word_add (five subs g o ss ws n) (five subs g o ss ws n)) q ≡ n' =
      ap (λ z. word_add (word_add z z) q) (fivefold n hn) ∙ tenfold n q hn small ∙ ap (λ z. (10 * n + z) % 65536) is in
      let next : word_add j 1 ≡ j + 1 = omega (arith, hj, s) in
      let c4 = at_digits subs g o ss ws (behind_test value_loop) j n q in
      let c5 = at_digits subs g o ss ws value_loop (j + 1) n' q in
      let moved : run subs 20 c4 ≡ Some c5 =
      goes_on subs g o ss ws j n q ∙ ap (λ (z : ℕ). Some (at_digits subs g o ss ws value_loop z (word_add (word_add (five subs g o ss ws n) (five subs g o ss ws n)) q) q)) next
      ∙ ap (λ (z : ℕ). Some (at_digits subs g o ss ws value_loop (j + 1) z q)) new in
      let more = found ks (j + 1) n' q (omega arith) (omega (arith, e)) (λ i hi. ap (slice_index text) (let f : j + 1 + i ≡ j + suc i = omega arith in f) ∙ same (suc i) (omega (arith, hi))) words.1 in
      let enough = more.few in
      let value : number_behind n (k ∷ ks) ≡ number_behind n' ks = ap (λ b. if b then number_behind n' ks else n) (digit_in k low h) in
      let last : ℕ → Call = λ v. at_digits subs g o ss ws (returns_value more.k v more.rest) more.j' v more.dg' in
      let ran : run subs (10 + (8 + (20 + more.m))) c0 ≡ Some (last (number_behind n' ks)) =
      run_then subs 10 (8 + (20 + more.m)) c0 c3 (last (number_behind n' ks)) taken
      (run_then subs 8 (20 + more.m) c3 c4 (last (number_behind n' ks)) (is_one subs g o ss ws j n q (not_negative q (omega (arith, small))) (not_less 9 q (omega (arith, small)) (omega arith)))
      (run_then subs 20 more.m c4 c5 (last (number_behind n' ks)) moved more.ran)) in
      record {
        m = 10 + (8 + (20 + more.m));
        few = omega (arith, enough);
        j' = more.j';
        dg' = more.dg';
        k = more.k;
        rest = more.rest;
        ran = subst (λ (v : ℕ). run subs (10 + (8 + (20 + more.m))) c0 ≡ Some (last v)) (sym value) ran;
      })
      (λ (h : 58 ≤ k).
      let is : q ≡ k - 48 = omega (arith, h, word) in
      none (digit_high k h) (⊎_elim (λ (l : q < 32768). inr (omega (arith, is, h), l)) (λ (l : 32768 ≤ q). inl l) (cases_lt q 32768)))
      (cases_lt k 58))
      (cases_lt k 48)

-- ---- the whole

module _ {core : Core} (p : IsShipped core) where
  abbrev number : ℕ
  number = routine_number p (codes "String") (codes "intValue")

  abbrev digits_at : ℕ
  digits_at = routine_number p (codes "String") (codes "digitsFrom")

  is_value : subroutine_at (the_subroutines core) number ≡ routine Method (own_number core p 6) 1 0 (value_body (the_subroutines core) 0 0 [] [] digits_at)
  is_value = leads core p 6 7 (refl, refl) ∙ ap (λ (k : ℕ). routine Method (own_number core p 6) 1 0 (value_body (the_subroutines core) 0 0 [] [] k)) (same_own core p (codes "digitsFrom"))

  is_digits : subroutine_at (the_subroutines core) digits_at ≡ routine Method (own_number core p 6) 2 2 value_loop
  is_digits = leads core p 6 8 (refl, refl)

module _ {core : Core} (p : IsShipped core) (s : State) (o : ℕ) (text : List ℕ) (room : ℕ) (c : CallsString p s (codes "intValue") o [] text room) where
  abbrev subs : List Subroutine
  subs = the_subroutines core

  abbrev ss : List ℕ
  ss = s.statics

  abbrev ws : List ℕ
  ws = s.words

  abbrev below : List Frame
  below = c.call.caller ∷ c.call.below

  abbrev least : ℕ
  least = suc (length below)

  abbrev f : ℕ
  f = digits_at p

  abbrev first : State
  first = opened subs s (number p) (o ∷ []) c.call

  abbrev at : Text → Call
  at t = at_value subs (number p) o ss ws t

  abbrev body : Text
  body = value_body subs (number p) o ss ws f

  abbrev final : Expression → Text
  final e = last_text subs (number p) o ss ws f e

  abbrev minus : Expression → Text
  minus e = minus_text subs (number p) o ss ws f e

  abbrev asks : ℕ → Expression
  asks j = calls_digits subs (number p) o ss ws f (Value o) (Value j)

  abbrev count : Reaches o 1 (o + 1)
  count = at_count ws o text room c.string

  entered : (n : ℕ) (c1 : Call) → run subs n (at body) ≡ Some c1 → Way subs least n first (over below c1)
  entered n c1 ran =
      way_of_run subs below n (record { frame = new_frame subs (number p) (o ∷ []); statics = ss; words = ws }) c1
      (ap (λ (z : Frame). run subs n (record { frame = z; statics = ss; words = ws })) (enters subs (number p) _ (o ∷ []) (is_value p)) ∙ ran)

  -- a call of digitsFrom that is the value of the last statement
  from_last : (n : ℕ) (ks : List ℕ) → n ≤ 12 → run subs n (at body) ≡ Some (at (final (asks 0))) → Found subs f o ss ws text room c.string 0 0 0 ks → length ks ≤ length text → Gives c.call (30 + 40 * length text) (number_behind 0 ks)
  from_last n ks few ran found_it long =
      let v = number_behind 0 ks in
      let asked = at (final (asks 0)) in
      let has = at (final (Value v)) in
      let enough = found_it.few in
      let inner : Way subs least (suc (suc found_it.m)) (over below asked) (over below has) =
      inner_leaf subs below asked.frame (at (final Open)).frame ss ws ss ws f (o ∷ 0 ∷ []) (routine Method (own_number core p 6) 2 2 value_loop) found_it.m found_it.k v found_it.rest
      (at_digits subs f o ss ws End found_it.j' v found_it.dg').frame (is_digits p) refl found_it.ran in
      let whole = way_then subs least n (suc (suc found_it.m)) first (over below asked) (over below has) (entered n asked ran) inner in
      (suc (suc (n + suc (suc found_it.m))), omega (arith, enough, few, long), returns_by subs s (number p) (o ∷ []) c.call (n + suc (suc found_it.m)) (at End).frame ss ws 4 v End whole)

  from_minus : (ks : List ℕ) (w : ℕ) → run subs 10 (at body) ≡ Some (at (minus (asks 1))) → Found subs f o ss ws text room c.string 1 0 0 ks → word_neg (number_behind 0 ks) ≡ w → length ks ≤ length text → Gives c.call (30 + 40 * length text) w
  from_minus ks w ran found_it is long =
      let v = number_behind 0 ks in
      let asked = at (minus (asks 1)) in
      let has = at (minus (Value v)) in
      let rest = final (calls_digits subs (number p) o ss ws f This (Literal 0)) in
      let last = at (returns_value 3 w rest) in
      let enough = found_it.few in
      let inner : Way subs least (suc (suc found_it.m)) (over below asked) (over below has) =
      inner_leaf subs below asked.frame (at (minus Open)).frame ss ws ss ws f (o ∷ 1 ∷ []) (routine Method (own_number core p 6) 2 2 value_loop) found_it.m found_it.k v found_it.rest
      (at_digits subs f o ss ws End found_it.j' v found_it.dg').frame (is_digits p) refl found_it.ran in
      let ends : Way subs least 1 (over below has) (over below last) = way_of_run subs below 1 has last (negates subs (number p) o ss ws f v w is) in
      let whole =
      way_then subs least 10 (suc (suc found_it.m) + 1) first (over below asked) (over below last) (entered 10 asked ran)
      (way_then subs least (suc (suc found_it.m)) 1 (over below asked) (over below has) (over below last) inner ends) in
      (suc (suc (10 + (suc (suc found_it.m) + 1))), omega (arith, enough, long), returns_by subs s (number p) (o ∷ []) c.call (10 + (suc (suc found_it.m) + 1)) (at End).frame ss ws 3 w rest whole)

  by_text : (ks : List ℕ) → text ≡ ks → AllByRecursion (λ k. k < 65536) ks → Gives c.call (30 + 40 * length text) (number_in ks)
  by_text [] e words =
      let none : word_at ws (o + 1) ≡ 0 = c.string.count ∙ ap length e in
      from_last 4 [] (omega arith) (no_text subs (number p) o ss ws f (o + 1) count none) (found subs f o ss ws text room c.string [] 0 0 0 (omega arith) (let z : 0 ≡ length text = sym (ap length e) in omega (arith, z)) (λ i h. absurd (omega (arith, h))) tt) (omega arith)
  by_text (k ∷ ks) e words =
      let t = c.string in
      let few = t.few in
      let size : length text ≡ suc (length ks) = ap length e in
      let some : word_at ws (o + 1) ≡ suc (length ks) = t.count ∙ size in
      let near : 0 < room = omega (arith, few, size) in
      let char : word_at ws (t.place + 0) ≡ k = t.each 0 (omega (arith, size)) ∙ ap (λ l. slice_index l 0) e in
      let reach : Reaches (word_at ws o) 0 (t.place + 0) = at_character ws o text room t 0 near in
      let load = Load (Field 0) (Literal 0) in
      let a0 = at body in
      let a1 = at (minus_test subs (number p) o ss ws f load) in
      let a2 = at (minus_test subs (number p) o ss ws f (Load (Value (word_at ws o)) (Literal 0))) in
      ⊎_elim
      (λ (m : k ≡ 45).
      let test : nat_eq (word_at ws (t.place + 0)) 45 ≡ true = ap (λ z. nat_eq z 45) (char ∙ m) in
      let a3 = at (minus (asks 1)) in
      let ran : run subs 10 a0 ≡ Some a3 =
      run_then subs 2 8 a0 a1 a3 (some_text subs (number p) o ss ws f (o + 1) (length ks) count some)
      (run_then subs 1 7 a1 a2 a3 (first_place subs (number p) o ss ws f (at_place ws o text room t)) (is_minus subs (number p) o ss ws f (word_at ws o) (t.place + 0) reach test)) in
      let is : word_neg (number_behind 0 ks) ≡ number_in (k ∷ ks) = sym (ap (λ b. if b then word_neg (number_behind 0 ks) else number_behind 0 (k ∷ ks)) (ap (λ z. nat_eq z 45) m)) in
      from_minus ks (number_in (k ∷ ks)) ran
      (found subs f o ss ws text room t ks 1 0 0 (omega arith) (omega (arith, size)) (λ i h. ap (λ l. slice_index l (1 + i)) e ∙ ap (slice_index (k ∷ ks)) (let z : 1 + i ≡ suc i = omega arith in z)) words.1) is (omega (arith, size)))
      (λ (d : k ≢ 45).
      let off : nat_eq k 45 ≡ false = unequal k d in
      let test : nat_eq (word_at ws (t.place + 0)) 45 ≡ false = ap (λ z. nat_eq z 45) char ∙ off in
      let a3 = at (final (asks 0)) in
      let ran : run subs 10 a0 ≡ Some a3 =
      run_then subs 2 8 a0 a1 a3 (some_text subs (number p) o ss ws f (o + 1) (length ks) count some)
      (run_then subs 1 7 a1 a2 a3 (first_place subs (number p) o ss ws f (at_place ws o text room t)) (no_minus subs (number p) o ss ws f (word_at ws o) (t.place + 0) reach test)) in
      let is : number_behind 0 (k ∷ ks) ≡ number_in (k ∷ ks) = sym (ap (λ b. if b then word_neg (number_behind 0 ks) else number_behind 0 (k ∷ ks)) off) in
      subst (Gives c.call (30 + 40 * length text)) is
      (from_last 10 (k ∷ ks) (omega arith) ran
      (found subs f o ss ws text room t (k ∷ ks) 0 0 0 (omega arith) (omega (arith, size)) (λ i h. ap (λ l. slice_index l (0 + i)) e ∙ ap (slice_index (k ∷ ks)) (let z : 0 + i ≡ i = omega arith in z)) words) (omega (arith, size))))
      (same_or_not k 45)
    where
      unequal : (k : ℕ) → k ≢ 45 → nat_eq k 45 ≡ false
      unequal k d = grind (arith, nat_tests)

module _ {core : Core} (p : IsShipped core) (s : State) (o : ℕ) (text : List ℕ) (room : ℕ) where
  pub value_law : ValueLaw p s o text room
  value_law words c = by_text p s o text room c text refl words
