-- A string becomes the decimal of a number: digit by digit, by calls within calls.
use Rattle.std.proofs.Common.{◌≡◌, ◌⊎◌, ⊎_elim, ℕ, zero, suc, ◌+◌, ◌-◌, ◌*◌, ◌/◌, ◌%◌, ◌<◌, ◌≤◌, true, false, nat_eq, nat_lt, List, [], ◌∷◌, ◌++◌, length, take, Some, codes, refl, sym, ap, ◌∙◌, subst, arith, append_assoc, length-append, length-set}
use Rattle.std.specs.Prelude.{decimal, pos, neg_ℤ, if◌then◌else◌}
use Rattle.std.proofs.lemmas.Bool.{cases_lt}
use Rattle.std.proofs.lemmas.Bool.Decides.{nat_tests}
use Rattle.std.proofs.lemmas.Fmt.{decimal_digit, decimal_step}
use Rattle.std.proofs.lemmas.List.{take-append-le, append-nil}
use Rattle.std.proofs.Math.Seq.{take-length}
use Rattle.word16.specs.Words.{word_add, word_sub, word_neg, word_lt}
use Rattle.jack_core.specs.declared.program.Core.{Core}
use Rattle.jack_core.specs.Texts.{the_subroutines}
use Rattle.jack_meaning.specs.Text.{Name, Argument, Expression, Value, This, Open, Text, End, Method, Subroutine}
use Rattle.jack_meaning.specs.Meaning.{Frame, State, subroutine_at, new_frame}
use Rattle.os_laws.specs.Calls.{NextCall, given_back}
use Rattle.os_laws.specs.Heap.{word_at}
use Rattle.os_laws.specs.Kernel.{multiply_meaning, divide_meaning}
use Rattle.os_laws.specs.KernelCalls.{Multiplying, Dividing}
use Rattle.os_laws.specs.Names.{IsShipped}
use Rattle.os_laws.specs.Numbers.{word_of, product, quotient, multiply_steps}
use Rattle.os_laws.proofs.Basics.{enters}
use Rattle.os_laws.proofs.Comparing.{negative, not_negative}
use Rattle.os_laws.proofs.Multiplying as multiplying
use Rattle.os_laws.proofs.Quotients as quotients
use Rattle.os_laws.proofs.Runs.{Call, over, run}
use Rattle.os_laws.proofs.Storing.{other_word}
use Rattle.os_functions.specs.Calls.{routine_number, Returns}
use Rattle.os_functions.specs.ErrorLaws.{shown_number}
use Rattle.os_functions.specs.StringLaws.{StringAt, CallsString, with_heap_word}
use Rattle.os_functions.proofs.Named.{leads, number_of, own_number}
use Rattle.os_functions.proofs.OutputRoutines.{is_multiply, is_divide}
use Rattle.os_functions.proofs.Pieces.{returns_value}
use Rattle.os_functions.proofs.StringFacts.{at_count, at_most, in_heap, this_word}
use Rattle.os_functions.proofs.StringMade.{append_law}
use Rattle.os_functions.proofs.Texts.{routine}
use Rattle.os_functions.proofs.Ways.{Way, way_then, way_of_run, way_of_call, returns, opened, returns_by}
use Rattle.os_strings.specs.SettingLaws.{IsRewritten, SetLaw, SetErrorLaw}
use Rattle.os_strings.proofs.Appended.{place_kept}
use Rattle.os_strings.proofs.Allocations.{error_at, same_number}
use Rattle.os_strings.proofs.OwnCalls.{by_own, same_own}
use Rattle.os_strings.proofs.Failing.{Fails, fails_by_run, fails_called, fails_then, comes_to_error}
use Rattle.os_strings.proofs.SettingRuns.{asks_two, digit_end, digit_body, units_from, unit_of, tens_from, behind_quotient, digits_body, set_end, minus_from, sign_test, set_body, at_two, to_append, to_full, digit_ends, to_divide, no_tens, to_tens, behind_tens, to_unit, units_end, clears, is_minus, behind_minus, is_plain, set_ends}

-- ---- numbers

negated : (n : ℕ) → n < 65536 → word_of (neg_ℤ (pos n)) ≡ word_neg n
negated zero h = refl
negated (suc n) h = omega (arith, h)

plain : (x : ℕ) → x < 32768 → nat_lt x 32768 ≡ true
plain x h = grind (arith, nat_tests)

minus : (x : ℕ) → 32768 ≤ x → nat_lt x 32768 ≡ false
minus x h = grind (arith, nat_tests)

-- a tenth of a word below 0
tenth : (x : ℕ) → 32768 ≤ x → x < 65536 → quotient x 10 ≡ word_neg (word_neg x / 10)
tenth x low high =
    let e : suc (65535 - x) ≡ word_neg x = omega (arith, low, high) in
    rw (minus x low) (negated (suc (65535 - x) / 10) (omega (arith, low)) ∙ ap (λ n. word_neg (n / 10)) e)

twice_negated : (v : ℕ) → v ≤ 32768 → word_neg (word_neg v) ≡ v
twice_negated v h = omega (arith, h)

tens_of : (v : ℕ) → v ≤ 32768 → quotient (word_neg v) 10 ≡ word_neg (v / 10)
tens_of zero h = refl
tens_of (suc v) h =
    let x = word_neg (suc v) in
    let low : 32768 ≤ word_neg (suc v) = omega (arith, h) in
    let high : word_neg (suc v) < 65536 = omega arith in
    tenth (word_neg (suc v)) low high ∙ ap (λ n. word_neg (n / 10)) (twice_negated (suc v) h)

-- the last digit of a number at most 32768, of which the tens are taken off
unit_with : (q r : ℕ) → 10 * q + r ≤ 32768 → r < 10 → word_add (word_sub (product (word_neg q) 10) (word_neg (10 * q + r))) 48 ≡ 48 + r
unit_with zero r h l =
    let z : product (word_neg 0) 10 ≡ 0 = refl in
    let s : word_sub 0 (word_neg (10 * 0 + r)) ≡ r = omega (arith, l) in
    ap (λ n. word_add n 48) s ∙ (let e : word_add r 48 ≡ 48 + r = omega (arith, l) in e)
unit_with (suc q) r h l =
    let n : word_neg (suc q) ≡ 65536 - suc q = omega (arith, h) in
    let m : product (word_neg (suc q)) 10 ≡ 65536 - 10 * suc q = ap (λ w. product w 10) n ∙ (let e : product (65536 - suc q) 10 ≡ 65536 - 10 * suc q = omega (arith, h) in e) in
    let s : word_sub (65536 - 10 * suc q) (word_neg (10 * suc q + r)) ≡ r = omega (arith, h, l) in
    ap (λ w. word_add (word_sub w (word_neg (10 * suc q + r))) 48) m ∙ ap (λ w. word_add w 48) s ∙ (let e : word_add r 48 ≡ 48 + r = omega (arith, l) in e)

unit_is : (v : ℕ) → v ≤ 32768 → word_add (word_sub (product (word_neg (v / 10)) 10) (word_neg v)) 48 ≡ 48 + v % 10
unit_is v h =
    let e : 10 * (v / 10) + v % 10 ≡ v = omega arith in
    subst (λ n. word_add (word_sub (product (word_neg (v / 10)) 10) (word_neg n)) 48 ≡ 48 + v % 10) e (unit_with (v / 10) (v % 10) (omega (arith, h)) (omega arith))

-- ---- decimals

one_digit : (v : ℕ) → v < 10 → length (decimal v) ≡ 1
one_digit v h = ap length (decimal_digit v h)

one_more_digit : (v : ℕ) → 10 ≤ v → v ≤ 32768 → length (decimal v) ≡ length (decimal (v / 10)) + 1
one_more_digit v low high = ap length (decimal_step v low (omega (arith, high))) ∙ length-append (decimal (v / 10)) ((48 + v % 10) ∷ [])

-- ten times as many numbers have one digit more
one_longer : (b m : ℕ) → ((u : ℕ) → u ≤ 32768 → u < b → length (decimal u) ≤ m) → 1 ≤ m → (v : ℕ) → v ≤ 32768 → v < 10 * b → length (decimal v) ≤ suc m
one_longer b m shorter some v h l =
    ⊎_elim (λ (s : v < 10). let e = one_digit v s in omega (arith, e))
    (λ (g : 10 ≤ v). let e = one_more_digit v g h in let i = shorter (v / 10) (omega (arith, h)) (omega (arith, l)) in omega (arith, e, i)) (cases_lt v 10)

few_digits : (v : ℕ) → v ≤ 32768 → length (decimal v) ≤ 5
few_digits v h =
    let one : (u : ℕ) → u ≤ 32768 → u < 10 → length (decimal u) ≤ 1 = λ u k l. (let e = one_digit u l in omega (arith, e)) in
    one_longer 10000 4 (one_longer 1000 3 (one_longer 100 2 (one_longer 10 1 one (omega arith)) (omega arith)) (omega arith)) (omega arith) v h (omega (arith, h))

-- ---- numbers of the routines

module _ {core : Core} (p : IsShipped core) where
  abbrev string_at : List ℕ → ℕ
  string_at name = routine_number p (codes "String") name

  abbrev digit_at : ℕ
  digit_at = string_at (codes "appendDigit")

  abbrev digits_at : ℕ
  digits_at = string_at (codes "appendDigits")

  abbrev append_at : ℕ
  append_at = string_at (codes "appendChar")

  abbrev set_at : ℕ
  set_at = string_at (codes "setInt")

  abbrev multiply_at : ℕ
  multiply_at = routine_number p (codes "Math") (codes "multiply")

  abbrev divide_at : ℕ
  divide_at = routine_number p (codes "Math") (codes "divide")

  is_digit : subroutine_at (the_subroutines core) digit_at ≡ routine Method (own_number core p 6) 2 0 (digit_body (error_at p) append_at)
  is_digit =
      leads core p 6 11 (refl, refl) ∙ ap (λ (k : ℕ). routine Method (own_number core p 6) 2 0 (digit_body k (by_own core p (codes "appendChar")))) (same_number p (codes "Sys") (codes "error"))
      ∙ ap (λ (k : ℕ). routine Method (own_number core p 6) 2 0 (digit_body (error_at p) k)) (same_own core p (codes "appendChar"))

  is_digits : subroutine_at (the_subroutines core) digits_at ≡ routine Method (own_number core p 6) 2 1 (digits_body divide_at digits_at multiply_at digit_at)
  is_digits =
      leads core p 6 10 (refl, refl)
      ∙ ap (λ (k : ℕ). routine Method (own_number core p 6) 2 1 (digits_body k (by_own core p (codes "appendDigits")) (number_of core p (codes "Math") (codes "multiply")) (by_own core p (codes "appendDigit")))) (same_number p (codes "Math") (codes "divide"))
      ∙ ap (λ (k : ℕ). routine Method (own_number core p 6) 2 1 (digits_body divide_at k (number_of core p (codes "Math") (codes "multiply")) (by_own core p (codes "appendDigit")))) (same_own core p (codes "appendDigits"))
      ∙ ap (λ (k : ℕ). routine Method (own_number core p 6) 2 1 (digits_body divide_at digits_at k (by_own core p (codes "appendDigit")))) (same_number p (codes "Math") (codes "multiply"))
      ∙ ap (λ (k : ℕ). routine Method (own_number core p 6) 2 1 (digits_body divide_at digits_at multiply_at k)) (same_own core p (codes "appendDigit"))

  is_set : subroutine_at (the_subroutines core) set_at ≡ routine Method (own_number core p 6) 2 0 (set_body digit_at digits_at)
  is_set =
      leads core p 6 9 (refl, refl) ∙ ap (λ (k : ℕ). routine Method (own_number core p 6) 2 0 (set_body k (by_own core p (codes "appendDigits")))) (same_own core p (codes "appendDigit"))
      ∙ ap (λ (k : ℕ). routine Method (own_number core p 6) 2 0 (set_body digit_at k)) (same_own core p (codes "appendDigits"))

  is_product : subroutine_at (the_subroutines core) multiply_at ≡ multiply_meaning (own_number core p 2)
  is_product = is_multiply core p

  is_quotient : subroutine_at (the_subroutines core) divide_at ≡ divide_meaning (own_number core p 2) (error_at p)
  is_quotient = is_divide core p ∙ ap (λ (k : ℕ). divide_meaning (own_number core p 2) k) (same_number p (codes "Sys") (codes "error"))

-- ---- what a string's words become

pub rewritten_then : (ws ws1 ws2 : List ℕ) (o place : ℕ) (t1 t2 : List ℕ) (room : ℕ) (a : IsRewritten ws o place t1 room ws1) → IsRewritten ws1 o a.string.place t2 room ws2 → IsRewritten ws o place t2 room ws2
rewritten_then ws ws1 ws2 o place t1 t2 room a b = record {
  string = b.string;
  same_place = b.same_place ∙ a.same_place;
  as_long = b.as_long ∙ a.as_long;
  others = λ x low d out. b.others x low d (subst (λ z. (x < z) ⊎ (z + room ≤ x)) (sym a.same_place) out) ∙ a.others x low d out;
}

-- the string as it is
unchanged : (ws : List ℕ) (o : ℕ) (text : List ℕ) (room : ℕ) (t : StringAt ws o text room) → IsRewritten ws o t.place text room ws
unchanged ws o text room t = record { string = t; same_place = refl; as_long = refl; others = λ x low d out. refl }

same_numbers : (a b : ℕ) → a ≡ b → nat_eq a b ≡ true
same_numbers a b h = grind (arith, nat_tests)

other_numbers : (a b : ℕ) → a < b → nat_eq a b ≡ false
other_numbers a b h = grind (arith, nat_tests)

-- what is left of a text where there is not room for all of it
abbrev cut : ℕ → List ℕ → List ℕ → List ℕ
cut room text ks = text ++ take (room - length text) ks

-- ---- one character more

module _ {core : Core} (p : IsShipped core) (s : State) (o k : ℕ) (text : List ℕ) (room : ℕ) (t : StringAt s.words o text room) (long : length s.words ≡ 22528) (c : NextCall (the_subroutines core) s (digit_at p) (o ∷ k ∷ [])) where
  abbrev subs : List Subroutine
  subs = the_subroutines core

  abbrev below : List Frame
  below = c.caller ∷ c.below

  abbrev least : ℕ
  least = suc (length below)

  abbrev first : State
  first = opened subs s (digit_at p) (o ∷ k ∷ []) c

  abbrev at : List ℕ → Text → Call
  at ws x = at_two subs (digit_at p) o s.statics ws x k []

  entered : (n : ℕ) (d : Call) → run subs n (at s.words (digit_body (error_at p) (append_at p))) ≡ Some d → Way subs least n first (over below d)
  entered n d ran =
      way_of_run subs below n (record { frame = new_frame subs (digit_at p) (o ∷ k ∷ []); statics = s.statics; words = s.words }) d
      (ap (λ (z : Frame). run subs n (record { frame = z; statics = s.statics; words = s.words })) (enters subs (digit_at p) _ (o ∷ k ∷ []) (is_digit p)) ∙ ran)

  pub digit_added : length text < room → (n : ℕ) × (n ≤ 30) × (ws : List ℕ) × Returns subs s n (record (given_back s c.caller c.below 0) { statics = s.statics; words = ws }) × IsRewritten s.words o t.place (text ++ k ∷ []) room ws
  digit_added h =
      let small = t.small in
      let object = t.object in
      let e = t.place + length text in
      let ws1 = with_heap_word s.words e k in
      let ws2 = with_heap_word ws1 (o + 1) (length text + 1) in
      let asks = at s.words (digit_end (asks_two (append_at p) (Value o) (Value k))) in
      let full : nat_eq (word_at s.words (o + 1)) (word_at s.words (o + 2)) ≡ false = ap (λ z. nat_eq z (word_at s.words (o + 2))) t.count ∙ ap (nat_eq (length text)) t.most ∙ other_numbers (length text) room h in
      let begun = entered (1 + 5) asks (to_append subs (digit_at p) o s.statics s.words (error_at p) (append_at p) k (o + 1) (o + 2) (at_count s.words o text room t) (at_most s.words o text room t) full) in
      let mid : State = over below asks in
      let call : CallsString p mid (codes "appendChar") o (k ∷ []) text room = record { words = long; string = t; call = record { top = asks.frame; caller = (at s.words (digit_end Open)).frame; below = below; frames = refl; calls = refl } } in
      let appended = append_law p mid o text room k h call in
      let (n, few, back) = appended.0 in
      let behind = at ws2 (digit_end (Value o)) in
      let end = at ws2 (returns_value 4 0 End) in
      let inside : Way subs least n mid (over below behind) = way_of_call subs least n mid (over below behind) (omega arith) back in
      let whole = way_then subs least (1 + 5) (n + 2) first mid (over below end) begun
      (way_then subs least n 2 mid (over below behind) (over below end) inside (way_of_run subs below 2 behind end (digit_ends subs (digit_at p) o s.statics ws2 k o))) in
      let near = in_heap s.words o text room t (length text) h in (
        suc (suc ((1 + 5) + (n + 2))),
        omega (arith, few),
        ws2,
        returns_by subs s (digit_at p) (o ∷ k ∷ []) c ((1 + 5) + (n + 2)) (at ws2 End).frame s.statics ws2 4 0 End whole,
        record {
          string = appended.1;
          same_place = place_kept s.words o text room t k h (text ++ k ∷ []) appended.1;
          as_long = length-set ws1 (o + 1 - 2048) (length text + 1) ∙ length-set s.words (e - 2048) k;
          others = λ x low d out.
              other_word ws1 (o + 1) x (length text + 1) (omega (arith, object)) low d
              ∙ other_word s.words e x k near.0 low (λ q. ⊎_elim (λ l. omega (arith, l, q)) (λ r. omega (arith, r, q, h)) out);
        },
      )

  pub digit_refused : length text ≡ room → Fails subs (error_at p) 19 least below 5 first s.statics s.words
  digit_refused h =
      let full : nat_eq (word_at s.words (o + 1)) (word_at s.words (o + 2)) ≡ true = ap (λ z. nat_eq z (word_at s.words (o + 2))) t.count ∙ ap (nat_eq (length text)) t.most ∙ same_numbers (length text) room h in
      let f = (at s.words End).frame in
      let rest = digit_end (asks_two (append_at p) This (Name (Argument 1))) in
      fails_by_run subs (error_at p) 19 below (1 + 4) (record { frame = new_frame subs (digit_at p) (o ∷ k ∷ []); statics = s.statics; words = s.words }) f s.statics s.words 2 rest
      (ap (λ (z : Frame). run subs (1 + 4) (record { frame = z; statics = s.statics; words = s.words })) (enters subs (digit_at p) _ (o ∷ k ∷ []) (is_digit p))
      ∙ to_full subs (digit_at p) o s.statics s.words (error_at p) (append_at p) k (o + 1) (o + 2) (at_count s.words o text room t) (at_most s.words o text room t) full)

-- ---- the digits of a number

module _ {core : Core} (p : IsShipped core) (o room place : ℕ) where
  -- the call has come back, and the string has these characters more
  record Added {s : State} {g : ℕ} {values : List ℕ} (c : NextCall (the_subroutines core) s g values) (text : List ℕ) (most : ℕ) : Type 0 where
    n : ℕ
    few : n ≤ most
    ws : List ℕ
    back : Returns (the_subroutines core) s n (record (given_back s c.caller c.below 0) { statics = s.statics; words = ws })
    string : IsRewritten s.words o place text room ws

  -- it has come to the error, and the string has this text
  record Refused {s : State} {g : ℕ} {values : List ℕ} (c : NextCall (the_subroutines core) s g values) (text : List ℕ) (most : ℕ) : Type 0 where
    ws : List ℕ
    fails : Fails (the_subroutines core) (error_at p) 19 (suc (suc (length c.below))) (c.caller ∷ c.below) most (opened (the_subroutines core) s g values c) s.statics ws
    string : IsRewritten s.words o place text room ws

module _ {core : Core} (p : IsShipped core) (s : State) (o v : ℕ) (high : v ≤ 32768) (room place : ℕ) (c : NextCall (the_subroutines core) s (digits_at p) (o ∷ word_neg v ∷ [])) where
  abbrev q : ℕ
  q = v / 10

  abbrev w : ℕ
  w = word_neg v

  abbrev u : ℕ
  u = word_neg (v / 10)

  abbrev subs' : List Subroutine
  subs' = the_subroutines core

  abbrev under : List Frame
  under = c.caller ∷ c.below

  abbrev enough : ℕ
  enough = suc (length under)

  abbrev start : State
  start = opened subs' s (digits_at p) (o ∷ w ∷ []) c

  abbrev here_at : List ℕ → Text → ℕ → Call
  here_at ws x l = at_two subs' (digits_at p) o s.statics ws x w (l ∷ [])

  abbrev quotient_text : Expression → Text
  quotient_text e = behind_quotient e (digits_at p) (multiply_at p) (digit_at p)

  abbrev divided : Call
  divided = here_at s.words (quotient_text (Value u)) 0

  to_quotient : (n : ℕ) × (n ≤ 802) × Way subs' enough n start (over under divided)
  to_quotient =
      let asks = here_at s.words (quotient_text (asks_two (divide_at p) (Value w) (Value 10))) 0 in
      let begun : Way subs' enough 2 start (over under asks) =
      way_of_run subs' under 2 (record { frame = new_frame subs' (digits_at p) (o ∷ w ∷ []); statics = s.statics; words = s.words }) asks
      (ap (λ (z : Frame). run subs' 2 (record { frame = z; statics = s.statics; words = s.words })) (enters subs' (digits_at p) _ (o ∷ w ∷ []) (is_digits p))
      ∙ to_divide subs' (digits_at p) o s.statics s.words (divide_at p) (digits_at p) (multiply_at p) (digit_at p) w) in
      let call : Dividing subs' (over under asks) (divide_at p) = record {
        x = w;
        y = 10;
        word_x = omega arith;
        word_y = omega arith;
        some = omega arith;
        call = record { top = asks.frame; caller = (here_at s.words (quotient_text Open) 0).frame; below = under; frames = refl; calls = refl };
      } in
      let (n, few, back) = quotients.law subs' (over under asks) (divide_at p) (own_number core p 2) (error_at p) (is_quotient p) call in
      let has = here_at s.words (quotient_text (Value (quotient w 10))) 0 in
      let inside : Way subs' enough n (over under asks) (over under has) = way_of_call subs' enough n (over under asks) (over under has) (omega arith) (returns subs' n (over under asks) (over under has) back) in
      let found : Way subs' enough n (over under asks) (over under divided) = subst (λ (z : ℕ). Way subs' enough n (over under asks) (over under (here_at s.words (quotient_text (Value z)) 0))) (tens_of v high) inside in
      (2 + n, omega (arith, few), way_then subs' enough 2 n start (over under asks) (over under divided) begun found)

  -- ---- the last digit

  abbrev unit_text : Expression → Text
  unit_text e = units_from (asks_two (digit_at p) (Value o) e)

  abbrev units : List ℕ → Call
  units ws = here_at ws (unit_text (unit_of (asks_two (multiply_at p) (Value u) (Value 10)))) u

  abbrev k : ℕ
  k = 48 + v % 10

  abbrev asks_digit : List ℕ → Call
  asks_digit ws = here_at ws (unit_text (Value k)) u

  abbrev digit_call : (ws : List ℕ) → NextCall subs' (over under (asks_digit ws)) (digit_at p) (o ∷ k ∷ [])
  digit_call ws = record { top = (asks_digit ws).frame; caller = (here_at ws (units_from Open) u).frame; below = under; frames = refl; calls = refl }

  to_digit : (ws : List ℕ) → (n : ℕ) × (n ≤ 424) × Way subs' enough n (over under (units ws)) (over under (asks_digit ws))
  to_digit ws =
      let call : Multiplying subs' (over under (units ws)) (multiply_at p) = record {
        x = u;
        y = 10;
        word_x = omega arith;
        word_y = omega arith;
        call = record { top = (units ws).frame; caller = (here_at ws (unit_text (unit_of Open)) u).frame; below = under; frames = refl; calls = refl };
      } in
      let m = multiply_steps 10 in
      let most : m ≤ 420 = omega arith in
      let has = here_at ws (unit_text (unit_of (Value (product u 10)))) u in
      let back = multiplying.law subs' (over under (units ws)) (multiply_at p) (own_number core p 2) (is_product p) call in
      let inside : Way subs' enough m (over under (units ws)) (over under has) = way_of_call subs' enough m (over under (units ws)) (over under has) (omega arith) (returns subs' m (over under (units ws)) (over under has) back) in (
        m + 4,
        omega (arith, most),
        way_then subs' enough m 4 (over under (units ws)) (over under has) (over under (asks_digit ws)) inside
            (way_of_run subs' under 4 has (asks_digit ws) (to_unit subs' (digits_at p) o s.statics ws (digit_at p) w u (product u 10) k (unit_is v high))),
      )

  -- from there on: the string has the other digits already
  module _ (text : List ℕ) (n0 b : ℕ) (few0 : n0 ≤ b) (ws : List ℕ) (r : IsRewritten s.words o place text room ws) (long : length s.words ≡ 22528) (way : Way subs' enough n0 start (over under (units ws))) where
    long_now : length ws ≡ 22528
    long_now = r.as_long ∙ long

    last_added : length text < room → Added p o room place c (text ++ k ∷ []) (b + 500)
    last_added h =
        let (n1, few1, way1) = to_digit ws in
        let (n2, few2, ws2, back, more) = digit_added p (over under (asks_digit ws)) o k text room r.string long_now (digit_call ws) h in
        let behind = here_at ws2 (units_from (Value 0)) u in
        let end = here_at ws2 (returns_value 5 0 End) u in
        let inside : Way subs' enough n2 (over under (asks_digit ws)) (over under behind) = way_of_call subs' enough n2 (over under (asks_digit ws)) (over under behind) (omega arith) back in
        let whole = way_then subs' enough n0 (n1 + (n2 + 2)) start (over under (units ws)) (over under end) way
        (way_then subs' enough n1 (n2 + 2) (over under (units ws)) (over under (asks_digit ws)) (over under end) way1
        (way_then subs' enough n2 2 (over under (asks_digit ws)) (over under behind) (over under end) inside (way_of_run subs' under 2 behind end (units_end subs' (digits_at p) o s.statics ws2 w u)))) in
        record {
          n = suc (suc (n0 + (n1 + (n2 + 2))));
          few = omega (arith, few0, few1, few2);
          ws = ws2;
          back = returns_by subs' s (digits_at p) (o ∷ w ∷ []) c (n0 + (n1 + (n2 + 2))) (here_at ws2 End u).frame s.statics ws2 5 0 End whole;
          string = rewritten_then s.words ws ws2 o place text (text ++ k ∷ []) room r more;
        }

    last_refused : length text ≡ room → Refused p o room place c text (b + 500)
    last_refused h =
        let (n1, few1, way1) = to_digit ws in
        let f = fails_then subs' (error_at p) 19 enough n0 (n1 + (1 + 5)) under start (over under (units ws)) s.statics ws way
        (fails_then subs' (error_at p) 19 enough n1 (1 + 5) under (over under (units ws)) (over under (asks_digit ws)) s.statics ws way1
        (fails_called subs' (error_at p) 19 (over under (asks_digit ws)) (digit_at p) (o ∷ k ∷ []) (digit_call ws) 5 s.statics ws (digit_refused p (over under (asks_digit ws)) o k text room r.string long_now (digit_call ws) h))) in
        let few = f.few in
        record { ws = ws; fails = record { n = f.n; few = omega (arith, few, few0, few1); last = f.last; way = f.way; deep = f.deep; waits = f.waits; calls = f.calls }; string = r }

  -- ---- no tens

  module _ (small : v < 10) where
    to_only : (n : ℕ) × (n ≤ 810) × Way subs' enough n start (over under (units s.words))
    to_only =
        let (n, few, way) = to_quotient in
        let none : word_lt u 0 ≡ 0 = ap (λ z. word_lt (word_neg z) 0) (let e : v / 10 ≡ 0 = omega (arith, small) in e) in
        (n + 8, omega (arith, few), way_then subs' enough n 8 start (over under divided) (over under (units s.words)) way (way_of_run subs' under 8 divided (units s.words) (no_tens subs' (digits_at p) o s.statics s.words (digits_at p) (multiply_at p) (digit_at p) w u none)))

  -- ---- tens

  module _ (large : 10 ≤ v) where
    abbrev asks_tens : Call
    asks_tens = here_at s.words (tens_from (asks_two (digits_at p) (Value o) (Value u)) (multiply_at p) (digit_at p)) u

    abbrev tens_call : NextCall subs' (over under asks_tens) (digits_at p) (o ∷ u ∷ [])
    tens_call = record { top = asks_tens.frame; caller = (here_at s.words (tens_from Open (multiply_at p) (digit_at p)) u).frame; below = under; frames = refl; calls = refl }

    to_more : (n : ℕ) × (n ≤ 809) × Way subs' enough n start (over under asks_tens)
    to_more =
        let (n, few, way) = to_quotient in
        let some : word_lt u 0 ≡ 65535 = negative u (omega (arith, large, high)) in
        (n + 7, omega (arith, few), way_then subs' enough n 7 start (over under divided) (over under asks_tens) way (way_of_run subs' under 7 divided asks_tens (to_tens subs' (digits_at p) o s.statics s.words (digits_at p) (multiply_at p) (digit_at p) w u some)))

    behind_more : (text : List ℕ) (most : ℕ) (a : Added p o room place tens_call text most) → (n : ℕ) × (n ≤ 813 + most) × Way subs' enough n start (over under (units a.ws))
    behind_more text most a =
        let (n, few, way) = to_more in
        let few' = a.few in
        let behind = here_at a.ws (tens_from (Value 0) (multiply_at p) (digit_at p)) u in
        let inside : Way subs' enough a.n (over under asks_tens) (over under behind) = way_of_call subs' enough a.n (over under asks_tens) (over under behind) (omega arith) a.back in (
          n + (a.n + 4),
          omega (arith, few, few'),
          way_then subs' enough n (a.n + 4) start (over under asks_tens) (over under (units a.ws)) way
              (way_then subs' enough a.n 4 (over under asks_tens) (over under behind) (over under (units a.ws)) inside (way_of_run subs' under 4 behind (units a.ws) (behind_tens subs' (digits_at p) o s.statics a.ws (multiply_at p) (digit_at p) w u))),
        )

    tens_refused : (text : List ℕ) (most : ℕ) → Refused p o room place tens_call text most → Refused p o room place c text (810 + most)
    tens_refused text most r =
        let (n, few, way) = to_more in
        let f = fails_then subs' (error_at p) 19 enough n (1 + most) under start (over under asks_tens) s.statics r.ws way
        (fails_called subs' (error_at p) 19 (over under asks_tens) (digits_at p) (o ∷ u ∷ []) tens_call most s.statics r.ws r.fails) in
        let few' = f.few in
        record { ws = r.ws; fails = record { n = f.n; few = omega (arith, few, few'); last = f.last; way = f.way; deep = f.deep; waits = f.waits; calls = f.calls }; string = r.string }

-- ---- texts that are cut

cut_short : (room : ℕ) (text ks more : List ℕ) → room ≤ length text + length ks → length text ≤ room → cut room text (ks ++ more) ≡ cut room text ks
cut_short room text ks more h l = ap (λ z. text ++ z) (take-append-le (room - length text) ks more (omega (arith, h, l)))

cut_none : (room : ℕ) (ks : List ℕ) → cut room [] ks ≡ take room ks
cut_none room ks = ap (λ z. take z ks) (let e : room - 0 ≡ room = omega arith in e)

cut_whole : (room : ℕ) (text ks : List ℕ) → room ≡ length text + length ks → cut room text ks ≡ text ++ ks
cut_whole room text ks e =
    let all : take (length ks) ks ≡ ks = take-length ks in
    ap (λ z. text ++ take z ks) (let d : room - length text ≡ length ks = omega (arith, e) in d) ∙ ap (λ z. text ++ z) all

-- ---- all digits, by as many turns as the number at most

module _ {core : Core} (p : IsShipped core) (o room : ℕ) (text : List ℕ) where
  abbrev Most : ℕ → ℕ
  Most v = 1330 * length (decimal v)

  record Digits (place v : ℕ) {s : State} (c : NextCall (the_subroutines core) s (digits_at p) (o ∷ word_neg v ∷ [])) : Type 0 where
    added : length text + length (decimal v) ≤ room → Added p o room place c (text ++ decimal v) (Most v)
    refused : room < length text + length (decimal v) → Refused p o room place c (cut room text (decimal v)) (Most v)

  enough_added : {s : State} {g : ℕ} {values : List ℕ} (c : NextCall (the_subroutines core) s g values) (place : ℕ) (t t' : List ℕ) (most most' : ℕ) → t ≡ t' → most ≤ most' → Added p o room place c t most → Added p o room place c t' most'
  enough_added {s = s} c place t t' most most' e m a = let few = a.few in record { n = a.n; few = omega (arith, few, m); ws = a.ws; back = a.back; string = subst (λ z. IsRewritten s.words o place z room a.ws) e a.string }

  enough_refused : {s : State} {g : ℕ} {values : List ℕ} (c : NextCall (the_subroutines core) s g values) (place : ℕ) (t t' : List ℕ) (most most' : ℕ) → t ≡ t' → most ≤ most' → Refused p o room place c t most → Refused p o room place c t' most'
  enough_refused {s = s} c place t t' most most' e m r =
      let f = r.fails in
      let few = f.few in
      record { ws = r.ws; fails = record { n = f.n; few = omega (arith, few, m); last = f.last; way = f.way; deep = f.deep; waits = f.waits; calls = f.calls }; string = subst (λ z. IsRewritten s.words o place z room r.ws) e r.string }

  module _ (v : ℕ) (high : v ≤ 32768) (s : State) (t : StringAt s.words o text room) (long : length s.words ≡ 22528) (c : NextCall (the_subroutines core) s (digits_at p) (o ∷ word_neg v ∷ [])) where
    only_one : v < 10 → Digits t.place v c
    only_one small =
        let (n, few, way) = to_only p s o v high room t.place c small in
        let size = one_digit v small in
        let unit : (48 + v % 10) ∷ [] ≡ decimal v = ap (λ (z : ℕ). (48 + z) ∷ []) (let e : v % 10 ≡ v = omega (arith, small) in e) ∙ sym (decimal_digit v small) in
        let now = unchanged s.words o text room t in
        let t_few = t.few in
        record {
          added = λ h. enough_added c t.place (text ++ (48 + v % 10) ∷ []) (text ++ decimal v) (810 + 500) (Most v) (ap (λ z. text ++ z) unit) (omega (arith, size)) (last_added p s o v high room t.place c text n 810 few s.words now long way (omega (arith, h, size)));
          refused = λ h.
              let full : length text ≡ room = omega (arith, h, size, t_few) in
              let none : text ≡ cut room text (decimal v) = sym (ap (λ z. text ++ take z (decimal v)) (let e : room - length text ≡ 0 = omega (arith, full) in e) ∙ append-nil text) in
              enough_refused c t.place text (cut room text (decimal v)) (810 + 500) (Most v) none (omega (arith, size)) (last_refused p s o v high room t.place c text n 810 few s.words now long way full);
        }

    more_than_one : (large : 10 ≤ v) → Digits t.place (v / 10) (tens_call p s o v high room t.place c large) → Digits t.place v c
    more_than_one large tens =
        let q = v / 10 in
        let size = one_more_digit v large high in
        let step : decimal v ≡ decimal q ++ (48 + v % 10) ∷ [] = decimal_step v large (omega (arith, high)) in
        let t_few = t.few in
        let begun : length text + length (decimal q) ≤ room → (a : Added p o room t.place (tens_call p s o v high room t.place c large) (text ++ decimal q) (Most q)) × (n : ℕ) × (n ≤ 813 + Most q) × Way (the_subroutines core) (suc (suc (length c.below))) n (opened (the_subroutines core) s (digits_at p) (o ∷ word_neg v ∷ []) c) (over (c.caller ∷ c.below) (units p s o v high room t.place c a.ws)) =
        λ h. let a = tens.added h in let (n, few, way) = behind_more p s o v high room t.place c large (text ++ decimal q) (Most q) a in (a, n, few, way) in
        let joined : length (text ++ decimal q) ≡ length text + length (decimal q) = length-append text (decimal q) in
        record {
          added = λ h.
              let (a, n, few, way) = begun (omega (arith, h, size)) in
              enough_added c t.place ((text ++ decimal q) ++ (48 + v % 10) ∷ []) (text ++ decimal v) (813 + Most q + 500) (Most v) (append_assoc text (decimal q) ((48 + v % 10) ∷ []) ∙ ap (λ z. text ++ z) (sym step)) (omega (arith, size))
              (last_added p s o v high room t.place c (text ++ decimal q) n (813 + Most q) few a.ws a.string long way (omega (arith, h, size, joined)));
          refused = λ h.
              ⊎_elim
              (λ (l : room < length text + length (decimal q)).
              let same : cut room text (decimal q) ≡ cut room text (decimal v) = sym (ap (cut room text) step ∙ cut_short room text (decimal q) ((48 + v % 10) ∷ []) (omega (arith, l)) t_few) in
              enough_refused c t.place (cut room text (decimal q)) (cut room text (decimal v)) (810 + Most q) (Most v) same (omega (arith, size)) (tens_refused p s o v high room t.place c large (cut room text (decimal q)) (Most q) (tens.refused l)))
              (λ (g : length text + length (decimal q) ≤ room).
              let (a, n, few, way) = begun g in
              let full : room ≡ length text + length (decimal q) = omega (arith, h, size, g) in
              let same : text ++ decimal q ≡ cut room text (decimal v) = sym (ap (cut room text) step ∙ cut_short room text (decimal q) ((48 + v % 10) ∷ []) (omega (arith, full)) t_few ∙ cut_whole room text (decimal q) full) in
              enough_refused c t.place (text ++ decimal q) (cut room text (decimal v)) (813 + Most q + 500) (Most v) same (omega (arith, size))
              (last_refused p s o v high room t.place c (text ++ decimal q) n (813 + Most q) few a.ws a.string long way (omega (arith, joined, full))))
              (cases_lt room (length text + length (decimal q)));
        }

  all_digits : (turns v : ℕ) → v ≤ turns → (high : v ≤ 32768) (s : State) (t : StringAt s.words o text room) → length s.words ≡ 22528 → (c : NextCall (the_subroutines core) s (digits_at p) (o ∷ word_neg v ∷ [])) → Digits t.place v c
  all_digits zero v h high s t long c = only_one v high s t long c (omega (arith, h))
  all_digits (suc turns) v h high s t long c =
      ⊎_elim (λ (l : v < 10). only_one v high s t long c l)
      (λ (g : 10 ≤ v).
      more_than_one v high s t long c g
      (all_digits turns (v / 10) (omega (arith, h, g)) (omega (arith, high)) (over (c.caller ∷ c.below) (asks_tens p s o v high room t.place c g)) t long (tens_call p s o v high room t.place c g)))
      (cases_lt v 10)

-- ---- the whole

-- a string with no character left
emptied : (ws : List ℕ) (o : ℕ) (text : List ℕ) (room : ℕ) (t : StringAt ws o text room) → length ws ≡ 22528 → IsRewritten ws o t.place [] room (with_heap_word ws (o + 1) 0)
emptied ws o text room t long =
    let object = t.object in
    record {
      string = record {
        place = t.place;
        characters = other_word ws (o + 1) o 0 (omega (arith, object)) (omega (arith, object)) (λ e. omega (arith, e)) ∙ t.characters;
        count = this_word ws (o + 1) 0 long (omega (arith, object)) (omega (arith, object));
        most = other_word ws (o + 1) (o + 2) 0 (omega (arith, object)) (omega (arith, object)) (λ e. omega (arith, e)) ∙ t.most;
        object = t.object;
        few = omega arith;
        small = t.small;
        inside = t.inside;
        apart = t.apart;
        each = λ j h. absurd (omega (arith, h));
      };
      same_place = refl;
      as_long = length-set ws (o + 1 - 2048) 0;
      others = λ x low d out. other_word ws (o + 1) x 0 (omega (arith, object)) low d;
    }

module _ {core : Core} (p : IsShipped core) (s : State) (o n : ℕ) (word : n < 65536) (text : List ℕ) (room : ℕ) (c : CallsString p s (codes "setInt") o (n ∷ []) text room) where
  abbrev all : List Subroutine
  all = the_subroutines core

  abbrev t : StringAt s.words o text room
  t = c.string

  abbrev frames_below : List Frame
  frames_below = c.call.caller ∷ c.call.below

  abbrev deep : ℕ
  deep = suc (length frames_below)

  abbrev opening : State
  opening = opened all s (set_at p) (o ∷ n ∷ []) c.call

  abbrev stands : List ℕ → Text → ℕ → Call
  stands ws x m = at_two all (set_at p) o s.statics ws x m []

  abbrev ws0 : List ℕ
  ws0 = with_heap_word s.words (o + 1) 0

  empty : IsRewritten s.words o t.place [] room ws0
  empty = emptied s.words o text room t c.words

  abbrev tests : Call
  tests = stands ws0 (sign_test (digit_at p) (digits_at p)) n

  to_test : Way all deep 2 opening (over frames_below tests)
  to_test =
      way_of_run all frames_below 2 (record { frame = new_frame all (set_at p) (o ∷ n ∷ []); statics = s.statics; words = s.words }) tests
      (ap (λ (z : Frame). run all 2 (record { frame = z; statics = s.statics; words = s.words })) (enters all (set_at p) _ (o ∷ n ∷ []) (is_set p)) ∙ clears all (set_at p) o s.statics s.words (digit_at p) (digits_at p) n (o + 1) (at_count s.words o text room t))

  -- from the call of appendDigits on
  module _ (begin : List ℕ) (v : ℕ) (high : v ≤ 32768) (n0 : ℕ) (few0 : n0 ≤ 41) (ws : List ℕ) (r : IsRewritten s.words o t.place begin room ws) (m : ℕ)
      (way : Way all deep n0 opening (over frames_below (stands ws (set_end (asks_two (digits_at p) (Value o) (Value (word_neg v)))) m))) where
    abbrev asks_digits : Call
    asks_digits = stands ws (set_end (asks_two (digits_at p) (Value o) (Value (word_neg v)))) m

    abbrev digits_call : NextCall all (over frames_below asks_digits) (digits_at p) (o ∷ word_neg v ∷ [])
    digits_call = record { top = asks_digits.frame; caller = (stands ws (set_end Open) m).frame; below = frames_below; frames = refl; calls = refl }

    digits : Digits p o room begin r.string.place v digits_call
    digits = all_digits p o room begin v v (omega arith) high (over frames_below asks_digits) r.string (r.as_long ∙ c.words) digits_call

    set_by : length begin + length (decimal v) ≤ room → (words : List ℕ) × ((k : ℕ) × (k ≤ 7000) × Returns all s k (record (given_back s c.call.caller c.call.below 0) { statics = s.statics; words = words })) × IsRewritten s.words o t.place (begin ++ decimal v) room words
    set_by h =
        let a = digits.added h in
        let size = few_digits v high in
        let few = a.few in
        let behind = stands a.ws (set_end (Value 0)) m in
        let end = stands a.ws (returns_value 6 0 End) m in
        let inside : Way all deep a.n (over frames_below asks_digits) (over frames_below behind) = way_of_call all deep a.n (over frames_below asks_digits) (over frames_below behind) (omega arith) a.back in
        let whole = way_then all deep n0 (a.n + 2) opening (over frames_below asks_digits) (over frames_below end) way
        (way_then all deep a.n 2 (over frames_below asks_digits) (over frames_below behind) (over frames_below end) inside (way_of_run all frames_below 2 behind end (set_ends all (set_at p) o s.statics a.ws m))) in (
          a.ws,
          (suc (suc (n0 + (a.n + 2))), omega (arith, few0, few, size), returns_by all s (set_at p) (o ∷ n ∷ []) c.call (n0 + (a.n + 2)) (stands a.ws End m).frame s.statics a.ws 6 0 End whole),
          rewritten_then s.words ws a.ws o t.place begin (begin ++ decimal v) room r a.string,
        )

    refused_by : room < length begin + length (decimal v) → Refused p o room t.place c.call (cut room begin (decimal v)) 6998
    refused_by h =
        let d = digits.refused h in
        let size = few_digits v high in
        let f = fails_then all (error_at p) 19 deep n0 (1 + Most p o room begin v) frames_below opening (over frames_below asks_digits) s.statics d.ws way
        (fails_called all (error_at p) 19 (over frames_below asks_digits) (digits_at p) (o ∷ word_neg v ∷ []) digits_call (Most p o room begin v) s.statics d.ws d.fails) in
        let few = f.few in
        record {
          ws = d.ws;
          fails = record { n = f.n; few = omega (arith, few, few0, size); last = f.last; way = f.way; deep = f.deep; waits = f.waits; calls = f.calls };
          string = rewritten_then s.words ws d.ws o t.place begin (cut room begin (decimal v)) room r d.string;
        }

  -- ---- a number not below 0

  module _ (l : n < 32768) where
    is_shown : shown_number n ≡ decimal n
    is_shown = ap (λ b. if b then decimal n else 45 ∷ decimal (65536 - n)) (plain n l)

    to_plain : Way all deep (2 + 9) opening (over frames_below (stands ws0 (set_end (asks_two (digits_at p) (Value o) (Value (word_neg n)))) (word_neg n)))
    to_plain =
        let asks = stands ws0 (set_end (asks_two (digits_at p) (Value o) (Value (word_neg n)))) (word_neg n) in
        way_then all deep 2 9 opening (over frames_below tests) (over frames_below asks) to_test
        (way_of_run all frames_below 9 tests asks (is_plain all (set_at p) o s.statics ws0 (digit_at p) (digits_at p) n (word_neg n) (not_negative n l) refl))

  -- ---- one below 0

  module _ (g : 32768 ≤ n) where
    abbrev v : ℕ
    v = 65536 - n

    is_shown_minus : shown_number n ≡ 45 ∷ decimal (65536 - n)
    is_shown_minus = ap (λ b. if b then decimal n else 45 ∷ decimal (65536 - n)) (minus n g)

    abbrev asks_minus : Call
    asks_minus = stands ws0 (minus_from (asks_two (digit_at p) (Value o) (Value 45)) (digits_at p)) n

    abbrev minus_call : NextCall all (over frames_below asks_minus) (digit_at p) (o ∷ 45 ∷ [])
    minus_call = record { top = asks_minus.frame; caller = (stands ws0 (minus_from Open (digits_at p)) n).frame; below = frames_below; frames = refl; calls = refl }

    to_minus : Way all deep (2 + 6) opening (over frames_below asks_minus)
    to_minus =
        way_then all deep 2 6 opening (over frames_below tests) (over frames_below asks_minus) to_test
        (way_of_run all frames_below 6 tests asks_minus (is_minus all (set_at p) o s.statics ws0 (digit_at p) (digits_at p) n (negative n g)))

    long0 : length ws0 ≡ 22528
    long0 = empty.as_long ∙ c.words

    -- no room for the minus
    no_minus : 0 ≡ room → Refused p o room t.place c.call [] 6998
    no_minus e =
        let f = fails_then all (error_at p) 19 deep (2 + 6) (1 + 5) frames_below opening (over frames_below asks_minus) s.statics ws0 to_minus
        (fails_called all (error_at p) 19 (over frames_below asks_minus) (digit_at p) (o ∷ 45 ∷ []) minus_call 5 s.statics ws0 (digit_refused p (over frames_below asks_minus) o 45 [] room empty.string long0 minus_call e)) in
        let few = f.few in
        record { ws = ws0; fails = record { n = f.n; few = omega (arith, few); last = f.last; way = f.way; deep = f.deep; waits = f.waits; calls = f.calls }; string = empty }

    record Signed : Type 0 where
      n0 : ℕ
      few0 : n0 ≤ 41
      ws : List ℕ
      r : IsRewritten s.words o t.place (45 ∷ []) room ws
      way : Way all deep n0 opening (over frames_below (stands ws (set_end (asks_two (digits_at p) (Value o) (Value (word_neg (65536 - n))))) n))

    signed : 0 < room → Signed
    signed h =
        let (k, few, ws, back, more) = digit_added p (over frames_below asks_minus) o 45 [] room empty.string long0 minus_call h in
        let behind = stands ws (minus_from (Value 0) (digits_at p)) n in
        let asks = stands ws (set_end (asks_two (digits_at p) (Value o) (Value n))) n in
        let inside : Way all deep k (over frames_below asks_minus) (over frames_below behind) = way_of_call all deep k (over frames_below asks_minus) (over frames_below behind) (omega arith) back in
        let whole = way_then all deep (2 + 6) (k + 3) opening (over frames_below asks_minus) (over frames_below asks) to_minus
        (way_then all deep k 3 (over frames_below asks_minus) (over frames_below behind) (over frames_below asks) inside (way_of_run all frames_below 3 behind asks (behind_minus all (set_at p) o s.statics ws (digits_at p) n))) in
        let e : n ≡ word_neg (65536 - n) = omega (arith, g, word) in
        record {
          n0 = (2 + 6) + (k + 3);
          few0 = omega (arith, few);
          ws = ws;
          r = rewritten_then s.words ws0 ws o t.place [] (45 ∷ []) room empty more;
          way = subst (λ (z : ℕ). Way all deep ((2 + 6) + (k + 3)) opening (over frames_below (stands ws (set_end (asks_two (digits_at p) (Value o) (Value z))) n))) e whole;
        }

  set_whole : length (shown_number n) ≤ room → (words : List ℕ) × ((k : ℕ) × (k ≤ 7000) × Returns all s k (record (given_back s c.call.caller c.call.below 0) { statics = s.statics; words = words })) × IsRewritten s.words o t.place (shown_number n) room words
  set_whole h =
      ⊎_elim
      (λ (l : n < 32768).
      let shown = is_shown l in
      let size : length (shown_number n) ≡ length (decimal n) = ap length shown in
      let (words, leaves, string) = set_by [] n (omega (arith, l)) (2 + 9) (omega arith) ws0 empty (word_neg n) (to_plain l) (omega (arith, h, size)) in
      (words, leaves, subst (λ z. IsRewritten s.words o t.place z room words) (sym shown) string))
      (λ (g : 32768 ≤ n).
      let shown = is_shown_minus g in
      let size : length (shown_number n) ≡ suc (length (decimal (65536 - n))) = ap length shown in
      let b = signed g (omega (arith, h, size)) in
      let (words, leaves, string) = set_by (45 ∷ []) (65536 - n) (omega (arith, g)) b.n0 b.few0 b.ws b.r n b.way (omega (arith, h, size)) in
      (words, leaves, subst (λ z. IsRewritten s.words o t.place z room words) (sym shown) string))
      (cases_lt n 32768)

  refused_minus : (g : 32768 ≤ n) (z : ℕ) → room ≡ z → room < suc (length (decimal (65536 - n))) → Refused p o room t.place c.call (take room (45 ∷ decimal (65536 - n))) 6998
  refused_minus g zero e h =
      let none : [] ≡ take room (45 ∷ decimal (65536 - n)) = sym (ap (λ z. take z (45 ∷ decimal (65536 - n))) e) in
      subst (λ z. Refused p o room t.place c.call z 6998) none (no_minus g (sym e))
  refused_minus g (suc r) e h =
      let b = signed g (omega (arith, e)) in
      let d = decimal (65536 - n) in
      let left : room - 1 ≡ r = omega (arith, e) in
      let same : cut room (45 ∷ []) (decimal (65536 - n)) ≡ take room (45 ∷ decimal (65536 - n)) = ap (λ z. 45 ∷ take z (decimal (65536 - n))) left ∙ sym (ap (λ z. take z (45 ∷ decimal (65536 - n))) e) in
      subst (λ z. Refused p o room t.place c.call z 6998) same (refused_by (45 ∷ []) (65536 - n) (omega (arith, g)) b.n0 b.few0 b.ws b.r n b.way (omega (arith, h)))

  refused_whole : room < length (shown_number n) → Refused p o room t.place c.call (take room (shown_number n)) 6998
  refused_whole h =
      ⊎_elim
      (λ (l : n < 32768).
      let shown = is_shown l in
      let size : length (shown_number n) ≡ length (decimal n) = ap length shown in
      let same : cut room [] (decimal n) ≡ take room (shown_number n) = cut_none room (decimal n) ∙ ap (take room) (sym shown) in
      subst (λ z. Refused p o room t.place c.call z 6998) same (refused_by [] n (omega (arith, l)) (2 + 9) (omega arith) ws0 empty (word_neg n) (to_plain l) (omega (arith, h, size))))
      (λ (g : 32768 ≤ n).
      let shown = is_shown_minus g in
      let size : length (shown_number n) ≡ suc (length (decimal (65536 - n))) = ap length shown in
      subst (λ z. Refused p o room t.place c.call z 6998) (ap (take room) (sym shown)) (refused_minus g room refl (omega (arith, h, size))))
      (cases_lt n 32768)

module _ {core : Core} (p : IsShipped core) (s : State) (o : ℕ) (text : List ℕ) (room : ℕ) where
  pub set_law : SetLaw p s o text room
  set_law n word h c = set_whole p s o n word text room c h

  pub set_error_law : SetErrorLaw p s o text room
  set_error_law n word h c =
      let r = refused_whole p s o n word text room c h in
      (r.ws, comes_to_error p s (set_at p) (o ∷ n ∷ []) c.call 19 6998 s.statics r.ws r.fails, r.string)
