-- String.setInt, appendDigits and appendDigit: each straight piece of their runs is a computation.
use Rattle.std.proofs.Common.{◌≡◌, ℕ, ◌+◌, true, false, nat_eq, List, [], ◌∷◌, Some, refl}
use Rattle.word16.specs.Words.{word_add, word_sub, word_neg, word_lt}
use Rattle.jack_meaning.specs.Text.{Argument, Local, Less, Equal, Plus, Subtract, Minus, Expression, Literal, Value, Name, This, Field, Unary, Binary, Call as Calling, NoMore, More, Let, LetField, Do, If, Return, Text, End, Next, Subroutine}
use Rattle.os_laws.specs.Heap.{word_at}
use Rattle.os_laws.proofs.Runs.{Call, run, run_then}
use Rattle.os_laws.proofs.Searching.{Reaches}
use Rattle.os_functions.specs.StringLaws.{with_heap_word}
use Rattle.os_functions.proofs.Pieces.{in_call, returns_value}
use Rattle.os_functions.proofs.Texts.{error_text}

abbrev pub asks_two : ℕ → Expression → Expression → Expression
asks_two g a b = Calling g (More a (More b NoMore))

-- ---- appendDigit

abbrev pub digit_end : Expression → Text
digit_end e = Next (Do 3 e) (Next (Return 4 (Literal 0)) End)

abbrev pub digit_by : Expression → Expression → ℕ → ℕ → Text
digit_by a b error append = Next (If 1 false (Binary Equal a b) (error_text 2 error 19) End) (digit_end (asks_two append This (Name (Argument 1))))

abbrev pub digit_body : ℕ → ℕ → Text
digit_body error append = digit_by (Field 1) (Field 2) error append

-- ---- appendDigits: the local is tens

abbrev pub units_from : Expression → Text
units_from e = Next (Do 4 e) (Next (Return 5 (Literal 0)) End)

abbrev pub unit_of : Expression → Expression
unit_of e = Binary Plus (Binary Subtract e (Name (Argument 1))) (Literal 48)

abbrev pub appends_unit : ℕ → ℕ → Text
appends_unit multiply digit = units_from (asks_two digit This (unit_of (asks_two multiply (Name (Local 0)) (Literal 10))))

abbrev pub tens_from : Expression → ℕ → ℕ → Text
tens_from e multiply digit = Next (Do 3 e) (appends_unit multiply digit)

abbrev pub behind_quotient : Expression → ℕ → ℕ → ℕ → Text
behind_quotient e digits multiply digit =
    Next (Let 1 (Local 0) e) (Next (If 2 false (Binary Less (Name (Local 0)) (Literal 0)) (Next (Do 3 (asks_two digits This (Name (Local 0)))) End) End) (appends_unit multiply digit))

abbrev pub digits_body : ℕ → ℕ → ℕ → ℕ → Text
digits_body divide digits multiply digit = behind_quotient (asks_two divide (Name (Argument 1)) (Literal 10)) digits multiply digit

-- ---- setInt

abbrev pub set_end : Expression → Text
set_end e = Next (Do 5 e) (Next (Return 6 (Literal 0)) End)

abbrev pub sets_digits : ℕ → Text
sets_digits digits = set_end (asks_two digits This (Name (Argument 1)))

abbrev pub minus_from : Expression → ℕ → Text
minus_from e digits = Next (Do 3 e) (sets_digits digits)

abbrev pub sign_test : ℕ → ℕ → Text
sign_test digit digits =
    Next (If 2 true (Binary Less (Name (Argument 1)) (Literal 0)) (Next (Do 3 (asks_two digit This (Literal 45))) End) (Next (Let 4 (Argument 1) (Unary Minus (Name (Argument 1)))) End)) (sets_digits digits)

abbrev pub set_body : ℕ → ℕ → Text
set_body digit digits = Next (LetField 1 1 (Literal 0)) (sign_test digit digits)

module _ (subs : List Subroutine) (g o : ℕ) (ss ws : List ℕ) where
  -- the call of a method with one more argument
  abbrev pub at_two : Text → ℕ → List ℕ → Call
  at_two t v ls = in_call g o ss ws t (o ∷ v ∷ []) ls

  -- ---- appendDigit: a is the address of the count, b that of the room

  digit_counts : (error append k a : ℕ) → Reaches o 1 a → run subs 1 (at_two (digit_body error append) k []) ≡ Some (at_two (digit_by (Value (word_at ws a)) (Field 2) error append) k [])
  digit_counts error append k a r = rw (r.at, r.low, r.high) refl

  digit_passes : (error append k n b : ℕ) → Reaches o 2 b → nat_eq n (word_at ws b) ≡ false
      → run subs 5 (at_two (digit_by (Value n) (Field 2) error append) k []) ≡ Some (at_two (digit_end (asks_two append (Value o) (Value k))) k [])
  digit_passes error append k n b r h = rw (r.at, r.low, r.high, h) refl

  digit_stops : (error append k n b : ℕ) → Reaches o 2 b → nat_eq n (word_at ws b) ≡ true
      → run subs 4 (at_two (digit_by (Value n) (Field 2) error append) k []) ≡ Some (at_two (Next (Do 2 (Calling error (More (Value 19) NoMore))) (digit_end (asks_two append This (Name (Argument 1))))) k [])
  digit_stops error append k n b r h = rw (r.at, r.low, r.high, h) refl

  pub to_append : (error append k a b : ℕ) → Reaches o 1 a → Reaches o 2 b → nat_eq (word_at ws a) (word_at ws b) ≡ false
      → run subs (1 + 5) (at_two (digit_body error append) k []) ≡ Some (at_two (digit_end (asks_two append (Value o) (Value k))) k [])
  to_append error append k a b r q h =
      run_then subs 1 5 (at_two (digit_body error append) k []) (at_two (digit_by (Value (word_at ws a)) (Field 2) error append) k []) (at_two (digit_end (asks_two append (Value o) (Value k))) k [])
      (digit_counts error append k a r) (digit_passes error append k (word_at ws a) b q h)

  pub to_full : (error append k a b : ℕ) → Reaches o 1 a → Reaches o 2 b → nat_eq (word_at ws a) (word_at ws b) ≡ true
      → run subs (1 + 4) (at_two (digit_body error append) k []) ≡ Some (at_two (Next (Do 2 (Calling error (More (Value 19) NoMore))) (digit_end (asks_two append This (Name (Argument 1))))) k [])
  to_full error append k a b r q h =
      run_then subs 1 4 (at_two (digit_body error append) k []) (at_two (digit_by (Value (word_at ws a)) (Field 2) error append) k [])
      (at_two (Next (Do 2 (Calling error (More (Value 19) NoMore))) (digit_end (asks_two append This (Name (Argument 1))))) k []) (digit_counts error append k a r) (digit_stops error append k (word_at ws a) b q h)

  pub digit_ends : (k v : ℕ) → run subs 2 (at_two (digit_end (Value v)) k []) ≡ Some (at_two (returns_value 4 0 End) k [])
  digit_ends k v = refl

  -- ---- appendDigits

  pub to_divide : (divide digits multiply digit n : ℕ) → run subs 2 (at_two (digits_body divide digits multiply digit) n (0 ∷ [])) ≡ Some (at_two (behind_quotient (asks_two divide (Value n) (Value 10)) digits multiply digit) n (0 ∷ []))
  to_divide divide digits multiply digit n = refl

  pub no_tens : (digits multiply digit n q : ℕ) → word_lt q 0 ≡ 0 → run subs 8 (at_two (behind_quotient (Value q) digits multiply digit) n (0 ∷ [])) ≡ Some (at_two (units_from (asks_two digit (Value o) (unit_of (asks_two multiply (Value q) (Value 10))))) n (q ∷ []))
  no_tens digits multiply digit n q h = rw h refl

  pub to_tens : (digits multiply digit n q : ℕ) → word_lt q 0 ≡ 65535 → run subs 7 (at_two (behind_quotient (Value q) digits multiply digit) n (0 ∷ [])) ≡ Some (at_two (tens_from (asks_two digits (Value o) (Value q)) multiply digit) n (q ∷ []))
  to_tens digits multiply digit n q h = rw h refl

  pub behind_tens : (multiply digit n q : ℕ) → run subs 4 (at_two (tens_from (Value 0) multiply digit) n (q ∷ [])) ≡ Some (at_two (units_from (asks_two digit (Value o) (unit_of (asks_two multiply (Value q) (Value 10))))) n (q ∷ []))
  behind_tens multiply digit n q = refl

  pub to_unit : (digit n q m k : ℕ) → word_add (word_sub m n) 48 ≡ k → run subs 4 (at_two (units_from (asks_two digit (Value o) (unit_of (Value m)))) n (q ∷ [])) ≡ Some (at_two (units_from (asks_two digit (Value o) (Value k))) n (q ∷ []))
  to_unit digit n q m k h = rw h refl

  pub units_end : (n q : ℕ) → run subs 2 (at_two (units_from (Value 0)) n (q ∷ [])) ≡ Some (at_two (returns_value 5 0 End) n (q ∷ []))
  units_end n q = refl

  -- ---- setInt

  pub clears : (digit digits n a : ℕ) → Reaches o 1 a → run subs 2 (at_two (set_body digit digits) n []) ≡ Some (in_call g o ss (with_heap_word ws a 0) (sign_test digit digits) (o ∷ n ∷ []) [])
  clears digit digits n a r = rw (r.at, r.low, r.high) refl

  pub is_minus : (digit digits n : ℕ) → word_lt n 0 ≡ 65535 → run subs 6 (at_two (sign_test digit digits) n []) ≡ Some (at_two (minus_from (asks_two digit (Value o) (Value 45)) digits) n [])
  is_minus digit digits n h = rw h refl

  pub behind_minus : (digits n : ℕ) → run subs 3 (at_two (minus_from (Value 0) digits) n []) ≡ Some (at_two (set_end (asks_two digits (Value o) (Value n))) n [])
  behind_minus digits n = refl

  pub is_plain : (digit digits n m : ℕ) → word_lt n 0 ≡ 0 → word_neg n ≡ m → run subs 9 (at_two (sign_test digit digits) n []) ≡ Some (at_two (set_end (asks_two digits (Value o) (Value m))) m [])
  is_plain digit digits n m h e = rw (h, e) refl

  pub set_ends : (n : ℕ) → run subs 2 (at_two (set_end (Value 0)) n []) ≡ Some (at_two (returns_value 6 0 End) n [])
  set_ends n = refl
