-- A number printed, an error reported, the endless loop: each straight piece of their runs is a
-- computation.
use Rattle.std.proofs.Common.{◌≡◌, false, ℕ, zero, suc, ◌+◌, ◌-◌, ◌*◌, ◌<◌, ◌≤◌, List, [], ◌∷◌, Some, refl, ap, ◌∙◌, arith}
use Rattle.word16.specs.Words.{word_add, word_sub, word_neg, word_lt, word_gt}
use Rattle.jack_meaning.specs.Text.{Local, Value, Call as Calling, NoMore, More, Let, Do, If, Text, End, Next, Subroutine}
use Rattle.os_laws.proofs.Comparing.{less_shifted, not_less_shifted}
use Rattle.os_laws.proofs.Runs.{Call, run, run_then}
use Rattle.os_functions.proofs.Pieces.{in_call, tail, returns_value}
use Rattle.os_functions.proofs.Texts.{int_body, digit_body, digit_loop, halt_body, halt_loop, sys_error_body}

-- ---- negative numbers compared

negated : (u : ℕ) → u ≤ 32768 → word_neg u ≡ word_add (32768 - u) 32768
negated u h = omega (arith, h)

pub is_smaller : (n u : ℕ) → n < u → u ≤ 32768 → word_gt (word_neg n) (word_neg u) ≡ 65535
is_smaller n u h k =
    ap (λ z. word_lt (word_neg u) z) (negated n (omega (arith, h, k))) ∙ ap (λ z. word_lt z (word_add (32768 - n) 32768)) (negated u k) ∙ less_shifted (32768 - u) (32768 - n) (omega (arith, h, k)) (omega arith)

pub is_not_smaller : (n u : ℕ) → u ≤ n → n ≤ 32768 → word_gt (word_neg n) (word_neg u) ≡ 0
is_not_smaller n u h k =
    ap (λ z. word_lt (word_neg u) z) (negated n k) ∙ ap (λ z. word_lt z (word_add (32768 - n) 32768)) (negated u (omega (arith, h, k))) ∙ not_less_shifted (32768 - u) (32768 - n) (omega (arith, h, k)) (omega arith)

-- a number of this many units, and a rest
abbrev pub up_to : ℕ → ℕ → ℕ → ℕ
up_to unit zero d = d
up_to unit (suc q) d = up_to unit q d + unit

pub up_to_10 : (q d : ℕ) → up_to 10 q d ≡ 10 * q + d
up_to_10 zero d = omega arith
up_to_10 (suc q) d = omega (arith, up_to_10 q d)

pub up_to_100 : (q d : ℕ) → up_to 100 q d ≡ 100 * q + d
up_to_100 zero d = omega arith
up_to_100 (suc q) d = omega (arith, up_to_100 q d)

pub up_to_1000 : (q d : ℕ) → up_to 1000 q d ≡ 1000 * q + d
up_to_1000 zero d = omega arith
up_to_1000 (suc q) d = omega (arith, up_to_1000 q d)

pub up_to_10000 : (q d : ℕ) → up_to 10000 q d ≡ 10000 * q + d
up_to_10000 zero d = omega arith
up_to_10000 (suc q) d = omega (arith, up_to_10000 q d)

module _ (subs : List Subroutine) (g : ℕ) (ss ws : List ℕ) where
  -- ---- one digit

  module _ (print : ℕ) where
    abbrev pub at_digit : Text → ℕ → ℕ → ℕ → ℕ → Call
    at_digit t n rest unit c = in_call g 0 ss ws t (n ∷ rest ∷ unit ∷ []) (c ∷ [])

    -- a number that has no such digit
    pub no_digit : (n rest unit : ℕ) → word_gt n (word_neg unit) ≡ 65535 → run subs 6 (at_digit (digit_body print) n rest unit 0) ≡ Some (at_digit (returns_value 2 rest (tail (digit_body print))) n rest unit 0)
    no_digit n rest unit h = rw h refl

    pub digit_begins : (n rest unit : ℕ) → word_gt n (word_neg unit) ≡ 0 → run subs 7 (at_digit (digit_body print) n rest unit 0) ≡ Some (at_digit (digit_loop print) n rest unit 48)
    digit_begins n rest unit h = rw h refl

    digit_turn : (n rest unit c rest' c' : ℕ) → word_gt rest (word_neg unit) ≡ 0 → word_add rest unit ≡ rest' → word_add c 1 ≡ c' → run subs 14 (at_digit (digit_loop print) n rest unit c) ≡ Some (at_digit (digit_loop print) n rest' unit c')
    digit_turn n rest unit c rest' c' h hr hc = rw (h, hr, hc) refl

    abbrev pub digit_shown : ℕ → Text
    digit_shown c = Next (Do 7 (Calling print (More (Value c) NoMore))) (tail (tail (digit_loop print)))

    digit_ends : (n rest unit c : ℕ) → word_gt rest (word_neg unit) ≡ 65535 → run subs 7 (at_digit (digit_loop print) n rest unit c) ≡ Some (at_digit (digit_shown c) n rest unit c)
    digit_ends n rest unit c h = rw h refl

    -- the units are counted
    pub counted : (n unit q d c : ℕ) → d < unit → up_to unit q d ≤ 32768 → unit ≤ 32768 → c + q < 1000
        → run subs (14 * q + 7) (at_digit (digit_loop print) n (word_neg (up_to unit q d)) unit c) ≡ Some (at_digit (digit_shown (c + q)) n (word_neg d) unit (c + q))
    counted n unit zero d c h few most small =
        digit_ends n (word_neg d) unit c (is_smaller d unit h most) ∙ ap (λ (z : ℕ). Some (at_digit (digit_shown z) n (word_neg d) unit z)) (let e : c ≡ c + 0 = omega arith in e)
    counted n unit (suc q) d c h few most small =
        let u = up_to unit q d in
        let count : 14 * suc q + 7 ≡ 14 + (14 * q + 7) = omega arith in
        let turn =
        digit_turn n (word_neg (u + unit)) unit c (word_neg u) (c + 1) (is_not_smaller (u + unit) unit (omega arith) few)
        (let e : word_add (word_neg (u + unit)) unit ≡ word_neg u = omega (arith, few, h) in e) (let e : word_add c 1 ≡ c + 1 = omega (arith, small) in e) in
        ap (λ k. run subs k (at_digit (digit_loop print) n (word_neg (u + unit)) unit c)) count
        ∙ run_then subs 14 (14 * q + 7) _ _ _ turn (counted n unit q d (c + 1) h (omega (arith, few)) most (omega (arith, small)))
        ∙ ap (λ (z : ℕ). Some (at_digit (digit_shown z) n (word_neg d) unit z)) (let e : c + 1 + q ≡ c + suc q = omega arith in e)

    pub digit_done : (n rest unit c : ℕ) → run subs 2 (at_digit (Next (Do 7 (Value 0)) (tail (tail (digit_loop print)))) n rest unit c) ≡ Some (at_digit (returns_value 8 rest End) n rest unit c)
    digit_done n rest unit c = refl

  -- ---- a number

  module _ (print digit : ℕ) where
    abbrev pub at_int : Text → ℕ → ℕ → Call
    at_int t n rest = in_call g 0 ss ws t (n ∷ []) (rest ∷ [])

    -- after the first k statements
    abbrev pub from_thousand : Text
    from_thousand = tail (tail (int_body print digit))

    abbrev pub from_hundred : Text
    from_hundred = tail from_thousand

    abbrev pub from_ten : Text
    from_ten = tail from_hundred

    abbrev pub from_one : Text
    from_one = tail from_ten

    -- at a call of digit, and after it
    abbrev pub asks_digit : ℕ → ℕ → ℕ → ℕ → Text → Text
    asks_digit k n rest unit t = Next (Let k (Local 0) (Calling digit (More (Value n) (More (Value rest) (More (Value unit) NoMore))))) t

    abbrev pub has_digit : ℕ → ℕ → Text → Text
    has_digit k rest t = Next (Let k (Local 0) (Value rest)) t

    abbrev pub asks_one : ℕ → Text
    asks_one c = Next (Do 8 (Calling print (More (Value c) NoMore))) (tail from_one)

    pub int_begins : (n n' : ℕ) → word_lt n 0 ≡ 0 → word_neg n ≡ n' → run subs 10 (at_int (int_body print digit) n 0) ≡ Some (at_int (asks_digit 4 n' n' 10000 from_thousand) n' 0)
    int_begins n n' h e = rw (h, e) refl

    -- a minus is printed first where the number is below 0
    abbrev pub asks_minus : Text
    asks_minus = Next (Do 2 (Calling print (More (Value 45) NoMore))) (tail (int_body print digit))

    abbrev pub has_minus : Text
    has_minus = Next (Do 2 (Value 0)) (tail (int_body print digit))

    pub minus_begins : (n : ℕ) → word_lt n 0 ≡ 65535 → run subs 5 (at_int (int_body print digit) n 0) ≡ Some (at_int asks_minus n 0)
    minus_begins n h = rw h refl

    pub minus_done : (n : ℕ) → run subs 4 (at_int has_minus n 0) ≡ Some (at_int (asks_digit 4 n n 10000 from_thousand) n 0)
    minus_done n = refl

    pub int_thousand : (n rest r : ℕ) → run subs 4 (at_int (has_digit 4 rest from_thousand) n r) ≡ Some (at_int (asks_digit 5 n rest 1000 from_hundred) n rest)
    int_thousand n rest r = refl

    pub int_hundred : (n rest r : ℕ) → run subs 4 (at_int (has_digit 5 rest from_hundred) n r) ≡ Some (at_int (asks_digit 6 n rest 100 from_ten) n rest)
    int_hundred n rest r = refl

    pub int_ten : (n rest r : ℕ) → run subs 4 (at_int (has_digit 6 rest from_ten) n r) ≡ Some (at_int (asks_digit 7 n rest 10 from_one) n rest)
    int_ten n rest r = refl

    pub int_one : (n rest r c : ℕ) → word_sub 48 rest ≡ c → run subs 4 (at_int (has_digit 7 rest from_one) n r) ≡ Some (at_int (asks_one c) n rest)
    int_one n rest r c e = rw e refl

    pub int_done : (n rest : ℕ) → run subs 2 (at_int (Next (Do 8 (Value 0)) (tail from_one)) n rest) ≡ Some (at_int (returns_value 9 0 End) n rest)
    int_done n rest = refl

  -- ---- an error

  module _ (print int halt n : ℕ) where
    abbrev pub at_error : Text → Call
    at_error t = in_call g 0 ss ws t (n ∷ []) []

    abbrev pub error_tail : ℕ → Text
    error_tail zero = sys_error_body print int halt
    error_tail (suc k) = tail (error_tail k)

    abbrev pub asks_letter : ℕ → ℕ → Text
    asks_letter k c = Next (Do (suc k) (Calling print (More (Value c) NoMore))) (error_tail (suc k))

    abbrev pub has_letter : ℕ → Text
    has_letter k = Next (Do (suc k) (Value 0)) (error_tail (suc k))

    pub first_letter : run subs 1 (at_error (sys_error_body print int halt)) ≡ Some (at_error (asks_letter 0 69))
    first_letter = refl

    pub second_letter : run subs 2 (at_error (has_letter 0)) ≡ Some (at_error (asks_letter 1 82))
    second_letter = refl

    pub third_letter : run subs 2 (at_error (has_letter 1)) ≡ Some (at_error (asks_letter 2 82))
    third_letter = refl

    abbrev pub asks_number : Text
    asks_number = Next (Do 4 (Calling int (More (Value n) NoMore))) (error_tail 4)

    pub number_begins : run subs 2 (at_error (has_letter 2)) ≡ Some (at_error asks_number)
    number_begins = refl

    abbrev pub asks_halt : Text
    asks_halt = Next (Do 5 (Calling halt NoMore)) (error_tail 5)

    pub number_done : run subs 1 (at_error (Next (Do 4 (Value 0)) (error_tail 4))) ≡ Some (at_error asks_halt)
    number_done = refl

  -- ---- the endless loop

  abbrev pub in_loop : Call
  in_loop = in_call g 0 ss ws halt_body [] []

  loop_turn : run subs 2 in_loop ≡ Some in_loop
  loop_turn = refl

  -- after the first step of a turn
  abbrev halfway : Call
  halfway = in_call g 0 ss ws (Next (If 1 false (Value 65535) halt_loop End) (tail halt_body)) [] []

  pub loops : (n : ℕ) → (d : Call) × (run subs n in_loop ≡ Some d) × (d.statics ≡ ss) × (d.words ≡ ws)
  loops zero = (in_loop, refl, refl, refl)
  loops (suc zero) = (halfway, refl, refl, refl)
  loops (suc (suc n)) = let (d, ran, a, b) = loops n in (d, ap (λ k. run subs k in_loop) (let e : suc (suc n) ≡ 2 + n = omega arith in e) ∙ run_then subs 2 n in_loop in_loop d loop_turn ran, a, b)
