-- From what each piece is, and how far each token reaches, to the longest match; and what is so of runs of bytes.
use Rattle.std.proofs.Common.{◌≡◌, ℕ, suc, ◌+◌, ◌-◌, ◌<◌, ◌≤◌, Bool, true, false, cond, List, [], ◌∷◌, ◌++◌, length, take, drop, take-append-drop, append_assoc, length-take, length-take-le, refl, sym, ap, subst, ◌∙◌, arith, ◌⊎◌, inl, inr, eqb-true, ltb-true, lt-ltb}
use Rattle.std.specs.Prelude.{◌==◌, ◌&&◌, not, nat_lt, min}
use Rattle.std.specs.List.{All}
use Rattle.std.specs.Str.{bytes_eq}
use Rattle.std.proofs.lemmas.List.Elements.{All-nil, All-cons, All-head, All-tail}
use Rattle.std.proofs.lemmas.Bool.{and_parts}
use Rattle.std.proofs.lemmas.Bool.Decides.{nat_tests}
use Rattle.scan_text.specs.declared.Place.{Place}
use Rattle.scan_text.specs.Text.{start, front, is_digit, digits, decimal, capped_count}
use Rattle.scan_text.specs.Blanks.{starts}
use Rattle.grammar.specs.declared.Fault.{Fault}
use Rattle.grammar.specs.declared.Fault.TheVariants.{Grammar, Range}
use Rattle.grammar.specs.Cutting.{Piece, Passed, Token, Wrong}
use Rattle.grammar.specs.Longest.{IsLongestMatch, IsOver}
use Rattle.grammar.specs.Lines.{line_end_piece}
use Rattle.grammar.proofs.Runs.{run_length, run_text}
use Rattle.grammar.proofs.Spaced.{take_none, drop_none, drop_length, every, all_every, ten_digits, digit_by}

-- at least this many bytes are cut off, or a number is past its limit
abbrev pub Reaches : {T : Type 0} → ℕ → Piece T → Type 0
Reaches m (Passed n) = ⊥
Reaches m (Token t n) = m ≤ suc n
Reaches m (Wrong f) = f ≡ Grammar → ⊥

-- what is passed over, where something is
abbrev pub Passes : (List ℕ → List ℕ → Type 0) → ℕ → List ℕ → Type 0
Passes IsBetween n [] = Unit {0}
Passes IsBetween n (b ∷ bs) = (n ≤ length bs) × IsBetween (b ∷ take n bs) (drop n bs)

-- what is cut off is one token, and what is passed over may stand between tokens
abbrev pub IsCut : {T : Type 0} → (List ℕ → List ℕ → Type 0) → (List ℕ → List ℕ → Type 0) → (List ℕ → (Place → Fault) → Type 0) → List ℕ → Piece T → Type 0
IsCut IsOne IsBetween Past bs (Passed n) = Passes IsBetween n bs
IsCut IsOne IsBetween Past bs (Token t n) = (suc n ≤ length bs) × IsOne (take (suc n) bs) (drop (suc n) bs)
IsCut IsOne IsBetween Past bs (Wrong f) = (f ≡ Grammar) ⊎ Past bs f

module _ {T : Type 0} (IsOne IsBetween : List ℕ → List ℕ → Type 0) (Past : List ℕ → (Place → Fault) → Type 0) (piece : List ℕ → Piece T) (cut : (bs : List ℕ) → IsCut IsOne IsBetween Past bs (piece bs)) (reaches : (xs rest : List ℕ) → IsOne xs rest → Reaches (length xs) (piece (xs ++ rest))) (between : (b : ℕ) (bs behind : List ℕ) → IsBetween (b ∷ bs) behind → piece (b ∷ (bs ++ behind)) ≡ Passed (length bs)) (refuses : (bs : List ℕ) (f : Place → Fault) → Past bs f → piece bs ≡ Wrong f) where
  reached : (bs : List ℕ) (m : ℕ) → m ≤ length bs → IsOne (take m bs) (drop m bs) → Reaches m (piece bs)
  reached bs m within one =
      subst (λ (l : List ℕ). Reaches m (piece l)) (take-append-drop m bs)
      (subst (λ (k : ℕ). Reaches k (piece (take m bs ++ drop m bs))) (length-take-le m bs within) (reaches (take m bs) (drop m bs) one))

  pub longest_match : IsLongestMatch IsOne IsBetween Past piece
  longest_match = record {
    cuts = record {
      one = λ bs t n e. subst (IsCut IsOne IsBetween Past bs) e (cut bs);
      longest = λ bs t n m e above within one. let le : m ≤ suc n = subst (Reaches m) e (reached bs m within one) in omega (arith, le, above);
      passed = λ bs n m e within one. subst (Reaches m) e (reached bs m within one);
      none = λ bs m e within one. subst (Reaches m) e (reached bs m within one) refl;
    };
    passes = record {
      one = λ b bs n e. subst (IsCut IsOne IsBetween Past (b ∷ bs)) e (cut (b ∷ bs));
      all = between;
    };
    refuses = record {
      only = λ bs f e. subst (IsCut IsOne IsBetween Past bs) e (cut bs);
      all = refuses;
    };
  }

-- pieces that a test chooses
module _ {T : Type 0} (IsOne IsBetween : List ℕ → List ℕ → Type 0) (Past : List ℕ → (Place → Fault) → Type 0) (bs : List ℕ) where
  pub cut_if : (t : Bool) (p q : Piece T) → (t ≡ true → IsCut IsOne IsBetween Past bs p) → (t ≡ false → IsCut IsOne IsBetween Past bs q) → IsCut IsOne IsBetween Past bs (cond t p q)
  cut_if true p q x y = x refl
  cut_if false p q x y = y refl

pub reaches_if : {T : Type 0} (m : ℕ) (t : Bool) (p q : Piece T) → (t ≡ true → Reaches m p) → (t ≡ false → Reaches m q) → Reaches m (cond t p q)
reaches_if m true p q x y = x refl
reaches_if m false p q x y = y refl

-- runs

abbrev pub Run : (ℕ → Bool) → List ℕ → Type 0
Run test bs = All (λ c. test c ≡ true) bs

front_run_by : (test : ℕ → Bool) (b : ℕ) (l : List ℕ) (t : Bool) → test b ≡ t → Run test l → Run test (cond t (b ∷ l) [])
front_run_by test b l true e a = All-cons (λ c. test c ≡ true) b l e a
front_run_by test b l false e a = All-nil (λ c. test c ≡ true)

pub front_run : (test : ℕ → Bool) (bs : List ℕ) → Run test (front test bs)
front_run test [] = All-nil (λ c. test c ≡ true)
front_run test (b ∷ bs) = front_run_by test b (front test bs) (test b) refl (front_run test bs)

front_within_by : (b : ℕ) (l bs : List ℕ) (t : Bool) → length l ≤ length bs → length (cond t (b ∷ l) []) ≤ length (b ∷ bs)
front_within_by b l bs true h = omega (arith, h)
front_within_by b l bs false h = omega arith

pub front_within : (test : ℕ → Bool) (bs : List ℕ) → length (front test bs) ≤ length bs
front_within test [] = omega arith
front_within test (b ∷ bs) = front_within_by b (front test bs) bs (test b) (front_within test bs)

-- the front is at least as long as a run that stands there
pub run_reaches : (test : ℕ → Bool) (xs rest : List ℕ) → Run test xs → length xs ≤ length (front test (xs ++ rest))
run_reaches test [] rest a = omega arith
run_reaches test (x ∷ xs) rest a =
    let more = run_reaches test xs rest (All-tail (λ c. test c ≡ true) x xs a) in
    subst (λ (t : Bool). suc (length xs) ≤ length (cond t (x ∷ front test (xs ++ rest)) [])) (sym (All-head (λ c. test c ≡ true) x xs a)) (omega (arith, more))

-- and is the run where the byte after it is another
pub run_ends : (test : ℕ → Bool) (xs : List ℕ) (c : ℕ) (rest : List ℕ) → Run test xs → test c ≡ false → front test (xs ++ c ∷ rest) ≡ xs
run_ends test [] c rest a e = ap (λ (t : Bool). cond t (c ∷ front test rest) []) e
run_ends test (x ∷ xs) c rest a e =
    ap (λ (t : Bool). cond t (x ∷ front test (xs ++ c ∷ rest)) []) (All-head (λ c. test c ≡ true) x xs a)
    ∙ ap (λ (l : List ℕ). x ∷ l) (run_ends test xs c rest (All-tail (λ c. test c ≡ true) x xs a) e)

-- the front that begins with a byte that passes the test
pub front_first : (test : ℕ → Bool) (b : ℕ) (bs : List ℕ) → test b ≡ true → front test (b ∷ bs) ≡ b ∷ front test bs
front_first test b bs e = ap (λ (t : Bool). cond t (b ∷ front test bs) []) e

-- what is cut off, where it is a whole front or one byte
module _ (IsOne : List ℕ → List ℕ → Type 0) where
  pub run_is_cut : (test : ℕ → Bool) (b : ℕ) (bs : List ℕ) → test b ≡ true → ((rest : List ℕ) → IsOne (b ∷ front test bs) rest) → (suc (length (front test (b ∷ bs)) - 1) ≤ length (b ∷ bs)) × IsOne (take (suc (length (front test (b ∷ bs)) - 1)) (b ∷ bs)) (drop (suc (length (front test (b ∷ bs)) - 1)) (b ∷ bs))
  run_is_cut test b bs e one =
      let n = run_length test (b ∷ bs) b refl e in
      let rest = drop (suc (length (front test (b ∷ bs)) - 1)) (b ∷ bs) in
      (subst (λ (k : ℕ). k ≤ length (b ∷ bs)) (sym n) (front_within test (b ∷ bs)), subst (λ (l : List ℕ). IsOne l rest) (sym (run_text test (b ∷ bs) b refl e ∙ front_first test b bs e)) (one rest))

  pub byte_is_cut : (b : ℕ) (bs : List ℕ) → IsOne (b ∷ []) bs → (1 ≤ length (b ∷ bs)) × IsOne (take 1 (b ∷ bs)) (drop 1 (b ∷ bs))
  byte_is_cut b bs one = (omega arith, subst (λ (l : List ℕ). IsOne (b ∷ l) (drop 0 bs)) (sym (take_none bs)) (subst (IsOne (b ∷ [])) (sym (drop_none bs)) one))

-- how far a run reaches
pub run_reached : (test : ℕ → Bool) (b : ℕ) (bs rest : List ℕ) → Run test (b ∷ bs) → length (b ∷ bs) ≤ suc (length (front test (b ∷ (bs ++ rest))) - 1)
run_reached test b bs rest a = let long : length (b ∷ bs) ≤ length (front test (b ∷ (bs ++ rest))) = run_reaches test (b ∷ bs) rest a in omega (arith, long)

-- a run that another byte closes
closes_by : (test : ℕ → Bool) (c b : ℕ) (bs : List ℕ) (t : Bool)
    → (starts c (drop (length (front test bs)) bs) ≡ true → (suc (length (front test bs)) ≤ length bs) × (take (suc (length (front test bs))) bs ≡ front test bs ++ c ∷ []))
    → starts c (drop (length (cond t (b ∷ front test bs) [])) (b ∷ bs)) ≡ true
    → (suc (length (cond t (b ∷ front test bs) [])) ≤ length (b ∷ bs)) × (take (suc (length (cond t (b ∷ front test bs) []))) (b ∷ bs) ≡ cond t (b ∷ front test bs) [] ++ c ∷ [])
closes_by test c b bs true more e = let h = more e in (omega (arith, h.0), ap (λ (l : List ℕ). b ∷ l) h.1)
closes_by test c b bs false more e = let same = eqb-true b c e in (omega arith, λ i. same i ∷ take_none bs i)

pub closes : (test : ℕ → Bool) (c : ℕ) (bs : List ℕ) → starts c (drop (length (front test bs)) bs) ≡ true → (suc (length (front test bs)) ≤ length bs) × (take (suc (length (front test bs))) bs ≡ front test bs ++ c ∷ [])
closes test c [] e = absurd cc
closes test c (b ∷ bs) e = closes_by test c b bs (test b) (closes test c bs) e

-- a run that is closed is the front, and the byte that closes it is after it
pub closed_front : (test : ℕ → Bool) (c : ℕ) (bs rest : List ℕ) → Run test bs → test c ≡ false → front test ((bs ++ c ∷ []) ++ rest) ≡ bs
closed_front test c bs rest a e = ap (front test) (append_assoc bs (c ∷ []) rest) ∙ run_ends test bs c rest a e

pub closed_behind : (c : ℕ) (bs rest : List ℕ) → drop (length bs) ((bs ++ c ∷ []) ++ rest) ≡ c ∷ rest
closed_behind c bs rest = ap (drop (length bs)) (append_assoc bs (c ∷ []) rest) ∙ drop_length bs (c ∷ rest)

-- numbers

not_true : (t : Bool) → not t ≡ true → t ≡ false
not_true true e = absurd cc
not_true false e = refl

-- a digit passes no test that no digit passes
pub no_digit : (test : ℕ → Bool) → every (λ c. not (test c)) ten_digits ≡ true → (d : ℕ) → is_digit d ≡ true → test d ≡ false
no_digit test none d e =
    let low : 48 ≤ d = grind (arith, nat_tests, e) in
    let high : d ≤ 57 = grind (arith, nat_tests, e) in
    let same : d ≡ 48 + (d - 48) = omega arith in
    ap test same ∙ not_true (test (48 + (d - 48))) (digit_by (λ c. not (test c)) (d - 48) (all_every (λ c. not (test c)) ten_digits none) (omega (arith, high)))

abbrev pub limited : {T : Type 0} → (Place → T) → List ℕ → Piece T
limited t bs = cond (nat_lt 32767 (capped_count (decimal 0 (digits bs)))) (Wrong (λ at. Range at (min (capped_count (decimal 0 (digits bs))) 1000000000))) (Token t (length (digits bs) - 1))

past_limit : (n : ℕ) → nat_lt 32767 (capped_count n) ≡ true → 32767 < n
past_limit n e = let past = ltb-true 32767 (capped_count n) e in omega (arith, past)

-- the value that is reported
told_value : (n : ℕ) → min (capped_count n) 1000000000 ≡ min n 1000000000
told_value n = omega arith

abbrev told_range : ℕ → Place → Fault
told_range n at = Range at n

over : (bs : List ℕ) → nat_lt 32767 (capped_count (decimal 0 (digits bs))) ≡ true → IsOver 32767 bs (λ at. Range at (min (capped_count (decimal 0 (digits bs))) 1000000000))
over bs e = (past_limit (decimal 0 (digits bs)) e, ap told_range (told_value (decimal 0 (digits bs))))

pub limited_is_cut : {T : Type 0} (IsOne IsBetween : List ℕ → List ℕ → Type 0) (t : Place → T) (b : ℕ) (bs : List ℕ) → is_digit b ≡ true → ((rest : List ℕ) → IsOne (b ∷ digits bs) rest) → IsCut IsOne IsBetween (IsOver 32767) (b ∷ bs) (limited t (b ∷ bs))
limited_is_cut IsOne IsBetween t b bs d one =
    let n = capped_count (decimal 0 (digits (b ∷ bs))) in
    cut_if IsOne IsBetween (IsOver 32767) (b ∷ bs) (nat_lt 32767 n) (Wrong (λ at. Range at (min n 1000000000))) (Token t (length (digits (b ∷ bs)) - 1))
    (λ e. inr (over (b ∷ bs) e)) (λ e. run_is_cut IsOne is_digit b bs d one)

-- and it is refused
over_by : (b : ℕ) (l : List ℕ) (t : Bool) → 32767 < decimal 0 (cond t (b ∷ l) []) → t ≡ true
over_by b l true h = refl
over_by b l false h = absurd (omega (arith, h))

pub over_begins : (b : ℕ) (bs : List ℕ) (f : Place → Fault) → IsOver 32767 (b ∷ bs) f → is_digit b ≡ true
over_begins b bs f h = over_by b (digits bs) (is_digit b) h.0

pub none_over : (f : Place → Fault) → IsOver 32767 [] f → ⊥
none_over f h = let past : 32767 < 0 = h.0 in omega (arith, past)

limit_past : (n : ℕ) → 32767 < n → nat_lt 32767 (capped_count n) ≡ true
limit_past n h = lt-ltb 32767 (capped_count n) (omega (arith, h))

abbrev refused : (T : Type 0) → (Place → Fault) → Piece T
refused T f = Wrong f

pub limited_refuses : {T : Type 0} (t : Place → T) (bs : List ℕ) (f : Place → Fault) → IsOver 32767 bs f → limited t bs ≡ Wrong f
limited_refuses {T} t bs f h =
    let n = decimal 0 (digits bs) in
    ap (λ (x : Bool). cond x (refused T (told_range (min (capped_count n) 1000000000))) (Token t (length (digits bs) - 1))) (limit_past n h.0)
    ∙ ap (refused T) (ap told_range (told_value n) ∙ sym h.1)

range_is_other : (n : ℕ) → (λ (at : Place). Range at n) ≡ Grammar → ⊥
range_is_other n e = let here : Range start n ≡ Grammar start = ap (λ (f : Place → Fault). f start) e in cc

pub limited_reaches : {T : Type 0} (t : Place → T) (d : ℕ) (ds rest : List ℕ) → Run is_digit (d ∷ ds) → Reaches (length (d ∷ ds)) (limited t (d ∷ (ds ++ rest)))
limited_reaches t d ds rest a =
    let n = capped_count (decimal 0 (digits (d ∷ (ds ++ rest)))) in
    reaches_if (length (d ∷ ds)) (nat_lt 32767 n) (Wrong (λ at. Range at (min n 1000000000))) (Token t (length (digits (d ∷ (ds ++ rest))) - 1))
    (λ e. range_is_other (min n 1000000000)) (λ e. run_reached is_digit d ds rest a)

-- a front that is this word

bytes_equal : (xs ys : List ℕ) → bytes_eq xs ys ≡ true → xs ≡ ys
bytes_equal [] [] e = refl
bytes_equal [] (y ∷ ys) e = absurd cc
bytes_equal (x ∷ xs) [] e = absurd cc
bytes_equal (x ∷ xs) (y ∷ ys) e = let a = eqb-true x y (and_parts _ _ e).0 in let b = bytes_equal xs ys (and_parts _ _ e).1 in λ i. a i ∷ b i

pub front_is : (w bs : List ℕ) → bytes_eq (take (length w) bs) w ≡ true → (length w ≤ length bs) × (take (length w) bs ≡ w)
front_is w bs e = let same = bytes_equal (take (length w) bs) w e in (omega (arith, length-take (length w) bs, ap length same), same)

-- line ends of a language that is read by lines
module _ (T : Type 0) (IsOne IsBetween : List ℕ → List ℕ → Type 0) (Past : List ℕ → (Place → Fault) → Type 0) (ended : Place → T) (feed : (rest : List ℕ) → IsOne (10 ∷ []) rest) (return_feed : (rest : List ℕ) → IsOne (13 ∷ 10 ∷ []) rest) where
  abbrev end_of : ℕ → Piece T
  end_of n = cond (nat_lt 0 n) (Token ended (n - 1)) (Wrong Grammar)

  feed_cut : (b : ℕ) (bs : List ℕ) → b ≡ 10 → (1 ≤ length (b ∷ bs)) × IsOne (take 1 (b ∷ bs)) (drop 1 (b ∷ bs))
  feed_cut b bs same = byte_is_cut IsOne b bs (subst (λ (k : ℕ). IsOne (k ∷ []) bs) (sym same) (feed bs))

  return_cut : (b : ℕ) (bs : List ℕ) → b ≡ 13 → starts 10 bs ≡ true → (2 ≤ length (b ∷ bs)) × IsOne (take 2 (b ∷ bs)) (drop 2 (b ∷ bs))
  return_cut b [] same e = absurd cc
  return_cut b (c ∷ cs) same e = let next = eqb-true c 10 e in (omega arith, subst (λ (l : List ℕ). IsOne l (drop 0 cs)) (sym (λ i. same i ∷ next i ∷ take_none cs i)) (return_feed (drop 0 cs)))

  end_cut_by : (b : ℕ) (bs : List ℕ) (x y : Bool) → (b == 10) ≡ x → (b == 13 && starts 10 bs) ≡ y → IsCut IsOne IsBetween Past (b ∷ bs) (end_of (cond x 1 (cond y 2 0)))
  end_cut_by b bs true y e f = feed_cut b bs (eqb-true b 10 e)
  end_cut_by b bs false true e f = let both = and_parts (b == 13) (starts 10 bs) f in return_cut b bs (eqb-true b 13 both.0) both.1
  end_cut_by b bs false false e f = inl refl

  pub end_is_cut : (bs : List ℕ) → IsCut IsOne IsBetween Past bs (line_end_piece ended bs)
  end_is_cut [] = inl refl
  end_is_cut (b ∷ bs) = end_cut_by b bs (b == 10) (b == 13 && starts 10 bs) refl refl
