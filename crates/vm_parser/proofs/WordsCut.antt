-- The words of a printed line are cut as they are written.
use Rattle.std.proofs.Common.{◌≡◌, ℕ, zero, suc, ◌+◌, ◌-◌, ◌<◌, ◌≤◌, ◌^◌, Bool, true, false, cond, List, [], ◌∷◌, ◌++◌, length, take, refl, ap, subst, ◌∙◌, arith, eqb-true, leb-true}
use Rattle.std.specs.Prelude.{◌||◌, ◌&&◌, ◌==◌, nat_le, nat_lt, min, codes}
use Rattle.std.specs.Fmt as fmt
use Rattle.std.specs.Str.{bytes_eq, all_ascii_digits}
use Rattle.std.proofs.lemmas.Bool.{le-ltb, and_parts}
use Rattle.std.proofs.lemmas.Fmt.{digits_decimal, digits_value-decimal, decimal_is_IsNumeral}
use Rattle.std.proofs.lemmas.Str.Parse.{IsNumeralModel, numerals_by_fold, tells_all_ascii_digits}
use Rattle.scan_text.specs.declared.Place.{Place}
use Rattle.scan_text.specs.Text.{front, is_digit, digits, decimal, capped_count}
use Rattle.grammar.specs.declared.Fault.TheVariants.{Range}
use Rattle.grammar.specs.Cutting.{Passed, Token, Wrong}
use Rattle.grammar.specs.Lines.{comment_piece, line_end_piece}
use Rattle.vm_parser.specs.declared.token.Kind.TheVariants as kind
use Rattle.vm_parser.specs.declared.token.Role.TheVariants as role
use Rattle.vm_parser.specs.Tokens.{Word, made_word, named_word, line_end_token, piece, begins_name, is_name_byte, begins_if_goto, number_piece, word_piece, name_piece, if_goto_piece}
use Rattle.vm_parser.specs.Printed.{all, is_text_of_name}

-- the bytes after a word: a space or a line feed
abbrev pub stops : ℕ → Bool
stops b = b == 32 || b == 10

-- a test that fails at the byte after the word
front_all : (test : ℕ → Bool) (w : List ℕ) (b : ℕ) (more : List ℕ) → all test w ≡ true → test b ≡ false → front test (w ++ b ∷ more) ≡ w
front_all test [] b more h n = ap (λ t. cond t (b ∷ front test more) []) n
front_all test (c ∷ w) b more h n =
    ap (λ t. cond t (c ∷ front test (w ++ b ∷ more)) []) (and_parts _ _ h).0 ∙ ap (λ l. c ∷ l) (front_all test w b more (and_parts _ _ h).1 n)

-- a test that holds of one byte and not of another tells them apart
apart_by : (test : ℕ → Bool) (k c : ℕ) (t : Bool) → (c == k) ≡ t → test c ≡ true → test k ≡ false → (c == k) ≡ false
apart_by test k c true e h n = let same : c ≡ k = eqb-true c k e in absurd (cc (ap test same, h, n))
apart_by test k c false e h n = e

apart : (test : ℕ → Bool) (k c : ℕ) → test c ≡ true → test k ≡ false → (c == k) ≡ false
apart test k c h n = apart_by test k c (c == k) refl h n

neither_of : (a b : Bool) → a ≡ false → b ≡ false → (a || b) ≡ false
neither_of a b e f = rw (e, f) refl

stop_as : (test : ℕ → Bool) (b : ℕ) (t : Bool) → (b == 32) ≡ t → (t || b == 10) ≡ true → test 32 ≡ false → test 10 ≡ false → test b ≡ false
stop_as test b true e s x y = ap test (eqb-true b 32 e) ∙ x
stop_as test b false e s x y = ap test (eqb-true b 10 s) ∙ y

stop_by : (test : ℕ → Bool) (b : ℕ) → stops b ≡ true → test 32 ≡ false → test 10 ≡ false → test b ≡ false
stop_by test b s x y = stop_as test b (b == 32) refl s x y

no_name : (k : ℕ) → k < 10 → begins_name (48 + k) ≡ false
no_name zero h = refl
no_name (suc zero) h = refl
no_name (suc (suc zero)) h = refl
no_name (suc (suc (suc zero))) h = refl
no_name (suc (suc (suc (suc zero)))) h = refl
no_name (suc (suc (suc (suc (suc zero))))) h = refl
no_name (suc (suc (suc (suc (suc (suc zero)))))) h = refl
no_name (suc (suc (suc (suc (suc (suc (suc zero))))))) h = refl
no_name (suc (suc (suc (suc (suc (suc (suc (suc zero)))))))) h = refl
no_name (suc (suc (suc (suc (suc (suc (suc (suc (suc zero))))))))) h = refl
no_name (suc (suc (suc (suc (suc (suc (suc (suc (suc (suc k)))))))))) h = absurd (omega arith)

no_digit_by : (c : ℕ) (t : Bool) → is_digit c ≡ t → begins_name c ≡ true → is_digit c ≡ false
no_digit_by c true e h =
    let both = and_parts (nat_le 48 c) (nat_le c 57) e in
    let low = leb-true 48 c both.0 in
    let high = leb-true c 57 both.1 in
    let k : c ≡ 48 + (c - 48) = omega (arith, low) in
    let no : begins_name c ≡ false = ap begins_name k ∙ no_name (c - 48) (omega (arith, low, high)) in
    absurd (cc (h, no))
no_digit_by c false e h = e

name_is_no_digit : (c : ℕ) → begins_name c ≡ true → is_digit c ≡ false
name_is_no_digit c h = no_digit_by c (is_digit c) refl h

-- no name is the front of `if-goto` here
bytes_equal : (xs ys : List ℕ) → bytes_eq xs ys ≡ true → xs ≡ ys
bytes_equal [] [] e = refl
bytes_equal [] (y ∷ ys) e = absurd cc
bytes_equal (x ∷ xs) [] e = absurd cc
bytes_equal (x ∷ xs) (y ∷ ys) e = let a = eqb-true x y (and_parts _ _ e).0 in let b = bytes_equal xs ys (and_parts _ _ e).1 in λ i. a i ∷ b i

no_dash : (c : ℕ) (cs : List ℕ) (b : ℕ) (more : List ℕ) → all is_name_byte cs ≡ true → stops b ≡ true → take 7 ((c ∷ cs) ++ b ∷ more) ≡ codes "if-goto" → ⊥
no_dash c [] b more h s e =
    let same : b ≡ 102 = cc in
    let no : stops 102 ≡ true = subst (λ k. stops k ≡ true) same s in absurd cc
no_dash c (d ∷ []) b more h s e =
    let same : b ≡ 45 = cc in
    let no : stops 45 ≡ true = subst (λ k. stops k ≡ true) same s in absurd cc
no_dash c (d ∷ x ∷ cs) b more h s e =
    let same : x ≡ 45 = cc in
    let behind = (and_parts (is_name_byte d) (all is_name_byte (x ∷ cs)) h).1 in
    let no : is_name_byte 45 ≡ true = subst (λ k. is_name_byte k ≡ true) same (and_parts (is_name_byte x) (all is_name_byte cs) behind).0 in absurd cc

no_if_goto_by : (c : ℕ) (cs : List ℕ) (b : ℕ) (more : List ℕ) (t : Bool) → begins_if_goto ((c ∷ cs) ++ b ∷ more) ≡ t → all is_name_byte cs ≡ true → stops b ≡ true → begins_if_goto ((c ∷ cs) ++ b ∷ more) ≡ false
no_if_goto_by c cs b more true e h s = absurd (no_dash c cs b more h s (bytes_equal (take 7 ((c ∷ cs) ++ b ∷ more)) (codes "if-goto") e))
no_if_goto_by c cs b more false e h s = e

no_if_goto : (c : ℕ) (cs : List ℕ) (b : ℕ) (more : List ℕ) → all is_name_byte cs ≡ true → stops b ≡ true → begins_if_goto ((c ∷ cs) ++ b ∷ more) ≡ false
no_if_goto c cs b more h s = no_if_goto_by c cs b more (begins_if_goto ((c ∷ cs) ++ b ∷ more)) refl h s

-- a piece that is known by the tests of its first byte
name_cuts : (c : ℕ) (cs : List ℕ) (b : ℕ) (more : List ℕ) → begins_name c ≡ true → all is_name_byte cs ≡ true → stops b ≡ true → piece ((c ∷ cs) ++ b ∷ more) ≡ Token (named_word (c ∷ cs)) (length (c ∷ cs) - 1)
name_cuts c cs b more h a s =
    let bs : List ℕ = (c ∷ cs) ++ b ∷ more in
    let blank : (c == 32 || c == 9) ≡ false = neither_of _ _ (apart begins_name 32 c h refl) (apart begins_name 9 c h refl) in
    let whole : all is_name_byte (c ∷ cs) ≡ true = rw (h, a) refl in
    let run : front is_name_byte bs ≡ c ∷ cs = front_all is_name_byte (c ∷ cs) b more whole (stop_by is_name_byte b s refl refl) in
    ap (λ t. cond t (Passed 0) (cond (is_digit c) (number_piece bs) (cond (begins_name c) (word_piece bs) (cond (c == 47) (comment_piece bs) (line_end_piece line_end_token bs))))) blank
    ∙ ap (λ t. cond t (number_piece bs) (cond (begins_name c) (word_piece bs) (cond (c == 47) (comment_piece bs) (line_end_piece line_end_token bs)))) (name_is_no_digit c h)
    ∙ ap (λ t. cond t (word_piece bs) (cond (c == 47) (comment_piece bs) (line_end_piece line_end_token bs))) h
    ∙ ap (λ t. cond t if_goto_piece (name_piece bs)) (no_if_goto c cs b more a s)
    ∙ ap (λ l. Token (named_word l) (length l - 1)) run

number_cuts : (c : ℕ) (cs : List ℕ) (b n : ℕ) (more : List ℕ) → is_digit c ≡ true → all is_digit cs ≡ true → stops b ≡ true → decimal 0 (c ∷ cs) ≡ n → n ≤ 32767 → piece ((c ∷ cs) ++ b ∷ more) ≡ Token (made_word (kind.Number n)) (length (c ∷ cs) - 1)
number_cuts c cs b n more h a s v small =
    let bs : List ℕ = (c ∷ cs) ++ b ∷ more in
    let blank : (c == 32 || c == 9) ≡ false = neither_of _ _ (apart is_digit 32 c h refl) (apart is_digit 9 c h refl) in
    let whole : all is_digit (c ∷ cs) ≡ true = rw (h, a) refl in
    let run : digits bs ≡ c ∷ cs = front_all is_digit (c ∷ cs) b more whole (stop_by is_digit b s refl refl) in
    let value : capped_count (decimal 0 (digits bs)) ≡ n = ap (λ l. capped_count (decimal 0 l)) run ∙ ap capped_count v ∙ omega (arith, small) in
    let fits : nat_lt 32767 (capped_count (decimal 0 (digits bs))) ≡ false = le-ltb _ _ (omega (arith, value, small)) in
    ap (λ t. cond t (Passed 0) (cond (is_digit c) (number_piece bs) (cond (begins_name c) (word_piece bs) (cond (c == 47) (comment_piece bs) (line_end_piece line_end_token bs))))) blank
    ∙ ap (λ t. cond t (number_piece bs) (cond (begins_name c) (word_piece bs) (cond (c == 47) (comment_piece bs) (line_end_piece line_end_token bs)))) h
    ∙ ap (λ t. cond t (Wrong (λ at. Range at (min (capped_count (decimal 0 (digits bs))) 1000000000))) (Token (made_word (kind.Number (capped_count (decimal 0 (digits bs))))) (length (digits bs) - 1))) fits
    ∙ (λ i. Token (made_word (kind.Number (value i))) (length (run i) - 1))

-- A word of a line: its bytes, and the token that they are.
pub record Item : Type 0 where
  pub text : List ℕ
  pub token : Place → Word

pub record IsItem (i : Item) : Type 0 where
  pub some : 1 ≤ length i.text
  pub cuts : (b : ℕ) (more : List ℕ) → stops b ≡ true → piece (i.text ++ b ∷ more) ≡ Token i.token (length i.text - 1)

abbrev pub word_item : List ℕ → Item
word_item w = record { text = w; token = named_word w }

abbrev pub if_goto_item : Item
if_goto_item = record { text = codes "if-goto"; token = λ at. record { kind = kind.IfGoto; role = role.IfGoto; text = codes "if-goto"; place = at } }

abbrev pub number_item : ℕ → Item
number_item n = record { text = fmt.decimal n; token = made_word (kind.Number n) }

pub word_is : (w : List ℕ) → is_text_of_name w ≡ true → IsItem (word_item w)
word_is [] h = absurd cc
word_is (c ∷ cs) h = record { some = omega arith; cuts = λ b more s. name_cuts c cs b more (and_parts _ _ h).0 (and_parts _ _ h).1 s }

pub if_goto_is : IsItem if_goto_item
if_goto_is = record { some = omega arith; cuts = λ b more s. refl }

model : IsNumeralModel (λ ds. all_ascii_digits ds ≡ true) (decimal 0)
model = numerals_by_fold (λ ds. all_ascii_digits ds ≡ true) tells_all_ascii_digits decimal (record { empty = λ n. refl; more = λ n c cs k. refl })

all_digits : (ds : List ℕ) → all_ascii_digits ds ≡ true → all is_digit ds ≡ true
all_digits [] h = refl
all_digits (c ∷ ds) h =
    let a : is_digit c ≡ true = (and_parts (is_digit c) (all_ascii_digits ds) h).0 in
    let b : all is_digit ds ≡ true = all_digits ds (and_parts (is_digit c) (all_ascii_digits ds) h).1 in
    (λ i. a i && all is_digit ds) ∙ b

number_by : (ds : List ℕ) (n : ℕ) → 0 < length ds → all_ascii_digits ds ≡ true → decimal 0 ds ≡ n → n ≤ 32767 → IsItem (record { text = ds; token = made_word (kind.Number n) })
number_by [] n some h v small = absurd (omega arith)
number_by (c ∷ cs) n some h v small = record { some = omega arith; cuts = λ b more s. number_cuts c cs b n more (and_parts _ _ h).0 (all_digits cs (and_parts _ _ h).1) s v small }

pub number_is : (n : ℕ) → n ≤ 32767 → IsItem (number_item n)
number_is n small =
    let fits : n < 2 ^ 64 = omega (arith, small) in
    number_by (fmt.decimal n) n ((decimal_is_IsNumeral n fits).0.0) (digits_decimal model n fits) (digits_value-decimal model n fits) small
