-- The texts of tokens are ASCII.
use Rattle.std.proofs.Common.{◌≡◌, ℕ, zero, suc, ◌+◌, ◌-◌, ◌<◌, Bool, true, false, cond, List, [], ◌∷◌, ◌++◌, length, take, drop, Some, refl, sym, ap, ◌∙◌, subst, arith}
use Rattle.std.specs.Prelude.{slice_index}
use Rattle.std.specs.Str.{IsAscii}
use Rattle.std.proofs.Math.Seq.{take-add, take-length}
use Rattle.std.proofs.lemmas.List.{take_more, length-drop}
use Rattle.std.proofs.lemmas.Str.{IsAscii-append}
use Rattle.std.proofs.lemmas.Bool.Decides.{nat_tests}
use Rattle.scan_text.specs.Text.{first, front, is_digit}
use Rattle.scan_text.proofs.Texts.{take_front}
use Rattle.grammar.specs.Words.{is_name_byte}
use Rattle.jack_lexer.specs.Tokens.{is_text_byte}

name_small : (b : ℕ) → is_name_byte b ≡ true → b < 128
name_small b e = grind (arith, nat_tests, e)

digit_small : (b : ℕ) → is_digit b ≡ true → b < 128
digit_small b e = grind (arith, nat_tests, e)

text_byte_small : (b : ℕ) → is_text_byte b ≡ true → b < 128
text_byte_small b e = grind (arith, nat_tests, e)

module _ (test : ℕ → Bool) (small : (b : ℕ) → test b ≡ true → b < 128) where
  front_by : (t : Bool) (b : ℕ) (bs : List ℕ) → test b ≡ t → IsAscii bs → IsAscii (cond t (b ∷ bs) [])
  front_by true b bs e h zero = small b e
  front_by true b bs e h (suc i) = h i
  front_by false b bs e h i = omega arith

  front_ascii : (bs : List ℕ) → IsAscii (front test bs)
  front_ascii [] i = omega arith
  front_ascii (b ∷ bs) i = front_by (test b) b (front test bs) refl (front_ascii bs) i

pub name_ascii : (bs text : List ℕ) → text ≡ front is_name_byte bs → IsAscii text
name_ascii bs text e = subst IsAscii (sym e) (front_ascii is_name_byte name_small bs)

pub digits_ascii : (bs text : List ℕ) → text ≡ front is_digit bs → IsAscii text
digits_ascii bs text e = subst IsAscii (sym e) (front_ascii is_digit digit_small bs)

one_ascii : (b : ℕ) → b ≡ 34 → IsAscii (b ∷ [])
one_ascii b e zero = omega (arith, e)
one_ascii b e (suc i) = omega arith

first_ascii : (bs : List ℕ) → first bs ≡ Some 34 → IsAscii (take 1 bs)
first_ascii [] e = absurd cc
first_ascii (b ∷ bs) e = let same : b ≡ 34 = cc in one_ascii b same

-- a quote, bytes that may stand in a string, and a quote
pub quoted_ascii : (bs text : List ℕ) (n : ℕ) → first bs ≡ Some 34 → n ≡ length (front is_text_byte (take (length bs - 1) (drop 1 bs))) → n + 1 < length bs → slice_index bs (n + 1) ≡ 34 → text ≡ take (n + 2) bs → IsAscii text
quoted_ascii bs text n begun run lt close e =
    let all : take (length bs - 1) (drop 1 bs) ≡ drop 1 bs = ap (λ (k : ℕ). take k (drop 1 bs)) (sym (length-drop 1 bs)) ∙ take-length (drop 1 bs) in
    let counted : n ≡ length (front is_text_byte (drop 1 bs)) = run ∙ ap (λ (xs : List ℕ). length (front is_text_byte xs)) all in
    let inside : take n (drop 1 bs) ≡ front is_text_byte (drop 1 bs) = ap (λ (k : ℕ). take k (drop 1 bs)) counted ∙ take_front is_text_byte (drop 1 bs) in
    let same : n + 2 ≡ 1 + n + 1 = omega arith in
    let fits : 1 + n < length bs = omega (arith, lt) in
    let last : slice_index bs (1 + n) ≡ 34 = ap (slice_index bs) (let q : 1 + n ≡ n + 1 = omega arith in q) ∙ close in
    let whole : text ≡ (take 1 bs ++ front is_text_byte (drop 1 bs)) ++ slice_index bs (1 + n) ∷ [] =
    e ∙ ap (λ (k : ℕ). take k bs) same ∙ take_more bs (1 + n) 0 fits ∙ ap (λ (xs : List ℕ). xs ++ slice_index bs (1 + n) ∷ []) (take-add 1 n bs ∙ ap (λ (xs : List ℕ). take 1 bs ++ xs) inside) in
    subst IsAscii (sym whole) (IsAscii-append _ _ (IsAscii-append _ _ (first_ascii bs begun) (front_ascii is_text_byte text_byte_small (drop 1 bs))) (one_ascii _ last))
