-- The pieces of a VM text that are runs of bytes.
use Rattle.std.proofs.Common.{◌≡◌, ℕ, zero, suc, ◌-◌, ◌<◌, ◌≤◌, Bool, true, false, cond, List, [], ◌∷◌, length, Some, Ok, refl, sym, ap, subst, ◌∙◌, arith, leb-true, eqb-true}
use Rattle.std.specs.Prelude.{min, nat_lt, nat_le, ◌==◌, ◌||◌, IsUtf8, IsAscii}
use Rattle.std.specs.Int.{is_in_range}
use Rattle.std.proofs.lemmas.Str.{IsUtf8-from_ascii}
use Rattle.std.proofs.lemmas.Bool.{le-ltb, and_parts}
use Rattle.scan_text.specs.declared.Scan.{Scan}
use Rattle.scan_text.specs.Text.{first, front, rest_behind, walk, is_digit, digits, decimal, capped_count, number_of}
use Rattle.scan_text.specs.View.{left_bytes, place}
use Rattle.grammar.specs.declared.Fault.TheVariants.{Range}
use Rattle.grammar.specs.Cutting.{Piece, Token, Wrong, Next}
use Rattle.grammar.proofs.Runs.{run_token, number_stands}
use Rattle.vm_parser.specs.declared.token.Kind.TheVariants as kind
use Rattle.vm_parser.specs.Tokens.{Word, made_word, named_word, number_piece, name_piece, begins_name, is_name_byte}

pub number_taken : (old new : Scan) (b n : ℕ) (w : Word) → first (left_bytes old) ≡ Some b → is_digit b ≡ true → Some n ≡ number_of (left_bytes old) → n ≤ 32767 → left_bytes new ≡ rest_behind is_digit (left_bytes old) → place new ≡ walk (place old) (front is_digit (left_bytes old)) → w ≡ made_word (kind.Number n) (place old) → Next (number_piece (left_bytes old)) old (Ok (Some w)) new
number_taken old new b n w e d v small l p m =
    let told = number_stands (left_bytes old) b e d in
    let value : capped_count (decimal 0 (digits (left_bytes old))) ≡ n = cc (v, told) in
    let fits : nat_lt 32767 (capped_count (decimal 0 (digits (left_bytes old)))) ≡ false = le-ltb _ _ (omega (arith, value)) in
    subst (λ (q : Piece Word). Next q old (Ok (Some w)) new)
    (ap (λ (x : Bool). cond x (Wrong (λ a. Range a (min (capped_count (decimal 0 (digits (left_bytes old)))) 1000000000))) (Token (made_word (kind.Number (capped_count (decimal 0 (digits (left_bytes old)))))) (length (digits (left_bytes old)) - 1))) (sym fits))
    (run_token is_digit (made_word (kind.Number (capped_count (decimal 0 (digits (left_bytes old)))))) w old new b e d l p (m ∙ ap (λ (k : ℕ). made_word (kind.Number k) (place old)) (sym value)))

name_begins : (b : ℕ) → begins_name b ≡ true → is_name_byte b ≡ true
name_begins b e = rw e refl

pub name_taken : (old new : Scan) (b : ℕ) (w : Word) → first (left_bytes old) ≡ Some b → begins_name b ≡ true → left_bytes new ≡ rest_behind is_name_byte (left_bytes old) → place new ≡ walk (place old) (front is_name_byte (left_bytes old)) → w ≡ named_word (front is_name_byte (left_bytes old)) (place old) → Next (name_piece (left_bytes old)) old (Ok (Some w)) new
name_taken old new b w e d l p m = run_token is_name_byte (named_word (front is_name_byte (left_bytes old))) w old new b e (name_begins b d) l p m

-- the bytes of names are ASCII
range_small : (lo hi b : ℕ) → hi < 128 → is_in_range lo hi b ≡ true → b < 128
range_small lo hi b h e = let m = leb-true b hi (and_parts (nat_le lo b) (nat_le b hi) e).1 in omega (arith, m, h)

equal_small : (b k : ℕ) → k < 128 → (b == k) ≡ true → b < 128
equal_small b k h e = let m = eqb-true b k e in omega (arith, m, h)

one_of : {a c : Bool} {b : ℕ} → (a ≡ true → b < 128) → (c ≡ true → b < 128) → (a || c) ≡ true → b < 128
one_of {a = true} f g e = f refl
one_of {a = false} f g e = g e

name_small : (b : ℕ) → is_name_byte b ≡ true → b < 128
name_small b = one_of {a = begins_name b} {c = is_digit b} (begins_small b) (range_small 48 57 b (omega arith))
  where
    begins_small : (b : ℕ) → begins_name b ≡ true → b < 128
    begins_small b = one_of (one_of (one_of (one_of (one_of (range_small 65 90 b (omega arith)) (range_small 97 122 b (omega arith))) (equal_small b 95 (omega arith))) (equal_small b 46 (omega arith))) (equal_small b 36 (omega arith))) (equal_small b 58 (omega arith))

ascii_cond : (t : Bool) (b : ℕ) (l : List ℕ) → is_name_byte b ≡ t → IsAscii l → IsAscii (cond t (b ∷ l) [])
ascii_cond true b l e h zero = name_small b e
ascii_cond true b l e h (suc i) = h i
ascii_cond false b l e h i = omega arith

ascii_names : (bs : List ℕ) → IsAscii (front is_name_byte bs)
ascii_names [] i = omega arith
ascii_names (b ∷ bs) i = ascii_cond (is_name_byte b) b (front is_name_byte bs) refl (ascii_names bs) i

pub names_are_utf8 : (bs ws : List ℕ) → ws ≡ front is_name_byte bs → IsUtf8 ws
names_are_utf8 bs ws e = subst IsUtf8 (sym e) (IsUtf8-from_ascii (front is_name_byte bs) (ascii_names bs))
