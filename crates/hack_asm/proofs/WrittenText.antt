-- How written assembly is cut into tokens.
use Rattle.std.proofs.Common.{◌≡◌, ℕ, suc, ◌+◌, ◌*◌, ◌-◌, ◌/◌, ◌%◌, ◌<◌, ◌≤◌, ◌^◌, Bool, true, false, cond, List, [], ◌∷◌, ◌++◌, Option, Some, Result, Ok, length, take, min, refl, ap, ◌∙◌, arith, le-leb, le-ltb, ne_eqb, length-append}
use Rattle.std.specs.Prelude.{◌&&◌, ◌||◌, ◌==◌, nat_lt, nat_le, codes, decimal as numeral}
use Rattle.std.specs.Str.{bytes_eq}
use Rattle.std.proofs.lemmas.Fmt.{decimal_by_steps}
use Rattle.scan_text.specs.declared.Place.{Place}
use Rattle.scan_text.specs.Text.{step, walk, front, is_digit, digits, decimal, capped_count}
use Rattle.grammar.specs.declared.Fault.{Fault}
use Rattle.grammar.specs.declared.Fault.TheVariants.{Range}
use Rattle.grammar.specs.Cutting.{Piece, Wrong, cut, cut_by, with_token}
use Rattle.grammar.specs.Lines.{line_end_piece}
use Rattle.grammar.proofs.LinePieces.{cut_past}
use Rattle.grammar.proofs.Spaced.{take_none}
use Rattle.hack_asm.specs.declared.token.Kind.{Kind}
use Rattle.hack_asm.specs.declared.token.Kind.TheVariants.{Sign, Number, Symbol}
use Rattle.hack_asm.specs.declared.token.Letter.{Letter}
use Rattle.hack_asm.specs.declared.token.Letter.TheVariants.{Zero, One, A, D, M}
use Rattle.hack_asm.specs.declared.token.Operator.{Operator}
use Rattle.hack_asm.specs.declared.token.Operator.TheVariants.{Plus, Minus, And, Or}
use Rattle.hack_asm.specs.Tokens.{Word, made_word, word_of, line_end_token, piece, number_piece, close, is_symbol_byte}

abbrev pub the_cut : Option Word → Place → List ℕ → Result (List Word) Fault
the_cut last at bs = cut piece close last 0 at bs

take_own : (xs rest : List ℕ) → take (length xs) (xs ++ rest) ≡ xs
take_own [] [] = refl
take_own [] (r ∷ rest) = refl
take_own (x ∷ xs) rest = ap (λ (l : List ℕ). x ∷ l) (take_own xs rest)

-- a token, and the tokens of the rest
pub token_cut : (b : ℕ) (xs rest : List ℕ) (kind : Kind) (last : Option Word) (at : Place) (ts : List Word) → piece (b ∷ (xs ++ rest)) ≡ word_of kind (length xs) (b ∷ (xs ++ rest)) → ((l : Option Word) → the_cut l (walk at (b ∷ xs)) rest ≡ Ok ts) → the_cut last at (b ∷ (xs ++ rest)) ≡ Ok (made_word kind (b ∷ xs) at ∷ ts)
token_cut b xs rest kind last at ts e h =
    let text : take (suc (length xs)) (b ∷ (xs ++ rest)) ≡ b ∷ xs = ap (λ (l : List ℕ). b ∷ l) (take_own xs rest) in
    ap (λ (p : Piece Word). cut_by p last at (λ l n. cut piece close l n (step at b) (xs ++ rest))) e
    ∙ ap (λ (t : List ℕ). with_token (made_word kind t at) (cut piece close (Some (made_word kind t at)) (length xs) (step at b) (xs ++ rest))) text
    ∙ ap (with_token (made_word kind (b ∷ xs) at)) (cut_past piece close xs rest (Some (made_word kind (b ∷ xs) at)) (step at b) ∙ h (Some (made_word kind (b ∷ xs) at)))

-- Line ends

pub line_end_cut : (last : Option Word) (at : Place) (bs : List ℕ) (ts : List Word) → the_cut (Some (line_end_token at)) (step at 10) bs ≡ Ok ts → the_cut last at (10 ∷ bs) ≡ Ok (line_end_token at ∷ ts)
line_end_cut last at bs ts e = ap (with_token (line_end_token at)) e

-- Letters and operators

-- no symbol and no number goes on with these bytes
pub record Apart (bs : List ℕ) : Type 0 where
  pub symbol : front is_symbol_byte bs ≡ []
  pub number : digits bs ≡ []

abbrev pub letter_byte : Letter → ℕ
letter_byte Zero = 48
letter_byte One = 49
letter_byte A = 65
letter_byte D = 68
letter_byte M = 77

abbrev pub letter_kind : Letter → Kind
letter_kind Zero = Number 0
letter_kind One = Number 1
letter_kind A = Symbol
letter_kind D = Symbol
letter_kind M = Symbol

abbrev pub letter_token : Letter → Place → Word
letter_token x at = made_word (letter_kind x) (letter_byte x ∷ []) at

-- the piece of a number by its digits
abbrev piece_of : List ℕ → List ℕ → Piece Word
piece_of ds bs = cond (nat_lt 32767 (capped_count (decimal 0 ds))) (Wrong (λ at. Range at (min (capped_count (decimal 0 ds)) 1000000000))) (word_of (Number (capped_count (decimal 0 ds))) (length ds - 1) bs)

letter_piece : (x : Letter) (bs : List ℕ) → Apart bs → piece (letter_byte x ∷ bs) ≡ word_of (letter_kind x) 0 (letter_byte x ∷ bs)
letter_piece Zero bs h = ap (λ (l : List ℕ). piece_of (48 ∷ l) (48 ∷ bs)) h.number
letter_piece One bs h = ap (λ (l : List ℕ). piece_of (49 ∷ l) (49 ∷ bs)) h.number
letter_piece A bs h = ap (λ (l : List ℕ). word_of Symbol (length (65 ∷ l) - 1) (65 ∷ bs)) h.symbol
letter_piece D bs h = ap (λ (l : List ℕ). word_of Symbol (length (68 ∷ l) - 1) (68 ∷ bs)) h.symbol
letter_piece M bs h = ap (λ (l : List ℕ). word_of Symbol (length (77 ∷ l) - 1) (77 ∷ bs)) h.symbol

pub letter_cut : (x : Letter) (bs : List ℕ) (last : Option Word) (at : Place) (ts : List Word) → Apart bs → ((l : Option Word) → the_cut l (walk at (letter_byte x ∷ [])) bs ≡ Ok ts) → the_cut last at (letter_byte x ∷ bs) ≡ Ok (letter_token x at ∷ ts)
letter_cut x bs last at ts a e = token_cut (letter_byte x) [] bs (letter_kind x) last at ts (letter_piece x bs a) e

abbrev pub sign_token : ℕ → Place → Word
sign_token b at = made_word (Sign b) (b ∷ []) at

abbrev pub operator_byte : Operator → ℕ
operator_byte Plus = 43
operator_byte Minus = 45
operator_byte And = 38
operator_byte Or = 124

operator_piece : (op : Operator) (bs : List ℕ) → piece (operator_byte op ∷ bs) ≡ word_of (Sign (operator_byte op)) 0 (operator_byte op ∷ bs)
operator_piece Plus bs = refl
operator_piece Minus bs = refl
operator_piece And bs = refl
operator_piece Or bs = refl

pub operator_cut : (op : Operator) (bs : List ℕ) (last : Option Word) (at : Place) (ts : List Word) → ((l : Option Word) → the_cut l (walk at (operator_byte op ∷ [])) bs ≡ Ok ts) → the_cut last at (operator_byte op ∷ bs) ≡ Ok (sign_token (operator_byte op) at ∷ ts)
operator_cut op bs last at ts e = token_cut (operator_byte op) [] bs (Sign (operator_byte op)) last at ts (operator_piece op bs) e

pub operator_apart : (op : Operator) (bs : List ℕ) → Apart (operator_byte op ∷ bs)
operator_apart Plus bs = record { symbol = refl; number = refl }
operator_apart Minus bs = record { symbol = refl; number = refl }
operator_apart And bs = record { symbol = refl; number = refl }
operator_apart Or bs = record { symbol = refl; number = refl }

-- Shifts

abbrev pub shift_byte : Bool → ℕ
shift_byte left = cond left 60 62

abbrev pub shift_token : Bool → Place → Word
shift_token left at = made_word (Sign (shift_byte left)) (shift_byte left ∷ shift_byte left ∷ []) at

-- the piece that begins with two bytes, by the rest of a front of them
abbrev left_piece_of : List ℕ → List ℕ → Piece Word
left_piece_of l all = cond (bytes_eq (60 ∷ 60 ∷ l) (codes "<<")) (word_of (Sign 60) 1 all) (cond (bytes_eq (60 ∷ 60 ∷ l) (codes ">>")) (word_of (Sign 62) 1 all) (line_end_piece line_end_token all))

abbrev right_piece_of : List ℕ → List ℕ → Piece Word
right_piece_of l all = cond (bytes_eq (62 ∷ 62 ∷ l) (codes "<<")) (word_of (Sign 60) 1 all) (cond (bytes_eq (62 ∷ 62 ∷ l) (codes ">>")) (word_of (Sign 62) 1 all) (line_end_piece line_end_token all))

shift_piece_is : (left : Bool) (bs : List ℕ) → piece (shift_byte left ∷ shift_byte left ∷ bs) ≡ word_of (Sign (shift_byte left)) 1 (shift_byte left ∷ shift_byte left ∷ bs)
shift_piece_is true bs = ap (λ (l : List ℕ). left_piece_of l (60 ∷ 60 ∷ bs)) (take_none bs)
shift_piece_is false bs = ap (λ (l : List ℕ). right_piece_of l (62 ∷ 62 ∷ bs)) (take_none bs)

pub shift_cut : (left : Bool) (bs : List ℕ) (last : Option Word) (at : Place) (ts : List Word) → ((l : Option Word) → the_cut l (walk at (shift_byte left ∷ shift_byte left ∷ [])) bs ≡ Ok ts) → the_cut last at (shift_byte left ∷ shift_byte left ∷ bs) ≡ Ok (shift_token left at ∷ ts)
shift_cut left bs last at ts e = token_cut (shift_byte left) (shift_byte left ∷ []) bs (Sign (shift_byte left)) last at ts (shift_piece_is left bs) e

pub shift_apart : (left : Bool) (bs : List ℕ) → Apart (shift_byte left ∷ bs)
shift_apart true bs = record { symbol = refl; number = refl }
shift_apart false bs = record { symbol = refl; number = refl }

-- Numbers

abbrev AreDigits : List ℕ → Type 0
AreDigits [] = Unit {0}
AreDigits (d ∷ ds) = (48 ≤ d) × (d ≤ 57) × AreDigits ds

-- some digits spell a number
record Numeral (n : ℕ) (ds : List ℕ) : Type 0 where
  are : AreDigits ds
  value : decimal 0 ds ≡ n
  some : 1 ≤ length ds

more_digits : (ds : List ℕ) (d : ℕ) → AreDigits ds → 48 ≤ d → d ≤ 57 → AreDigits (ds ++ d ∷ [])
more_digits [] d h low high = (low, high, tt)
more_digits (c ∷ ds) d h low high = (h.0, h.1, more_digits ds d h.2 low high)

more_value : (ds : List ℕ) (d m : ℕ) → decimal m (ds ++ d ∷ []) ≡ decimal m ds * 10 + (d - 48)
more_value [] d m = refl
more_value (c ∷ ds) d m = more_value ds d (m * 10 + (c - 48))

one_digit : (n : ℕ) → n < 10 → Numeral n ((48 + n) ∷ [])
one_digit n h = record { are = (omega arith, omega arith, tt); value = omega arith; some = omega arith }

one_more : (n : ℕ) (ds : List ℕ) → 10 ≤ n → Numeral (n / 10) ds → Numeral n (ds ++ ((48 + n % 10) ∷ []))
one_more n ds h r =
    let last = more_value ds (48 + n % 10) 0 in
    let before = r.value in
    record { are = more_digits ds (48 + n % 10) r.are (omega arith) (omega arith); value = omega (arith, last, before); some = omega (arith, length-append ds ((48 + n % 10) ∷ [])) }

spelled : (n : ℕ) → n < 2 ^ 64 → Numeral n (numeral n)
spelled n h = decimal_by_steps Numeral one_digit one_more n h

digit_test : (d : ℕ) → 48 ≤ d → d ≤ 57 → is_digit d ≡ true
digit_test d low high = ap (λ (x : Bool). x && nat_le d 57) (le-leb 48 d low) ∙ le-leb d 57 high

digits_own : (ds bs : List ℕ) → AreDigits ds → digits (ds ++ 10 ∷ bs) ≡ ds
digits_own [] bs h = refl
digits_own (d ∷ ds) bs h = ap (λ (b : Bool). cond b (d ∷ digits (ds ++ 10 ∷ bs)) []) (digit_test d h.0 h.1) ∙ ap (λ (l : List ℕ). d ∷ l) (digits_own ds bs h.2)

not_blank : (d : ℕ) → 48 ≤ d → (d == 32 || d == 9) ≡ false
not_blank d low = ap (λ (x : Bool). x || d == 9) (ne_eqb d 32 (λ e. absurd (omega (arith, e, low)))) ∙ ne_eqb d 9 (λ e. absurd (omega (arith, e, low)))

number_begins : (d : ℕ) (bs : List ℕ) → 48 ≤ d → d ≤ 57 → piece (d ∷ bs) ≡ number_piece (d ∷ bs)
number_begins d bs low high = rw (not_blank d low, digit_test d low high) refl

number_by : (n : ℕ) (ds : List ℕ) (last : Option Word) (at : Place) (bs : List ℕ) (ts : List Word) → n ≤ 32767 → Numeral n ds → ((l : Option Word) → the_cut l (walk at ds) (10 ∷ bs) ≡ Ok ts) → the_cut last at (ds ++ 10 ∷ bs) ≡ Ok (made_word (Number n) ds at ∷ ts)
number_by n [] last at bs ts small r e = absurd (omega (arith, r.some))
number_by n (d ∷ ds) last at bs ts small r e =
    let text : List ℕ = d ∷ (ds ++ 10 ∷ bs) in
    let value : capped_count (decimal 0 (d ∷ ds)) ≡ n = omega (arith, r.value) in
    let size : length (d ∷ ds) - 1 ≡ length ds = omega arith in
    token_cut d ds (10 ∷ bs) (Number n) last at ts
    (number_begins d (ds ++ 10 ∷ bs) r.are.0 r.are.1
    ∙ ap (λ (l : List ℕ). piece_of l text) (digits_own (d ∷ ds) bs r.are)
    ∙ ap (λ (k : ℕ). cond (nat_lt 32767 k) (Wrong (λ a. Range a (min k 1000000000))) (word_of (Number k) (length (d ∷ ds) - 1) text)) value
    ∙ ap (λ (b : Bool). cond b (Wrong (λ a. Range a (min n 1000000000))) (word_of (Number n) (length (d ∷ ds) - 1) text)) (le-ltb 32767 n small)
    ∙ ap (λ (k : ℕ). word_of (Number n) k text) size)
    e

-- the number of an address
pub number_cut : (n : ℕ) (last : Option Word) (at : Place) (bs : List ℕ) (ts : List Word) → n < 32768 → ((l : Option Word) → the_cut l (walk at (numeral n)) (10 ∷ bs) ≡ Ok ts) → the_cut last at (numeral n ++ 10 ∷ bs) ≡ Ok (made_word (Number n) (numeral n) at ∷ ts)
number_cut n last at bs ts small e = number_by n (numeral n) last at bs ts (omega arith) (spelled n (omega arith)) e
