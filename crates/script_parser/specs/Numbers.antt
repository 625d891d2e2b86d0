-- The numbers and the formats that words of a test script spell (book, appendix 3).
use Rattle.std.specs.Prelude.{ℕ, ◌+◌, ◌-◌, ◌*◌, ◌%◌, Bool, true, false, List, [], ◌∷◌, Option, Some, None, ◌==◌, ◌||◌, ◌&&◌, if◌then◌else◌, length, drop, nat_le}
use Rattle.std.specs.Str.{bytes_eq}
use Rattle.scan_text.specs.Text.{front, rest_behind, is_digit, number_of}
use Rattle.script_columns.specs.declared.layout.Format.{Format}
use Rattle.script_columns.specs.declared.layout.Format.TheVariants as format
use Rattle.script_parser.specs.declared.figures.Figure.{Figure}
use Rattle.script_parser.specs.declared.figures.Number.{Number}
use Rattle.script_parser.specs.declared.figures.Number.TheVariants as number
use Rattle.script_parser.specs.declared.figures.WrittenLayout.{WrittenLayout}

-- what follows from a value, if there is one
abbrev pub if_given : {A B : Type 0} → Option A → (A → Option B) → Option B
if_given None f = None
if_given (Some a) f = f a

-- the value, where nothing is left of the word
abbrev pub at_end : {A : Type 0} → A → List ℕ → Option A
at_end a [] = Some a
at_end a (b ∷ bs) = None

-- what is after this byte, if it comes next
abbrev pub behind_byte : ℕ → List ℕ → Option (List ℕ)
behind_byte c [] = None
behind_byte c (b ∷ bs) = if b == c then Some bs else None

abbrev pub figure_with : ℕ → Option ℕ → Option Figure
figure_with n None = None
figure_with n (Some value) = Some (record { value = value; from_end = n })

-- The decimal number at the front, if digits stand there, and how many bytes there are from its first digit to the end of the word.
-- A number over 1,000,000,000 is given as 1,000,000,001.
abbrev pub figure : List ℕ → Option Figure
figure bs = figure_with (length bs) (number_of bs)

-- digits, and nothing else
abbrev pub whole_figure : List ℕ → Option Figure
whole_figure bs = if_given (figure bs) (λ f. at_end f (rest_behind is_digit bs))

abbrev pub as_number : (Figure → Number) → Option Figure → Option Number
as_number made None = None
as_number made (Some f) = Some (made f)

abbrev pub negative : Option (List ℕ) → List ℕ → Option Number
negative None bs = as_number number.Plain (whole_figure bs)
negative (Some digits) bs = as_number number.Negative (whole_figure digits)

-- digits, which may have a `-` before them
abbrev pub decimal_number : List ℕ → Option Number
decimal_number bs = negative (behind_byte 45 bs) bs

abbrev pub is_binary : ℕ → Bool
is_binary b = b == 48 || b == 49

-- the sixteen low bits of the number that binary digits spell, from a number that stands before them
abbrev pub bits : ℕ → List ℕ → ℕ
bits n [] = n
bits n (b ∷ bs) = bits ((n * 2 + (b - 48)) % 65536) bs

abbrev pub is_empty : List ℕ → Bool
is_empty [] = true
is_empty (b ∷ bs) = false

-- 1 to 16 binary digits
abbrev pub binary_number : List ℕ → Option Number
binary_number bs =
    if nat_le 1 (length bs) && (nat_le (length bs) 16 && is_empty (rest_behind is_binary bs)) then Some (number.Bits (bits 0 bs)) else None

abbrev pub binary : Option (List ℕ) → Option Number
binary None = None
binary (Some digits) = binary_number digits

-- after a `%`: D and a decimal, or B and binary digits
abbrev pub based_number : Option (List ℕ) → List ℕ → Option Number
based_number None bs = binary (behind_byte 66 bs)
based_number (Some digits) bs = decimal_number digits

abbrev pub number_by : Option (List ℕ) → List ℕ → Option Number
number_by None bs = decimal_number bs
number_by (Some rest) bs = based_number (behind_byte 68 rest) rest

-- the number that a word spells
abbrev pub number_of_word : List ℕ → Option Number
number_of_word text = number_by (behind_byte 37 text) text

-- the word that a number is
abbrev pub value_of : Number → ℕ
value_of (number.Plain f) = f.value
value_of (number.Negative f) = (65536 - f.value) % 65536
value_of (number.Bits w) = w

-- l.n.r
abbrev pub layout : Format → List ℕ → Option WrittenLayout
layout f bs =
    if_given (figure bs) (λ left. if_given (behind_byte 46 (rest_behind is_digit bs)) (λ cs.
    if_given (figure cs) (λ shown. if_given (behind_byte 46 (rest_behind is_digit cs)) (λ ds.
    if_given (figure ds) (λ right. at_end (record { format = f; left = left; shown = shown; right = right }) (rest_behind is_digit ds))))))

-- B, D, S
abbrev pub format_of : ℕ → Option Format
format_of b = if b == 66 then Some format.Binary else (if b == 68 then Some format.Decimal else (if b == 83 then Some format.Text else None))

abbrev pub formatted_layout : List ℕ → Option WrittenLayout
formatted_layout [] = None
formatted_layout (b ∷ bs) = if_given (format_of b) (λ f. layout f bs)

abbrev pub one : Figure
one = record { value = 1; from_end = 0 }

-- a variable alone is shown as by %B1.1.1
abbrev pub plain_layout : WrittenLayout
plain_layout = record { format = format.Binary; left = one; shown = one; right = one }

abbrev pub no_percent : ℕ → Bool
no_percent b = if b == 37 then false else true

-- the variable of an item: what stands before the first `%`
abbrev pub variable_of : List ℕ → List ℕ
variable_of text = front no_percent text

-- the first byte, which is the `%`, is passed over
abbrev pub layout_behind : List ℕ → Option WrittenLayout
layout_behind [] = Some plain_layout
layout_behind (b ∷ bs) = formatted_layout bs

-- how an item is laid out; None, where the word is no item
abbrev pub layout_of_word : List ℕ → Option WrittenLayout
layout_of_word text = if is_empty (variable_of text) then None else layout_behind (rest_behind no_percent text)

-- the word ends so
abbrev pub ends_in : List ℕ → List ℕ → Bool
ends_in ending text = bytes_eq (drop (length text - length ending) text) ending
