-- The table of comp: the text of each computation, with its word without destination and jump. It is read both ways: an assembler
-- looks for the text, and what writes assembly for the word. (The book, chapter 4.)
use Rattle.std.specs.Prelude.{ℕ, Bool, true, false, List, [], ◌∷◌, ◌++◌, Option, Some, None, if◌then◌else◌, codes, nat_eq, unwrap_or}
use Rattle.std.specs.Option.{option_or}
use Rattle.std.specs.Str.{bytes_eq}
use Rattle.hack_asm.specs.declared.token.Letter.{Letter}
use Rattle.hack_asm.specs.declared.token.Letter.TheVariants.{Zero, One, A, D, M}
use Rattle.hack_asm.specs.declared.token.Operator.{Operator}
use Rattle.hack_asm.specs.declared.token.Operator.TheVariants.{Plus, Minus, And, Or}
use Rattle.hack_asm.specs.declared.lines.Prefix.{Prefix}
use Rattle.hack_asm.specs.declared.lines.Prefix.TheVariants as prefix
use Rattle.hack_asm.specs.declared.lines.Comp.{Comp}
use Rattle.hack_asm.specs.declared.lines.Comp.TheVariants as comp

abbrev pub Texts : Type 0
Texts = List (ℕ × List ℕ)

-- The word of each computation, without destination and jump, with its text: 111, the bit a and six bits of the ALU. The last six are shifts, which
-- are not the book's: 101, the bit a, one for the left, and one for D.
abbrev pub computations : Texts
computations =
    (0b1110101010000000, codes "0") ∷ (0b1110111111000000, codes "1") ∷ (0b1110111010000000, codes "-1")
    ∷ (0b1110001100000000, codes "D") ∷ (0b1110110000000000, codes "A") ∷ (0b1110001101000000, codes "!D")
    ∷ (0b1110110001000000, codes "!A") ∷ (0b1110001111000000, codes "-D") ∷ (0b1110110011000000, codes "-A")
    ∷ (0b1110011111000000, codes "D+1") ∷ (0b1110110111000000, codes "A+1") ∷ (0b1110001110000000, codes "D-1")
    ∷ (0b1110110010000000, codes "A-1") ∷ (0b1110000010000000, codes "D+A") ∷ (0b1110010011000000, codes "D-A")
    ∷ (0b1110000111000000, codes "A-D") ∷ (0b1110000000000000, codes "D&A") ∷ (0b1110010101000000, codes "D|A")
    ∷ (0b1111110000000000, codes "M") ∷ (0b1111110001000000, codes "!M") ∷ (0b1111110011000000, codes "-M")
    ∷ (0b1111110111000000, codes "M+1") ∷ (0b1111110010000000, codes "M-1") ∷ (0b1111000010000000, codes "D+M")
    ∷ (0b1111010011000000, codes "D-M") ∷ (0b1111000111000000, codes "M-D") ∷ (0b1111000000000000, codes "D&M")
    ∷ (0b1111010101000000, codes "D|M")
    ∷ (0b1010110000000000, codes "D<<") ∷ (0b1010010000000000, codes "D>>") ∷ (0b1010100000000000, codes "A<<")
    ∷ (0b1010000000000000, codes "A>>") ∷ (0b1011100000000000, codes "M<<") ∷ (0b1011000000000000, codes "M>>") ∷ []

-- From bits to a text

-- the text of some bits, if they stand in the table
abbrev pub entry : Texts → ℕ → Option (List ℕ)
entry [] bits = None
entry (row ∷ rows) bits = if nat_eq bits row.0 then Some row.1 else entry rows bits

abbrev pub or_nothing : Option (List ℕ) → List ℕ
or_nothing None = []
or_nothing (Some text) = text

abbrev pub text_in : Texts → ℕ → List ℕ
text_in rows bits = or_nothing (entry rows bits)

-- From a text to its word

-- the word of a text, if it stands in the table
abbrev pub word_among : Texts → List ℕ → Option ℕ
word_among [] text = None
word_among (row ∷ rows) text = if bytes_eq row.1 text then Some row.0 else word_among rows text

-- the row whose text it is
abbrev pub row_of : List ℕ → Option ℕ
row_of text = word_among computations text

-- The text of a computation that was read

abbrev pub letter_text : Letter → List ℕ
letter_text Zero = codes "0"
letter_text One = codes "1"
letter_text A = codes "A"
letter_text D = codes "D"
letter_text M = codes "M"

abbrev pub operator_text : Operator → List ℕ
operator_text Plus = codes "+"
operator_text Minus = codes "-"
operator_text And = codes "&"
operator_text Or = codes "|"

abbrev pub prefix_text : Prefix → List ℕ
prefix_text prefix.Minus = codes "-"
prefix_text prefix.Not = codes "!"

abbrev pub shift_text : Bool → List ℕ
shift_text left = if left then codes "<<" else codes ">>"

abbrev pub spelling : Comp → List ℕ
spelling (comp.Alone x) = letter_text x
spelling (comp.Pair x op y) = letter_text x ++ (operator_text op ++ letter_text y)
spelling (comp.Under p y) = prefix_text p ++ letter_text y
spelling (comp.Shifted x left) = letter_text x ++ shift_text left

-- the two sides of `+`, `&` and `|` exchanged, as they may be
abbrev pub with_operands_exchanged : Comp → Comp
with_operands_exchanged (comp.Pair x Plus y) = comp.Pair y Plus x
with_operands_exchanged (comp.Pair x And y) = comp.Pair y And x
with_operands_exchanged (comp.Pair x Or y) = comp.Pair y Or x
with_operands_exchanged c = c

-- the row whose text it is, as it is written or with its sides exchanged
abbrev pub find_row : Comp → Option ℕ
find_row c = option_or (row_of (spelling c)) (row_of (spelling (with_operands_exchanged c)))

-- What a computation means: its word without destination and jump. (Each that a text spells has a row, by a law.)
abbrev pub meaning : Comp → ℕ
meaning c = unwrap_or (find_row c) 0b1110000000000000
