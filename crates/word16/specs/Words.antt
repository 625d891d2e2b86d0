-- Words of 16 bits: numbers below 65,536. (The book, chapter 2: two's complement, and sums modulo 2^16.)
use Rattle.std.specs.Prelude.{ℕ, ◌+◌, ◌-◌, ◌*◌, ◌/◌, ◌%◌, ◌^◌, Bool, nat_lt, nat_eq, ℤ, pos, negsuc, ◌+ℤ◌, ◌≤ℤ◌, ◌<ℤ◌, int_lt, if◌then◌else◌, List, [], ◌∷◌, map}
use Rattle.std.specs.List.{range_with_len}

-- sum, difference and negation modulo 65,536
abbrev pub word_add : ℕ → ℕ → ℕ
word_add x y = (x + y) % 65536

abbrev pub word_sub : ℕ → ℕ → ℕ
word_sub x y = (x + (65536 - y)) % 65536

abbrev pub word_neg : ℕ → ℕ
word_neg w = (65536 - w) % 65536

-- each of the sixteen bits the other one
abbrev pub word_not : ℕ → ℕ
word_not w = 65535 - w

-- the signed reading of a word: w below 32,768, else w - 65,536
abbrev pub signed_value : ℕ → ℤ
signed_value w = if nat_lt w 32768 then pos w else negsuc (65535 - w)

-- twice the word, modulo 65,536: each bit goes one place up
abbrev pub word_shl : ℕ → ℕ
word_shl w = word_add w w

-- each bit goes one place down, and the top bit, the sign, stays too
abbrev pub word_shr : ℕ → ℕ
word_shr w = if nat_lt w 32768 then w / 2 else 32768 + w / 2

-- one place to the left, or to the right (shifts are not the book's)
abbrev pub word_shift : Bool → ℕ → ℕ
word_shift left w = if left then word_shl w else word_shr w

-- half of a whole number, rounded down: the greatest whole number whose double is at most that number
abbrev pub IsHalf : ℤ → ℤ → Type 0
IsHalf half whole = ((half +ℤ half) ≤ℤ whole) × (whole <ℤ (half +ℤ (half +ℤ pos 2)))

-- true is -1, each of its bits 1; false is 0. (Chapter 7.)
abbrev pub truth : Bool → ℕ
truth holds = if holds then 65535 else 0

-- the comparisons, as words: equal, less, greater; their signed readings are compared as whole numbers
abbrev pub word_eq : ℕ → ℕ → ℕ
word_eq x y = truth (nat_eq x y)

abbrev pub word_lt : ℕ → ℕ → ℕ
word_lt x y = truth (int_lt (signed_value x) (signed_value y))

abbrev pub word_gt : ℕ → ℕ → ℕ
word_gt x y = truth (int_lt (signed_value y) (signed_value x))

-- bit k of a number is set
abbrev pub has_bit : ℕ → ℕ → Bool
has_bit w k = nat_eq (w / 2 ^ k % 2) 1

-- the sixteen bits of a word, the lowest first
abbrev pub bit_list : ℕ → List Bool
bit_list w = map (has_bit w) (range_with_len 0 16)

-- the number that a list of bits writes, the lowest first: each bit is worth twice the one before it
abbrev pub number_of : List Bool → ℕ
number_of [] = 0
number_of (bit ∷ bits) = (if bit then 1 else 0) + 2 * number_of bits

-- the sixteen binary digits of a word as characters, the highest first
abbrev pub binary_text : ℕ → List ℕ
binary_text w = map (λ k. if has_bit w (15 - k) then 49 else 48) (range_with_len 0 16)
