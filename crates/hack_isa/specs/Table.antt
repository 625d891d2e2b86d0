-- The instruction table of the Hack machine. (The book, chapter 4: the machine language; chapter 2: the ALU.)
use Rattle.std.specs.Prelude.{◌≡◌, ℕ, ◌+◌, ◌*◌, ◌<◌, ◌/◌, ◌%◌, Bool, nat_lt, if◌then◌else◌, not, ◌&&◌, false, bit_and}
use Rattle.word16.specs.Words.{word_add, word_not, has_bit}
use Rattle.hack_isa.specs.declared.Instr.{Instr}
use Rattle.hack_isa.specs.declared.Instr.TheVariants.{Address, Compute, Shift}

-- an input of the ALU: first set to 0 where z, then each bit turned over where n
abbrev pub preset : Bool → Bool → ℕ → ℕ
preset z n x = let zeroed = if z then 0 else x in if n then word_not zeroed else zeroed

-- the sum or the common bits of the two inputs, then each bit turned over where inverted
abbrev pub combine : Bool → Bool → ℕ → ℕ → ℕ
combine sum inverted x y = let out = if sum then word_add x y else bit_and x y in if inverted then word_not out else out

-- the ALU's output: of the six bits, from bit 5 down to bit 0, zx and nx preset x, zy and ny preset y, f takes the sum, no inverts
unfoldable pub alu_out : ℕ → ℕ → ℕ → ℕ
alu_out bits x y =
    combine (has_bit bits 1) (has_bit bits 0) (preset (has_bit bits 5) (has_bit bits 4) x) (preset (has_bit bits 3) (has_bit bits 2) y)

-- each number fits its field of the word; in a shift of D the bit for M is 0
abbrev pub WellFormed : Instr → Type 0
WellFormed (Address n) = n < 32768
WellFormed (Compute m comp dest jump) = (comp < 64) × (dest < 8) × (jump < 8)
WellFormed (Shift m left d dest jump) = ((d && m) ≡ false) × (dest < 8) × (jump < 8)

-- the word of an instruction: 0 and a number of 15 bits, or 111 a cccccc ddd jjj; a shift, which is not the book's, is 101 a l d 0000 ddd jjj
abbrev pub word_of : Instr → ℕ
word_of (Address n) = n
word_of (Compute m comp dest jump) = 57344 + (if m then 4096 else 0) + comp * 64 + dest * 8 + jump
word_of (Shift m left d dest jump) =
    40960 + (if m then 4096 else 0) + (if left then 2048 else 0) + (if d then 1024 else 0) + dest * 8 + jump

-- bits 14 and 13 of a word are 0 and 1: with its top bit 1 it is a shift
abbrev pub is_shift : ℕ → Bool
is_shift w = not (has_bit w 14) && has_bit w 13

-- a shift by its bits; in a shift of D bit 12 means nothing, and bits 9 to 6 mean nothing in any
abbrev pub shift_of : ℕ → Instr
shift_of w = Shift (has_bit w 12 && not (has_bit w 10)) (has_bit w 11) (has_bit w 10) (w / 8 % 8) (w % 8)

-- the instruction of a word; where the top bit is 1 and it is no shift, bits 14 and 13 mean nothing
unfoldable pub instr_of : ℕ → Instr
instr_of w =
    if nat_lt w 32768 then Address w
    else (if is_shift w then shift_of w else Compute (has_bit w 12) (w / 64 % 64) (w / 8 % 8) (w % 8))

-- the law of encode and decode
pub record DecodesBack : Type 0 where
  pub encoded : (i : Instr) → WellFormed i → instr_of (word_of i) ≡ i
  pub decoded : (w : ℕ) → w < 65536 → WellFormed (instr_of w)
