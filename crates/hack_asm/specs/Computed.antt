-- What a computation computes: its text read as an operation on 0, 1, D, A and M, on words. The instruction must give that for its row of
-- the table of comp. (The book, chapters 2 and 4.)
use Rattle.std.specs.Prelude.{◌≡◌, ◌<◌, ℕ, Option, Some, None, bit_and, bit_or, if◌then◌else◌}
use Rattle.word16.specs.Words.{word_add, word_neg, word_not, word_sub, word_shift}
use Rattle.hack_isa.specs.Table.{alu_out, instr_of}
use Rattle.hack_isa.specs.declared.Instr.{Instr}
use Rattle.hack_isa.specs.declared.Instr.TheVariants as instr
use Rattle.hack_asm.specs.declared.token.Letter.{Letter}
use Rattle.hack_asm.specs.declared.token.Letter.TheVariants.{Zero, One, A, D, M}
use Rattle.hack_asm.specs.declared.token.Operator.{Operator}
use Rattle.hack_asm.specs.declared.token.Operator.TheVariants.{Plus, Minus, And, Or}
use Rattle.hack_asm.specs.declared.lines.Prefix.{Prefix}
use Rattle.hack_asm.specs.declared.lines.Prefix.TheVariants as prefix
use Rattle.hack_asm.specs.declared.lines.Comp.{Comp}
use Rattle.hack_asm.specs.declared.lines.Comp.TheVariants as comp
use Rattle.hack_asm.specs.Comps.{find_row}

-- what D, A and M hold
pub record Held : Type 0 where
  pub d : ℕ
  pub a : ℕ
  pub m : ℕ

abbrev pub letter_value : Held → Letter → ℕ
letter_value h Zero = 0
letter_value h One = 1
letter_value h D = h.d
letter_value h A = h.a
letter_value h M = h.m

abbrev pub operator_value : Operator → ℕ → ℕ → ℕ
operator_value Plus x y = word_add x y
operator_value Minus x y = word_sub x y
operator_value And x y = bit_and x y
operator_value Or x y = bit_or x y

abbrev pub prefix_value : Prefix → ℕ → ℕ
prefix_value prefix.Minus x = word_neg x
prefix_value prefix.Not x = word_not x

abbrev pub computed_value : Held → Comp → ℕ
computed_value h (comp.Alone x) = letter_value h x
computed_value h (comp.Pair x op y) = operator_value op (letter_value h x) (letter_value h y)
computed_value h (comp.Under p y) = prefix_value p (letter_value h y)
computed_value h (comp.Shifted x left) = word_shift left (letter_value h x)

-- they hold words
pub record AreWords (h : Held) : Type 0 where
  pub d : h.d < 65536
  pub a : h.a < 65536
  pub m : h.m < 65536

-- what an instruction gives: the ALU of D, and of A or M, or a shift of D, A or M
abbrev pub given_value : Held → Instr → ℕ
given_value h (instr.Address n) = n
given_value h (instr.Compute m comp dest jump) = alu_out comp h.d (if m then h.m else h.a)
given_value h (instr.Shift m left d dest jump) = word_shift left (if d then h.d else (if m then h.m else h.a))

-- The instruction of a row's word gives what the text says.
abbrev pub Computes : Comp → Option ℕ → Type 0
Computes c None = Unit {0}
Computes c (Some word) = (h : Held) → AreWords h → given_value h (instr_of word) ≡ computed_value h c

-- The law of rows: so it is for each computation that has one.
abbrev pub RowsCompute : Type 0
RowsCompute = (c : Comp) → Computes c (find_row c)
