-- The rows of the table of comp as the assembler looks them up, by letters. What they are is said by `Comps`.
use Rattle.std.specs.Prelude.{ℕ, ◌+◌, ◌*◌, Bool, true, false, if◌then◌else◌}
use Rattle.hack_asm.specs.declared.token.Letter.{Letter}
use Rattle.hack_asm.specs.declared.token.Letter.TheVariants.{Zero, One, A, D, M}
use Rattle.hack_asm.specs.declared.token.Operator.{Operator}
use Rattle.hack_asm.specs.declared.token.Operator.TheVariants.{Plus, Minus, And, Or}
use Rattle.hack_asm.specs.declared.lines.Prefix.{Prefix}
use Rattle.hack_asm.specs.declared.lines.Prefix.TheVariants as prefix
use Rattle.hack_asm.specs.declared.lines.Comp.{Comp}
use Rattle.hack_asm.specs.declared.lines.Comp.TheVariants as comp

-- the word of a computation, by the bit a and the six bits of the ALU
abbrev pub row : Bool → ℕ → ℕ
row memory bits = 57344 + (if memory then 4096 else 0) + bits * 64

abbrev pub alone_row : Letter → ℕ
alone_row Zero = row false 0b101010
alone_row One = row false 0b111111
alone_row D = row false 0b001100
alone_row A = row false 0b110000
alone_row M = row true 0b110000

abbrev pub under_row : Prefix → Letter → ℕ
under_row prefix.Minus One = row false 0b111010
under_row prefix.Minus D = row false 0b001111
under_row prefix.Minus A = row false 0b110011
under_row prefix.Minus M = row true 0b110011
under_row prefix.Not D = row false 0b001101
under_row prefix.Not A = row false 0b110001
under_row prefix.Not M = row true 0b110001
under_row _ _ = row false 0

-- D with A or with M, in either order
abbrev pub both_row : Letter → Letter → ℕ → ℕ
both_row D A bits = row false bits
both_row A D bits = row false bits
both_row D M bits = row true bits
both_row M D bits = row true bits
both_row _ _ _ = row false 0

abbrev pub sum_row : Letter → Letter → ℕ
sum_row D One = row false 0b011111
sum_row One D = row false 0b011111
sum_row A One = row false 0b110111
sum_row One A = row false 0b110111
sum_row M One = row true 0b110111
sum_row One M = row true 0b110111
sum_row x y = both_row x y 0b000010

abbrev pub difference_row : Letter → Letter → ℕ
difference_row D One = row false 0b001110
difference_row A One = row false 0b110010
difference_row M One = row true 0b110010
difference_row D A = row false 0b010011
difference_row D M = row true 0b010011
difference_row A D = row false 0b000111
difference_row M D = row true 0b000111
difference_row _ _ = row false 0

abbrev pub pair_row : Letter → Operator → Letter → ℕ
pair_row x Plus y = sum_row x y
pair_row x Minus y = difference_row x y
pair_row x And y = both_row x y 0b000000
pair_row x Or y = both_row x y 0b010101

abbrev pub shift_row : Letter → Bool → ℕ
shift_row D true = 0b1010110000000000
shift_row D false = 0b1010010000000000
shift_row A true = 0b1010100000000000
shift_row A false = 0b1010000000000000
shift_row M true = 0b1011100000000000
shift_row M false = 0b1011000000000000
shift_row _ _ = row false 0

abbrev pub comp_row : Comp → ℕ
comp_row (comp.Alone x) = alone_row x
comp_row (comp.Pair x op y) = pair_row x op y
comp_row (comp.Under p y) = under_row p y
comp_row (comp.Shifted x left) = shift_row x left
