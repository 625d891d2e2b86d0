-- What the chips from HalfAdder to the ALU and Shift do: each is its function, in every behaviour of its tree. (The book, chapter 2.)
use Rattle.std.specs.Prelude.{◌≡◌, ℕ, ◌+◌, ◌*◌, Bool, true, cond, ◌==◌, nat_lt, [], ◌∷◌}
use Rattle.word16.specs.Words.{word_add, word_shift}
use Rattle.hack_isa.specs.Table.{preset, combine}
use Rattle.hdl_tree.specs.Writable.{all, chip_can}
use Rattle.hdl_tree.specs.Behaviour.{Histories}
use Rattle.chip_basic.specs.Laws.{Always, bit, word}
use Rattle.chip_alu.specs.Trees.{HasAluChips, half_adder_tree, full_adder_tree, add16_tree, inc16_tree, alu_tree, shift_tree}

-- a bit as a number
abbrev pub digit : Bool → ℕ
digit b = cond b 1 0

-- sum and carry are the two binary digits of a + b
abbrev pub HalfAdderLaw : Type 0
HalfAdderLaw = Always HasAluChips half_adder_tree (λ w c. digit (bit w "sum" c) + 2 * digit (bit w "carry" c) ≡ digit (bit w "a" c) + digit (bit w "b" c))

-- sum and carry are the two binary digits of a + b + c
abbrev pub FullAdderLaw : Type 0
FullAdderLaw = Always HasAluChips full_adder_tree (λ w c. digit (bit w "sum" c) + 2 * digit (bit w "carry" c) ≡ digit (bit w "a" c) + (digit (bit w "b" c) + digit (bit w "c" c)))

abbrev pub Add16Law : Type 0
Add16Law = Always HasAluChips add16_tree (λ w c. word w "out" c ≡ word_add (word w "a" c) (word w "b" c))

abbrev pub Inc16Law : Type 0
Inc16Law = Always HasAluChips inc16_tree (λ w c. word w "out" c ≡ word_add (word w "in" c) 1)

-- What the ALU gives in a cycle, with the functions of the instruction table. Each input is set to 0 and turned over as its two bits ask, f takes
-- the sum or the common bits, no turns the output over. The output zr is 1 exactly where out is 0, ng where its signed reading is below 0.
pub record AluWorks (w : Histories) (c : ℕ) : Type 0 where
  pub out : word w "out" c
      ≡ combine (bit w "f" c) (bit w "no" c) (preset (bit w "zx" c) (bit w "nx" c) (word w "x" c))
      (preset (bit w "zy" c) (bit w "ny" c) (word w "y" c))
  pub zr : bit w "zr" c ≡ (word w "out" c == 0)
  pub ng : bit w "ng" c ≡ nat_lt 32767 (word w "out" c)

abbrev pub AluLaw : Type 0
AluLaw = Always HasAluChips alu_tree AluWorks

-- to the left where left is 1, else to the right
abbrev pub ShiftLaw : Type 0
ShiftLaw = Always HasAluChips shift_tree (λ w c. word w "out" c ≡ word_shift (bit w "left" c) (word w "in" c))

-- each of these chips keeps the rules of texts, so that its printed form spells it
abbrev pub AluTextsLaw : Type 0
AluTextsLaw = all chip_can (half_adder_tree ∷ full_adder_tree ∷ add16_tree ∷ inc16_tree ∷ alu_tree ∷ shift_tree ∷ []) ≡ true
