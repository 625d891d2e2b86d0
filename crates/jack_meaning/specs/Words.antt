-- The operators of the language on words. (Chapter 9; words and their signed reading are those of chapter 2.)
use Rattle.std.specs.Prelude.{ℕ, bit_and, bit_or}
use Rattle.word16.specs.Words.{word_add, word_sub, word_neg, word_not, word_shl, word_shr, word_eq, word_lt, word_gt}
use Rattle.jack_meaning.specs.Text.{Sign, Minus, Complement, ShiftLeft, ShiftRight, Operator, Plus, Subtract, And, Or, Less, Greater, Equal}

abbrev pub sign_of : Sign → ℕ → ℕ
sign_of Minus x = word_neg x
sign_of Complement x = word_not x
sign_of ShiftLeft x = word_shl x
sign_of ShiftRight x = word_shr x

-- sums and differences modulo 65,536; words are compared by their signed readings, and true is -1
abbrev pub operator_of : Operator → ℕ → ℕ → ℕ
operator_of Plus x y = word_add x y
operator_of Subtract x y = word_sub x y
operator_of And x y = bit_and x y
operator_of Or x y = bit_or x y
operator_of Less x y = word_lt x y
operator_of Greater x y = word_gt x y
operator_of Equal x y = word_eq x y
