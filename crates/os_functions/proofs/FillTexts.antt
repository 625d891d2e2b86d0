-- The texts of rectangles, as the meaning reads them.
use Rattle.std.specs.Prelude.{ℕ, false, [], ◌∷◌}
use Rattle.jack_meaning.specs.Text.{Argument, Local, Minus, Complement, Plus, Subtract, And, Or, Greater, Equal, Expression, Literal, Name, Unary, Binary, Call, NoMore, More, Let, Store, Do, If, While, Return, Text, End, Next, text_of}
use Rattle.os_functions.proofs.Texts.{error_text}

abbrev argument : ℕ → Expression
argument k = Name (Argument k)

abbrev local : ℕ → Expression
local k = Name (Local k)

-- ---- drawRectangle

-- ((x1 | x2) & ~511) | ((y1 | y2) & ~255) | (x1 > x2) | (y1 > y2)
abbrev is_none : Expression
is_none =
    Binary Or
    (Binary Or
    (Binary Or (Binary And (Binary Or (argument 0) (argument 2)) (Unary Complement (Literal 511))) (Binary And (Binary Or (argument 1) (argument 3)) (Unary Complement (Literal 255))))
    (Binary Greater (argument 0) (argument 2)))
    (Binary Greater (argument 1) (argument 3))

abbrev pub rectangle_body : ℕ → ℕ → Text
rectangle_body error fill =
    text_of (
    If 1 false is_none (error_text 2 error 9) End
    ∷ Do 3 (Call fill (More (argument 0) (More (argument 1) (More (argument 2) (More (argument 3) NoMore)))))
    ∷ Return 4 (Literal 0)
    ∷ []
    )

-- ---- fill: the locals are first, last, word, left, right, pixels

abbrev pub word_turn : ℕ → Text
word_turn paint =
    text_of (
    Do 10 (Call paint (More (local 2) (More (local 5) NoMore)))
    ∷ Let 11 (Local 2) (Binary Plus (local 2) (Literal 1))
    ∷ Let 12 (Local 5) (Unary Complement (Literal 0))
    ∷ []
    )

abbrev pub row_turn : ℕ → Text
row_turn paint =
    text_of (
    Let 7 (Local 2) (local 0)
    ∷ Let 8 (Local 5) (local 3)
    ∷ While 9 (Unary Complement (Binary Equal (local 2) (local 1))) (word_turn paint)
    ∷ Do 13 (Call paint (More (local 2) (More (Binary And (local 5) (local 4)) NoMore)))
    ∷ Let 14 (Local 0) (Binary Plus (local 0) (Literal 32))
    ∷ Let 15 (Local 1) (Binary Plus (local 1) (Literal 32))
    ∷ Let 16 (Argument 1) (Binary Plus (argument 1) (Literal 1))
    ∷ []
    )

-- the loop over rows and what follows it
abbrev pub rows_text : ℕ → Text
rows_text paint = text_of (While 6 (Unary Complement (Binary Greater (argument 1) (argument 3))) (row_turn paint) ∷ Return 17 (Literal 0) ∷ [])

-- in a row, after the loop over words
abbrev pub behind_last : ℕ → Text
behind_last paint =
    Next (Let 14 (Local 0) (Binary Plus (local 0) (Literal 32)))
    (Next (Let 15 (Local 1) (Binary Plus (local 1) (Literal 32))) (Next (Let 16 (Argument 1) (Binary Plus (argument 1) (Literal 1))) (rows_text paint)))

abbrev pub words_text : ℕ → Text
words_text paint =
    Next (While 9 (Unary Complement (Binary Equal (local 2) (local 1))) (word_turn paint))
    (Next (Do 13 (Call paint (More (local 2) (More (Binary And (local 5) (local 4)) NoMore)))) (behind_last paint))

-- after a word
abbrev pub behind_word : ℕ → Text
behind_word paint = Next (Let 11 (Local 2) (Binary Plus (local 2) (Literal 1))) (Next (Let 12 (Local 5) (Unary Complement (Literal 0))) (words_text paint))

-- from the fourth statement on; the fifth
abbrev pub doubling : ℕ → Text
doubling paint = Next (Let 5 (Local 4) (Binary Subtract (Binary Plus (local 4) (local 4)) (Literal 1))) (rows_text paint)

abbrev pub from_right : ℕ → ℕ → Text
from_right bit paint = Next (Let 4 (Local 4) (Call bit (More (argument 2) NoMore))) (doubling paint)

abbrev pub from_left : ℕ → ℕ → Text
from_left bit paint = Next (Let 3 (Local 3) (Unary Minus (Call bit (More (argument 0) NoMore)))) (from_right bit paint)

abbrev pub from_last : ℕ → ℕ → ℕ → Text
from_last place bit paint = Next (Let 2 (Local 1) (Call place (More (argument 2) (More (argument 1) NoMore)))) (from_left bit paint)

abbrev pub fill_body : ℕ → ℕ → ℕ → Text
fill_body place bit paint = Next (Let 1 (Local 0) (Call place (More (argument 0) (More (argument 1) NoMore)))) (from_last place bit paint)

-- ---- clearScreen: the locals are screen and n

abbrev clear_turn : Text
clear_turn = text_of (Let 4 (Local 1) (Binary Subtract (local 1) (Literal 1)) ∷ Store 5 (local 0) (local 1) (Literal 0) ∷ [])

abbrev pub clear_loop : Text
clear_loop = text_of (While 3 (local 1) clear_turn ∷ Return 6 (Literal 0) ∷ [])

abbrev pub clear_body : Text
clear_body = Next (Let 1 (Local 0) (Literal 16384)) (Next (Let 2 (Local 1) (Literal 8192)) clear_loop)
