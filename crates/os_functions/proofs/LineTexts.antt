-- The text of drawLine, as the meaning reads it.
use Rattle.std.specs.Prelude.{ℕ, true, false, [], ◌∷◌}
use Rattle.jack_meaning.specs.Text.{Argument, Local, Minus, Complement, Plus, Subtract, And, Or, Less, Greater, Equal, Expression, Expressions, Literal, Name, Unary, Binary, Call, NoMore, More, Let, Do, If, While, Return, Text, End, Next, text_of}
use Rattle.os_functions.proofs.Texts.{error_text}

abbrev argument : ℕ → Expression
argument k = Name (Argument k)

abbrev local : ℕ → Expression
local k = Name (Local k)

abbrev pub two : Expression → Expression → Expressions
two a b = More a (More b NoMore)

-- ((x1 | x2) & ~511) | ((y1 | y2) & ~255)
abbrev is_off : Expression
is_off = Binary Or (Binary And (Binary Or (argument 0) (argument 2)) (Unary Complement (Literal 511))) (Binary And (Binary Or (argument 1) (argument 3)) (Unary Complement (Literal 255)))

-- the locals are dx, dy, stepX, stepY, a, b, d
abbrev pub goes_x : Text → Text
goes_x rest =
    Next (Let 19 (Local 4) (Binary Plus (local 4) (Literal 1)))
    (Next (Let 20 (Argument 0) (Binary Plus (argument 0) (local 2))) (Next (Let 21 (Local 6) (Binary Plus (local 6) (local 1))) rest))

abbrev pub goes_y : Text → Text
goes_y rest =
    Next (Let 22 (Local 5) (Binary Plus (local 5) (Literal 1)))
    (Next (Let 23 (Argument 1) (Binary Plus (argument 1) (local 3))) (Next (Let 24 (Local 6) (Binary Subtract (local 6) (local 0))) rest))

abbrev chooses : Text → Text
chooses rest = Next (If 18 true (Binary Less (local 6) (Literal 0)) (goes_x End) (goes_y End)) rest

abbrev turn : ℕ → ℕ → ℕ → Text
turn place bit paint = Next (Do 17 (Call paint (two (Call place (two (argument 0) (argument 1))) (Call bit (More (argument 0) NoMore))))) (chooses End)

abbrev pub line_loop : ℕ → ℕ → ℕ → Text
line_loop place bit paint =
    Next (While 16 (Unary Complement (Binary Or (Binary Greater (local 4) (local 0)) (Binary Greater (local 5) (local 1)))) (turn place bit paint)) (Next (Return 25 (Literal 0)) End)

abbrev pub behind_dot : ℕ → ℕ → ℕ → Text
behind_dot place bit paint = chooses (line_loop place bit paint)

abbrev pub turns_y : ℕ → ℕ → ℕ → Text
turns_y place bit paint =
    Next (If 13 false (Binary Less (local 1) (Literal 0)) (text_of (Let 14 (Local 1) (Unary Minus (local 1)) ∷ Let 15 (Local 3) (Unary Minus (Literal 1)) ∷ [])) End) (line_loop place bit paint)

abbrev pub turns_x : ℕ → ℕ → ℕ → Text
turns_x place bit paint =
    Next (If 10 false (Binary Less (local 0) (Literal 0)) (text_of (Let 11 (Local 0) (Unary Minus (local 0)) ∷ Let 12 (Local 2) (Unary Minus (Literal 1)) ∷ [])) End) (turns_y place bit paint)

abbrev pub slants : ℕ → ℕ → ℕ → Text
slants place bit paint =
    Next (Let 6 (Local 0) (Binary Subtract (argument 2) (argument 0)))
    (Next (Let 7 (Local 1) (Binary Subtract (argument 3) (argument 1))) (Next (Let 8 (Local 2) (Literal 1)) (Next (Let 9 (Local 3) (Literal 1)) (turns_x place bit paint))))

abbrev pub asks_ends : ℕ → Expression → Expression → Expression → Expression → Text → Text
asks_ends fill a b c d rest = Next (Do 4 (Call fill (More a (More b (More c (More d NoMore)))))) (Next (Return 5 (Literal 0)) rest)

abbrev pub second : ℕ → ℕ → ℕ → ℕ → ℕ → ℕ → Text
second fill min max place bit paint =
    Next (If 3 false (Binary Or (Binary Equal (argument 0) (argument 2)) (Binary Equal (argument 1) (argument 3)))
    (asks_ends fill (Call min (two (argument 0) (argument 2))) (Call min (two (argument 1) (argument 3))) (Call max (two (argument 0) (argument 2))) (Call max (two (argument 1) (argument 3))) End) End) (slants place bit paint)

abbrev pub line_body : ℕ → ℕ → ℕ → ℕ → ℕ → ℕ → ℕ → Text
line_body error fill min max place bit paint = Next (If 1 false is_off (error_text 2 error 8) End) (second fill min max place bit paint)
