-- The text of drawCircle, as the meaning reads it.
use Rattle.std.specs.Prelude.{ℕ, false}
use Rattle.jack_meaning.specs.Text.{Argument, Local, Complement, Plus, Subtract, And, Or, Less, Expression, Literal, Value, Name, Unary, Binary, Call, NoMore, More, Let, Do, If, While, Return, Text, End, Next}
use Rattle.os_functions.proofs.Texts.{error_text}

abbrev argument : ℕ → Expression
argument k = Name (Argument k)

abbrev local : ℕ → Expression
local k = Name (Local k)

-- (x & ~511) | (y & ~255)
abbrev is_off : Expression
is_off = Binary Or (Binary And (argument 0) (Unary Complement (Literal 511))) (Binary And (argument 1) (Unary Complement (Literal 255)))

-- ((z - r) | (z + r)) & ~m
abbrev passes : ℕ → ℕ → Expression
passes k m = Binary And (Binary Or (Binary Subtract (argument k) (argument 2)) (Binary Plus (argument k) (argument 2))) (Unary Complement (Literal m))

abbrev is_none : Expression
is_none = Binary Or (Binary Or (Binary Less (argument 2) (Literal 0)) (passes 0 511)) (passes 1 255)

-- the locals are e, w, d; a row, so far from the centre's: y - e or y + e
abbrev fills : ℕ → ℕ → Expression → Text → Text
fills n fill row rest = Next (Do n (Call fill (More (Binary Subtract (argument 0) (local 1)) (More row (More (Binary Plus (argument 0) (local 1)) (More row NoMore)))))) rest

abbrev upper : Expression
upper = Binary Subtract (argument 1) (local 0)

abbrev lower : Expression
lower = Binary Plus (argument 1) (local 0)

abbrev pub narrows : Text → Text
narrows rest =
    Next (Let 11 (Local 1) (Binary Subtract (local 1) (Literal 1))) (Next (Let 12 (Local 2) (Binary Plus (Binary Plus (Binary Plus (local 2) (local 1)) (local 1)) (Literal 1))) rest)

abbrev pub raises : Text → Text
raises rest =
    Next (Let 8 (Local 0) (Binary Plus (local 0) (Literal 1))) (Next (Let 9 (Local 2) (Binary Plus (Binary Subtract (Binary Subtract (local 2) (local 0)) (local 0)) (Literal 1))) rest)

abbrev is_deep : Expression
is_deep = Binary Less (local 2) (Literal 0)

abbrev circle_turn : ℕ → Text
circle_turn fill = raises (Next (While 10 is_deep (narrows End)) (fills 13 fill upper (fills 14 fill lower End)))

abbrev pub circle_loop : ℕ → Text
circle_loop fill = Next (While 7 (Binary Less (local 0) (argument 2)) (circle_turn fill)) (Next (Return 15 (Literal 0)) End)

abbrev pub behind_upper : ℕ → Text
behind_upper fill = fills 14 fill lower (circle_loop fill)

abbrev pub deep_loop : ℕ → Text
deep_loop fill = Next (While 10 is_deep (narrows End)) (fills 13 fill upper (behind_upper fill))

abbrev pub third : ℕ → Text
third fill = Next (Let 5 (Local 1) (argument 2)) (fills 6 fill (argument 1) (circle_loop fill))

abbrev pub second : ℕ → ℕ → Text
second error fill = Next (If 3 false is_none (error_text 4 error 13) End) (third fill)

abbrev pub circle_body : ℕ → ℕ → Text
circle_body error fill = Next (If 1 false is_off (error_text 2 error 12) End) (second error fill)

-- a call of fill with its values
abbrev pub asks_fill : ℕ → ℕ → ℕ → ℕ → ℕ → ℕ → Text → Text
asks_fill n fill a b c d rest = Next (Do n (Call fill (More (Value a) (More (Value b) (More (Value c) (More (Value d) NoMore)))))) rest
