-- The routines' texts as the meaning reads them: names are numbers, statements have their numbers.
use Rattle.std.specs.Prelude.{ℕ, true, false, [], ◌∷◌}
use Rattle.jack_meaning.specs.Text.{Argument, Local, Static, Minus, Complement, Plus, Subtract, And, Or, Less, Greater, Equal, Expression, Literal, Name, This, Field, Unary, Binary, Load, Call, NoMore, More, Statement, Let, LetField, Store, Do, If, While, Return, Text, End, Next, text_of, Kind, Subroutine}

abbrev argument : ℕ → Expression
argument k = Name (Argument k)

abbrev local : ℕ → Expression
local k = Name (Local k)

abbrev pub error_text : ℕ → ℕ → ℕ → Text
error_text n error v = text_of (Do n (Call error (More (Literal v) NoMore)) ∷ [])

abbrev pub routine : Kind → ℕ → ℕ → ℕ → Text → Subroutine
routine kind class arguments locals body = record { kind = kind; class = class; arguments = arguments; locals = locals; body = body }

-- ---- Math

abbrev pub abs_body : Text
abs_body = text_of (If 1 false (Binary Less (argument 0) (Literal 0)) (text_of (Return 2 (Unary Minus (argument 0)) ∷ [])) End ∷ Return 3 (argument 0) ∷ [])

abbrev pub min_body : Text
min_body = text_of (If 1 false (Binary Less (argument 0) (argument 1)) (text_of (Return 2 (argument 0) ∷ [])) End ∷ Return 3 (argument 1) ∷ [])

abbrev pub max_body : Text
max_body = text_of (If 1 false (Binary Greater (argument 0) (argument 1)) (text_of (Return 2 (argument 0) ∷ [])) End ∷ Return 3 (argument 1) ∷ [])

-- ~(x < odd)
abbrev pub has_odd : Expression
has_odd = Unary Complement (Binary Less (argument 0) (local 1))

-- let x = x - odd; let odd = odd + 2; let y = y + 1;
abbrev pub root_turn : Text
root_turn =
    text_of (
    Let 5 (Argument 0) (Binary Subtract (argument 0) (local 1))
    ∷ Let 6 (Local 1) (Binary Plus (local 1) (Literal 2))
    ∷ Let 7 (Local 0) (Binary Plus (local 0) (Literal 1))
    ∷ []
    )

abbrev pub root_loop : Text
root_loop = text_of (While 4 has_odd root_turn ∷ Return 8 (local 0) ∷ [])

abbrev pub root_body : ℕ → Text
root_body error =
    text_of (
    If 1 false (Binary Less (argument 0) (Literal 0)) (error_text 2 error 4) End
    ∷ Let 3 (Local 1) (Literal 1)
    ∷ While 4 has_odd root_turn
    ∷ Return 8 (local 0)
    ∷ []
    )

-- ---- Memory and Array

abbrev pub peek_body : Text
peek_body = text_of (Return 1 (Load (argument 0) (Literal 0)) ∷ [])

abbrev pub poke_body : Text
poke_body = text_of (Store 1 (argument 0) (Literal 0) (argument 1) ∷ Return 2 (Literal 0) ∷ [])

abbrev pub new_array_body : ℕ → ℕ → Text
new_array_body error alloc =
    text_of (
    If 1 false (Binary Less (argument 0) (Literal 1)) (error_text 2 error 2) End
    ∷ Return 3 (Call alloc (More (argument 0) NoMore))
    ∷ []
    )

abbrev pub dispose_array_body : ℕ → Text
dispose_array_body deAlloc = text_of (Do 1 (Call deAlloc (More This NoMore)) ∷ Return 2 (Literal 0) ∷ [])

-- ---- String: the fields are characters, count, room

abbrev pub is_outside : Expression
is_outside = Binary Or (Binary Less (argument 1) (Literal 0)) (Unary Complement (Binary Less (argument 1) (Field 1)))

abbrev pub length_body : Text
length_body = text_of (Return 1 (Field 1) ∷ [])

abbrev pub char_at_body : ℕ → Text
char_at_body error = text_of (If 1 false is_outside (error_text 2 error 15) End ∷ Return 3 (Load (Field 0) (argument 1)) ∷ [])

abbrev pub set_char_body : ℕ → Text
set_char_body error = text_of (If 1 false is_outside (error_text 2 error 16) End ∷ Store 3 (Field 0) (argument 1) (argument 2) ∷ Return 4 (Literal 0) ∷ [])

abbrev pub append_body : ℕ → Text
append_body error =
    text_of (
    If 1 false (Binary Equal (Field 1) (Field 2)) (error_text 2 error 17) End
    ∷ Store 3 (Field 0) (Field 1) (argument 1)
    ∷ LetField 4 1 (Binary Plus (Field 1) (Literal 1))
    ∷ Return 5 This
    ∷ []
    )

abbrev pub erase_body : ℕ → Text
erase_body error =
    text_of (
    If 1 false (Binary Equal (Field 1) (Literal 0)) (error_text 2 error 18) End
    ∷ LetField 3 1 (Binary Subtract (Field 1) (Literal 1))
    ∷ Return 4 (Literal 0)
    ∷ []
    )

abbrev pub code_body : ℕ → Text
code_body code = text_of (Return 1 (Literal code) ∷ [])

-- ---- Screen

abbrev pub init_body : ℕ → Text
init_body black = text_of (Let 1 (Static black) (Literal 65535) ∷ Return 2 (Literal 0) ∷ [])

abbrev pub colour_body : ℕ → Text
colour_body black = text_of (Let 1 (Static black) (argument 0) ∷ Return 2 (Literal 0) ∷ [])

-- (x & ~511) | (y & ~255)
abbrev is_off : Expression
is_off = Binary Or (Binary And (argument 0) (Unary Complement (Literal 511))) (Binary And (argument 1) (Unary Complement (Literal 255)))

abbrev pub pixel_body : ℕ → ℕ → ℕ → ℕ → Text
pixel_body error paint place bit =
    text_of (
    If 1 false is_off (error_text 2 error 7) End
    ∷ Do 3 (Call paint (More (Call place (More (argument 0) (More (argument 1) NoMore))) (More (Call bit (More (argument 0) NoMore)) NoMore)))
    ∷ Return 4 (Literal 0)
    ∷ []
    )

abbrev word_here : Expression
word_here = Load (argument 0) (Literal 0)

abbrev pub paint_body : ℕ → Text
paint_body black =
    text_of (
    If 1 true (Name (Static black))
    (text_of (Store 2 (argument 0) (Literal 0) (Binary Or word_here (argument 1)) ∷ []))
    (text_of (Store 3 (argument 0) (Literal 0) (Binary And word_here (Unary Complement (argument 1))) ∷ []))
    ∷ Return 4 (Literal 0)
    ∷ []
    )

abbrev pub place_turn : Text
place_turn =
    text_of (
    Let 3 (Argument 1) (Binary Plus (argument 1) (argument 1))
    ∷ If 4 false (Binary And (argument 0) (Literal 256)) (text_of (Let 5 (Argument 1) (Binary Plus (argument 1) (Literal 1)) ∷ [])) End
    ∷ Let 6 (Argument 0) (Binary Plus (argument 0) (argument 0))
    ∷ Let 7 (Local 0) (Binary Subtract (local 0) (Literal 1))
    ∷ []
    )

abbrev pub place_loop : Text
place_loop = text_of (While 2 (local 0) place_turn ∷ Return 8 (Binary Plus (argument 1) (Literal 16384)) ∷ [])

abbrev pub place_body : Text
place_body = text_of (Let 1 (Local 0) (Literal 5) ∷ While 2 (local 0) place_turn ∷ Return 8 (Binary Plus (argument 1) (Literal 16384)) ∷ [])

abbrev pub bit_turn : Text
bit_turn = text_of (Let 4 (Local 0) (Binary Plus (local 0) (local 0)) ∷ Let 5 (Argument 0) (Binary Subtract (argument 0) (Literal 1)) ∷ [])

abbrev pub bit_loop : Text
bit_loop = text_of (While 3 (argument 0) bit_turn ∷ Return 6 (local 0) ∷ [])

abbrev pub bit_body : Text
bit_body = text_of (Let 1 (Local 0) (Literal 1) ∷ Let 2 (Argument 0) (Binary And (argument 0) (Literal 15)) ∷ While 3 (argument 0) bit_turn ∷ Return 6 (local 0) ∷ [])

-- ---- Output

-- (row < 0) | (row > 22) | (column & ~63)
abbrev is_no_cell : Expression
is_no_cell = Binary Or (Binary Or (Binary Less (argument 0) (Literal 0)) (Binary Greater (argument 0) (Literal 22))) (Binary And (argument 1) (Unary Complement (Literal 63)))

abbrev pub cursor_body : ℕ → ℕ → ℕ → ℕ → ℕ → Text
cursor_body error multiply divide place right =
    text_of (
    If 1 false is_no_cell (error_text 2 error 20) End
    ∷ Let 3 (Static place)
    (Binary Plus (Binary Plus (Literal 16384) (Call multiply (More (argument 0) (More (Literal 352) NoMore)))) (Call divide (More (argument 1) (More (Literal 2) NoMore))))
    ∷ Let 4 (Static right) (Binary Equal (Binary And (argument 1) (Literal 1)) (Literal 1))
    ∷ Return 5 (Literal 0)
    ∷ []
    )

-- ---- Output: a character drawn

abbrev static : ℕ → Expression
static k = Name (Static k)

-- let this local variable = itself and a number more; twice itself; one less
abbrev pub adds : ℕ → ℕ → ℕ → Statement
adds n k v = Let n (Local k) (Binary Plus (local k) (Literal v))

abbrev pub doubles : ℕ → ℕ → Statement
doubles n k = Let n (Local k) (Binary Plus (local k) (local k))

abbrev pub counts_down : ℕ → ℕ → Statement
counts_down n k = Let n (Local k) (Binary Subtract (local k) (Literal 1))

-- the locals are glyph, word, other, pixel, dots, dot, rows, columns
abbrev draw_end : Text
draw_end = text_of (Return 32 (Literal 0) ∷ [])

abbrev pub row_turn : Text
row_turn =
    text_of (
    If 22 false (Binary And (local 4) (local 5)) (text_of (Store 23 (local 1) (Literal 0) (Binary Or (Load (local 1) (Literal 0)) (local 3)) ∷ [])) End
    ∷ adds 24 1 32
    ∷ doubles 25 5
    ∷ counts_down 26 6
    ∷ []
    )

abbrev pub column_turn : ℕ → Text
column_turn place =
    text_of (
    Let 18 (Local 4) (Load (local 0) (Literal 0))
    ∷ Let 19 (Local 1) (Binary Plus (static place) (Literal 32))
    ∷ Let 20 (Local 6) (Literal 7)
    ∷ While 21 (local 6) row_turn
    ∷ If 27 false (Binary And (local 5) (Literal 16384)) (text_of (Let 28 (Local 5) (Literal 1) ∷ adds 29 0 1 ∷ [])) End
    ∷ doubles 30 3
    ∷ counts_down 31 7
    ∷ []
    )

abbrev pub columns_loop : ℕ → Text
columns_loop place = Next (While 17 (local 7) (column_turn place)) draw_end

-- a loop over the rows of a column, and what comes after it in a column
abbrev pub row_text : Text → Text
row_text rest = Next (While 21 (local 6) row_turn) rest

abbrev pub column_end : Text → Text
column_end rest =
    Next (If 27 false (Binary And (local 5) (Literal 16384)) (text_of (Let 28 (Local 5) (Literal 1) ∷ adds 29 0 1 ∷ [])) End)
    (Next (doubles 30 3) (Next (counts_down 31 7) rest))

abbrev pub rows_loop : ℕ → Text
rows_loop place = row_text (column_end (columns_loop place))

abbrev pub clear_turn : Text
clear_turn = text_of (Store 12 (local 1) (Literal 0) (Binary And (Load (local 1) (Literal 0)) (local 2)) ∷ adds 13 1 32 ∷ counts_down 14 6 ∷ [])

abbrev pub clear_text : Text → Text
clear_text rest = Next (While 11 (local 6) clear_turn) rest

abbrev pub clear_loop : ℕ → Text
clear_loop place = clear_text (Next (Let 15 (Local 5) (Literal 1)) (Next (Let 16 (Local 7) (Literal 5)) (columns_loop place)))

-- after the choice of the code
abbrev pub glyph_text : ℕ → ℕ → ℕ → Text
glyph_text font place right =
    Next (Let 3 (Local 0) (Binary Plus (Binary Plus (Binary Plus (static font) (argument 0)) (argument 0)) (argument 0)))
    (Next (Let 4 (Local 2) (Unary Complement (Literal 255)))
    (Next (Let 5 (Local 3) (Literal 1))
    (Next (If 6 false (static right) (text_of (Let 7 (Local 2) (Literal 255) ∷ Let 8 (Local 3) (Literal 256) ∷ [])) End)
    (Next (Let 9 (Local 1) (static place))
    (Next (Let 10 (Local 6) (Literal 11)) (clear_loop place))))))

abbrev pub draw_body : ℕ → ℕ → ℕ → Text
draw_body font place right =
    Next (If 1 false (Binary Or (Binary Less (argument 0) (Literal 32)) (Binary Greater (argument 0) (Literal 126))) (text_of (Let 2 (Argument 0) (Literal 127) ∷ [])) End)
    (glyph_text font place right)

-- ---- Output: where the cursor goes

abbrev pub line_body : ℕ → ℕ → Text
line_body place right =
    text_of (
    Let 1 (Static place) (Binary Plus (Binary And (static place) (Unary Complement (Literal 31))) (Literal 352))
    ∷ Let 2 (Static right) (Literal 0)
    ∷ If 3 false (Binary Greater (static place) (Literal 24479)) (text_of (Let 4 (Static place) (Literal 16384) ∷ [])) End
    ∷ Return 5 (Literal 0)
    ∷ []
    )

-- (place & 31) = 31
abbrev is_last_word : ℕ → Expression
is_last_word place = Binary Equal (Binary And (static place) (Literal 31)) (Literal 31)

abbrev pub back_body : ℕ → ℕ → ℕ → Text
back_body draw place right =
    text_of (
    If 1 true (static right) (text_of (Let 2 (Static right) (Literal 0) ∷ []))
    (text_of (
    If 3 false (Binary Greater (static place) (Literal 16384))
    (text_of (
    Let 4 (Static right) (Literal 65535)
    ∷ Let 5 (Static place) (Binary Subtract (static place) (Literal 1))
    ∷ If 6 false (is_last_word place) (text_of (Let 7 (Static place) (Binary Subtract (static place) (Literal 320)) ∷ [])) End
    ∷ []
    )) End
    ∷ []
    ))
    ∷ Do 8 (Call draw (More (Literal 32) NoMore))
    ∷ Return 9 (Literal 0)
    ∷ []
    )

-- after the drawing of a character
abbrev pub moves_on : ℕ → ℕ → ℕ → Text
moves_on line place right =
    text_of (
    Let 6 (Static right) (Unary Complement (static right))
    ∷ If 7 false (Unary Complement (static right))
    (text_of (
    If 8 true (is_last_word place) (text_of (Do 9 (Call line NoMore) ∷ [])) (text_of (Let 10 (Static place) (Binary Plus (static place) (Literal 1)) ∷ []))
    ∷ []
    )) End
    ∷ Return 11 (Literal 0)
    ∷ []
    )

abbrev pub print_body : ℕ → ℕ → ℕ → ℕ → ℕ → Text
print_body line back draw place right =
    text_of (
    If 1 true (Binary Equal (argument 0) (Literal 128)) (text_of (Do 2 (Call line NoMore) ∷ []))
    (text_of (
    If 3 true (Binary Equal (argument 0) (Literal 129)) (text_of (Do 4 (Call back NoMore) ∷ []))
    (text_of (
    Do 5 (Call draw (More (argument 0) NoMore))
    ∷ Let 6 (Static right) (Unary Complement (static right))
    ∷ If 7 false (Unary Complement (static right))
    (text_of (
    If 8 true (is_last_word place) (text_of (Do 9 (Call line NoMore) ∷ [])) (text_of (Let 10 (Static place) (Binary Plus (static place) (Literal 1)) ∷ []))
    ∷ []
    )) End
    ∷ []
    ))
    ∷ []
    ))
    ∷ Return 11 (Literal 0)
    ∷ []
    )

-- ---- Output: a number printed

abbrev digit_of : ℕ → Expression → ℕ → Expression
digit_of digit rest unit = Call digit (More (argument 0) (More rest (More (Literal unit) NoMore)))

abbrev pub int_body : ℕ → ℕ → Text
int_body print digit =
    text_of (
    If 1 true (Binary Less (argument 0) (Literal 0)) (text_of (Do 2 (Call print (More (Literal 45) NoMore)) ∷ [])) (text_of (Let 3 (Argument 0) (Unary Minus (argument 0)) ∷ []))
    ∷ Let 4 (Local 0) (digit_of digit (argument 0) 10000)
    ∷ Let 5 (Local 0) (digit_of digit (local 0) 1000)
    ∷ Let 6 (Local 0) (digit_of digit (local 0) 100)
    ∷ Let 7 (Local 0) (digit_of digit (local 0) 10)
    ∷ Do 8 (Call print (More (Binary Subtract (Literal 48) (local 0)) NoMore))
    ∷ Return 9 (Literal 0)
    ∷ []
    )

-- rest > -unit
abbrev is_smaller : Expression → Expression
is_smaller rest = Binary Greater rest (Unary Minus (argument 2))

abbrev digit_turn : Text
digit_turn = text_of (Let 5 (Argument 1) (Binary Plus (argument 1) (argument 2)) ∷ adds 6 0 1 ∷ [])

abbrev pub digit_loop : ℕ → Text
digit_loop print = text_of (While 4 (Unary Complement (is_smaller (argument 1))) digit_turn ∷ Do 7 (Call print (More (local 0) NoMore)) ∷ Return 8 (argument 1) ∷ [])

abbrev pub digit_body : ℕ → Text
digit_body print = Next (If 1 false (is_smaller (argument 0)) (text_of (Return 2 (argument 1) ∷ [])) End) (Next (Let 3 (Local 0) (Literal 48)) (digit_loop print))

-- ---- Sys

abbrev pub halt_loop : Text
halt_loop = text_of (While 1 (Literal 65535) End ∷ [])

abbrev pub halt_body : Text
halt_body = text_of (While 1 (Literal 65535) End ∷ Return 2 (Literal 0) ∷ [])

abbrev prints : ℕ → ℕ → ℕ → Statement
prints n print c = Do n (Call print (More (Literal c) NoMore))

abbrev pub sys_error_body : ℕ → ℕ → ℕ → Text
sys_error_body print int halt =
    text_of (prints 1 print 69 ∷ prints 2 print 82 ∷ prints 3 print 82 ∷ Do 4 (Call int (More (argument 0) NoMore)) ∷ Do 5 (Call halt NoMore) ∷ Return 6 (Literal 0) ∷ [])
