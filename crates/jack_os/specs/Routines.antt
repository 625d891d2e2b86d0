-- The five subroutines of the operating system that are made without a text: multiplication, division and the heap (book, chapter 12). Each stands
-- here as its abstract syntax, below the text that spells it.
use Rattle.std.specs.Prelude.{ℕ, List, [], ◌∷◌, Some, None, codes}
use Rattle.jack_tree.specs.Syntax.{Operator, Plus, Minus, And, Less, Greater, Equal, Negate, Not, Expression, Term, Group, Unary, Statement, Int, Locals, Parameter, Subroutine}
use Rattle.jack_os.specs.Made.{name_of, number, variable, element, alone, pair_of, three_of, let_variable, let_element, if_then, if_else, while_loop, do_call, return_value, return_nothing, array_type, locals_of, parameter, function_of}

-- Parts that are used several times.

abbrev pub name_expression : List ℕ → Expression
name_expression x = alone (variable x)

abbrev pub number_expression : ℕ → Expression
number_expression n = alone (number n)

-- `~(e)`
abbrev pub not_of : Expression → Expression
not_of e = alone (Unary Not (Group e))

-- `-x`
abbrev pub minus_of : List ℕ → Expression
minus_of x = alone (Unary Negate (variable x))

-- two variables with an operator, and a variable and a number
abbrev pub both : List ℕ → Operator → List ℕ → Expression
both x o y = pair_of (variable x) o (variable y)

abbrev pub against : List ℕ → Operator → ℕ → Expression
against x o n = pair_of (variable x) o (number n)

-- `let x = y;`, `let x = n;`
abbrev pub let_named : List ℕ → List ℕ → Statement
let_named x y = let_variable x (name_expression y)

abbrev pub let_number : List ℕ → ℕ → Statement
let_number x n = let_variable x (number_expression n)

-- `let x[i] = n;`, `let x[i] = y;`
abbrev pub let_word : List ℕ → ℕ → ℕ → Statement
let_word x i n = let_element x (number_expression i) (number_expression n)

abbrev pub let_link : List ℕ → ℕ → List ℕ → Statement
let_link x i y = let_element x (number_expression i) (name_expression y)

abbrev pub return_number : ℕ → Statement
return_number n = return_value (number_expression n)

abbrev pub return_named : List ℕ → Statement
return_named x = return_value (name_expression x)

-- `let x = x + x;`
abbrev pub double_statement : List ℕ → Statement
double_statement x = let_variable x (both x Plus x)

-- `let x = x + 1;`
abbrev pub one_more : List ℕ → Statement
one_more x = let_variable x (against x Plus 1)

-- `~(i = 16)`
abbrev pub before_sixteen : Expression
before_sixteen = not_of (against (codes "i") Equal 16)

-- `do Sys.error(n);`
abbrev pub error : ℕ → Statement
error n = do_call (codes "Sys") (codes "error") (number_expression n)

abbrev pub refuse : Expression → ℕ → Statement
refuse condition n = if_then condition (error n ∷ [])

-- the parameters (int x, int y)
abbrev pub two_numbers : List Parameter
two_numbers = parameter Int (codes "x") ∷ parameter Int (codes "y") ∷ []

-- function int multiply(int x, int y) {
--     var int sum, shifted, bit, i;
--     let shifted = x;
--     let bit = 1;
--     while (~(i = 16)) {
--         if (~((y & bit) = 0)) { let sum = sum + shifted; }
--         let shifted = shifted + shifted;
--         let bit = bit + bit;
--         let i = i + 1;
--     }
--     return sum;
-- }

-- `~((y & bit) = 0)`
abbrev pub has_bit : Expression
has_bit = not_of (pair_of (Group (both (codes "y") And (codes "bit"))) Equal (number 0))

abbrev pub multiply_step : List Statement
multiply_step =
    if_then has_bit (let_variable (codes "sum") (both (codes "sum") Plus (codes "shifted")) ∷ [])
    ∷ double_statement (codes "shifted")
    ∷ double_statement (codes "bit")
    ∷ one_more (codes "i")
    ∷ []

abbrev pub multiply_body : List Statement
multiply_body =
    let_named (codes "shifted") (codes "x")
    ∷ let_number (codes "bit") 1
    ∷ while_loop before_sixteen multiply_step
    ∷ return_named (codes "sum")
    ∷ []

abbrev pub multiply_locals : Locals
multiply_locals = locals_of Int (codes "sum") (name_of (codes "shifted") ∷ name_of (codes "bit") ∷ name_of (codes "i") ∷ [])

abbrev pub multiply : Subroutine
multiply = function_of (Some Int) (codes "multiply") two_numbers (multiply_locals ∷ []) multiply_body

-- function int divide(int x, int y) {
--     var int h, s, q, r, i;
--     if (y = 0) { do Sys.error(3); }
--     let h = ~32767;
--     if (x < 0) { let x = -x; let s = ~s; }
--     if (y < 0) { let y = -y; let s = ~s; }
--     while (~(i = 16)) {
--         let r = r + r;
--         let q = q + q;
--         if (x < 0) { let r = r + 1; }
--         let x = x + x;
--         if (~((r + h) < (y + h))) { let r = r - y; let q = q + 1; }
--         let i = i + 1;
--     }
--     if (s) { return -q; }
--     return q;
-- }

-- `let s = ~s;`
abbrev pub other_sign : Statement
other_sign = let_variable (codes "s") (alone (Unary Not (variable (codes "s"))))

-- `if (x < 0) { let x = -x; let s = ~s; }`
abbrev pub made_positive : List ℕ → Statement
made_positive x = if_then (against x Less 0) (let_variable x (minus_of x) ∷ other_sign ∷ [])

-- `(x + h)`
abbrev pub above_half : List ℕ → Term
above_half x = Group (both x Plus (codes "h"))

-- `~((r + h) < (y + h))`
abbrev pub is_enough : Expression
is_enough = not_of (pair_of (above_half (codes "r")) Less (above_half (codes "y")))

-- `let r = r - y;`
abbrev pub subtract : Statement
subtract = let_variable (codes "r") (both (codes "r") Minus (codes "y"))

abbrev pub divide_step : List Statement
divide_step =
    double_statement (codes "r")
    ∷ double_statement (codes "q")
    ∷ if_then (against (codes "x") Less 0) (one_more (codes "r") ∷ [])
    ∷ double_statement (codes "x")
    ∷ if_then is_enough (subtract ∷ one_more (codes "q") ∷ [])
    ∷ one_more (codes "i")
    ∷ []

abbrev pub divide_body : List Statement
divide_body =
    refuse (against (codes "y") Equal 0) 3
    ∷ let_variable (codes "h") (alone (Unary Not (number 32767)))
    ∷ made_positive (codes "x")
    ∷ made_positive (codes "y")
    ∷ while_loop before_sixteen divide_step
    ∷ if_then (name_expression (codes "s")) (return_value (minus_of (codes "q")) ∷ [])
    ∷ return_named (codes "q")
    ∷ []

abbrev pub divide_locals : Locals
divide_locals =
    locals_of Int (codes "h") (name_of (codes "s") ∷ name_of (codes "q") ∷ name_of (codes "r") ∷ name_of (codes "i") ∷ [])

abbrev pub divide : Subroutine
divide = function_of (Some Int) (codes "divide") two_numbers (divide_locals ∷ []) divide_body

-- function void init() {
--     var Array h;
--     let free = 2048;
--     let h = free;
--     let h[0] = 14336;
--     let h[1] = 0;
--     return;
-- }

abbrev pub init_body : List Statement
init_body =
    let_number (codes "free") 2048
    ∷ let_named (codes "h") (codes "free")
    ∷ let_word (codes "h") 0 14336
    ∷ let_word (codes "h") 1 0
    ∷ return_nothing
    ∷ []

abbrev pub init : Subroutine
init = function_of None (codes "init") [] (locals_of array_type (codes "h") [] ∷ []) init_body

-- function int alloc(int size) {
--     var Array c, p;
--     var int n;
--     if (size < 1) { do Sys.error(5); }
--     if (size > 14335) { do Sys.error(6); }
--     let n = size + 1;
--     let c = free;
--     while (~(c = 0)) {
--         if (~(c[0] < n)) {
--             if (c[0] - n < 2) {
--                 if (p = 0) { let free = c[1]; } else { let p[1] = c[1]; }
--                 return c + 1;
--             }
--             let c[0] = c[0] - n;
--             let c = c + c[0];
--             let c[0] = n;
--             return c + 1;
--         }
--         let p = c;
--         let c = c[1];
--     }
--     do Sys.error(6);
--     return 0;
-- }

-- `c[0]`
abbrev pub part_length : Term
part_length = element (codes "c") (number_expression 0)

-- `c[1]`
abbrev pub next_part : Expression
next_part = alone (element (codes "c") (number_expression 1))

-- `return c + 1;`
abbrev pub give_block : Statement
give_block = return_value (against (codes "c") Plus 1)

-- `c[0] - n < 2`
abbrev pub is_whole : Expression
is_whole = three_of part_length Minus (variable (codes "n")) Less (number 2)

-- `if (p = 0) { let free = c[1]; } else { let p[1] = c[1]; }`
abbrev pub unlink : Statement
unlink =
    if_else (against (codes "p") Equal 0)
    (let_variable (codes "free") next_part ∷ [])
    (let_element (codes "p") (number_expression 1) next_part ∷ [])

-- `~(c[0] < n)`
abbrev pub is_long : Expression
is_long = not_of (pair_of part_length Less (variable (codes "n")))

abbrev pub take_end : List Statement
take_end =
    if_then is_whole (unlink ∷ give_block ∷ [])
    ∷ let_element (codes "c") (number_expression 0) (pair_of part_length Minus (variable (codes "n")))
    ∷ let_variable (codes "c") (pair_of (variable (codes "c")) Plus part_length)
    ∷ let_link (codes "c") 0 (codes "n")
    ∷ give_block
    ∷ []

abbrev pub search_step : List Statement
search_step = if_then is_long take_end ∷ let_named (codes "p") (codes "c") ∷ let_variable (codes "c") next_part ∷ []

abbrev pub alloc_body : List Statement
alloc_body =
    refuse (against (codes "size") Less 1) 5
    ∷ refuse (against (codes "size") Greater 14335) 6
    ∷ let_variable (codes "n") (against (codes "size") Plus 1)
    ∷ let_named (codes "c") (codes "free")
    ∷ while_loop (not_of (against (codes "c") Equal 0)) search_step
    ∷ error 6
    ∷ return_number 0
    ∷ []

abbrev pub alloc_locals : List Locals
alloc_locals = locals_of array_type (codes "c") (name_of (codes "p") ∷ []) ∷ locals_of Int (codes "n") [] ∷ []

abbrev pub alloc : Subroutine
alloc = function_of (Some Int) (codes "alloc") (parameter Int (codes "size") ∷ []) alloc_locals alloc_body

-- function void deAlloc(Array o) {
--     let o = o - 1;
--     let o[1] = free;
--     let free = o;
--     return;
-- }

abbrev pub deAlloc_body : List Statement
deAlloc_body =
    let_variable (codes "o") (against (codes "o") Minus 1)
    ∷ let_link (codes "o") 1 (codes "free")
    ∷ let_named (codes "free") (codes "o")
    ∷ return_nothing
    ∷ []

abbrev pub deAlloc : Subroutine
deAlloc = function_of None (codes "deAlloc") (parameter array_type (codes "o") ∷ []) [] deAlloc_body
