-- The grammar of assembly: labels `(L)`, addresses `@n` and `@s`, and computations `dest=comp;jump`, one or none a line. (The book,
-- chapters 4 and 6.)
use Rattle.std.specs.Prelude.{ℕ, Bool, true, false, List, Result, Ok, ◌==◌, ◌||◌, ◌&&◌}
use Rattle.scan_text.specs.declared.Place.{Place}
use Rattle.grammar.specs.declared.Fault.{Fault}
use Rattle.grammar.specs.Rules.{Rule, mark, word, seq, choice, option, repeat, end, Rules}
use Rattle.hack_asm.specs.Tokens.{Word, ends_line}
use Rattle.hack_asm.specs.declared.token.Kind.{Kind}
use Rattle.hack_asm.specs.declared.token.Kind.TheVariants as kind
use Rattle.hack_asm.specs.declared.token.Letter.{Letter}
use Rattle.hack_asm.specs.declared.token.Letter.TheVariants.{Zero, One, A, D, M}
use Rattle.hack_asm.specs.declared.token.Operator.{Operator}
use Rattle.hack_asm.specs.declared.token.Operator.TheVariants.{Plus, Minus, And, Or}
use Rattle.hack_asm.specs.declared.token.Role.{Role}
use Rattle.hack_asm.specs.declared.token.Role.TheVariants as role

-- what a token says
pub data Said : Type 0 where
  Sign : ℕ → Said
  LineEnd : Said
  Letter' : Letter → Said
  Operator' : Operator → Said
  Several : ℕ → Said
  Jump : ℕ → Said
  Shift' : Bool → Said
  Number : ℕ → Said
  Name : List ℕ → Place → Said

-- the tests of a token

abbrev pub sign_is : ℕ → Kind → Bool
sign_is b (kind.Sign c) = c == b
sign_is b _ = false

abbrev pub is_sign : ℕ → Word → Bool
is_sign b t = sign_is b t.kind

abbrev pub number_kind : Kind → Bool
number_kind (kind.Number n) = true
number_kind _ = false

abbrev pub is_number : Word → Bool
is_number t = number_kind t.kind

abbrev pub symbol_kind : Kind → Bool
symbol_kind kind.Symbol = true
symbol_kind _ = false

abbrev pub is_symbol : Word → Bool
is_symbol t = symbol_kind t.kind

abbrev pub is_line_end : Word → Bool
is_line_end t = ends_line t.kind

abbrev pub several_role : Role → Bool
several_role (role.Several n) = true
several_role _ = false

abbrev pub is_several : Word → Bool
is_several t = several_role t.role

abbrev pub jump_role : Role → Bool
jump_role (role.Jump n) = true
jump_role _ = false

abbrev pub is_jump : Word → Bool
is_jump t = jump_role t.role

-- the token is a letter or an operator for which this holds
abbrev pub letter_role : (Letter → Bool) → Role → Bool
letter_role p (role.Letter x) = p x
letter_role p _ = false

abbrev pub is_letter : (Letter → Bool) → Word → Bool
is_letter p t = letter_role p t.role

abbrev pub operator_role : (Operator → Bool) → Role → Bool
operator_role p (role.Operator op) = p op
operator_role p _ = false

abbrev pub is_operator : (Operator → Bool) → Word → Bool
is_operator p t = operator_role p t.role

abbrev pub shift_role : Role → Bool
shift_role (role.Shift left) = true
shift_role _ = false

-- what they say

abbrev pub number_said : Kind → Said
number_said (kind.Number n) = Number n
number_said _ = LineEnd

abbrev pub role_said : Role → Said
role_said (role.Letter x) = Letter' x
role_said (role.Operator op) = Operator' op
role_said (role.Several bits) = Several bits
role_said (role.Jump bits) = Jump bits
role_said (role.Shift left) = Shift' left
role_said role.Plain = LineEnd

abbrev pub number : Word → Said
number t = number_said t.kind

abbrev pub word_meaning : Word → Said
word_meaning t = role_said t.role

abbrev pub name : Word → Said
name t = Name t.text t.place

-- letters

abbrev pub is_zero : Letter → Bool
is_zero Zero = true
is_zero _ = false

abbrev pub is_one : Letter → Bool
is_one One = true
is_one _ = false

abbrev pub is_a : Letter → Bool
is_a A = true
is_a _ = false

abbrev pub is_d : Letter → Bool
is_d D = true
is_d _ = false

abbrev pub is_m : Letter → Bool
is_m M = true
is_m _ = false

abbrev pub is_register : Letter → Bool
is_register x = is_a x || is_d x || is_m x

abbrev pub is_not_zero : Letter → Bool
is_not_zero x = is_one x || is_register x

-- The operators that may stand after a letter: `+` and `-`, and `&` and `|`. After 1 there may be `+` only, and after 0 none.
abbrev pub adds : Letter → Operator → Bool
adds Zero op = false
adds One Plus = true
adds One _ = false
adds _ Plus = true
adds _ Minus = true
adds _ And = false
adds _ Or = false

abbrev pub meets : Letter → Operator → Bool
meets Zero op = false
meets One op = false
meets _ Plus = false
meets _ Minus = false
meets _ And = true
meets _ Or = true

-- The letters that may stand after `&` or `|`, by the letter before: D joins A or M, and A and M join D.
abbrev pub joins : Letter → Letter → Bool
joins D y = is_a y || is_m y
joins A y = is_d y
joins M y = is_d y
joins _ y = false

-- The letters that may stand after `+` or `-`: those and 1; after `1+` each register.
abbrev pub sums : Letter → Letter → Bool
sums Zero y = false
sums One y = is_register y
sums x y = is_one y || joins x y

-- rules

abbrev pub Part : Type 0
Part = Rule Word (Unit {0}) (Unit {0}) Said

-- nothing is counted, and no token is past a limit
abbrev pub free : Unit {0} → Word → Result (Unit {0}) Fault
free s t = Ok s

abbrev pub sign : ℕ → Part
sign b = mark (Sign b) (is_sign b)

abbrev pub line_end : Part
line_end = mark LineEnd is_line_end

abbrev pub symbol : Part
symbol = word is_symbol free name

-- this letter
abbrev pub is : Letter → Letter → Bool
is Zero = is_zero
is One = is_one
is A = is_a
is D = is_d
is M = is_m

abbrev pub letter : Letter → Part
letter x = mark (Letter' x) (is_letter (is x))

-- a letter for which this holds
abbrev pub some_letter : (Letter → Bool) → Part
some_letter p = word (is_letter p) free word_meaning

-- what may stand after a letter: an operator and a letter
abbrev pub operation : Letter → Part
operation x = choice
    (seq (word (is_operator (adds x)) free word_meaning) (some_letter (sums x)))
    (seq (word (is_operator (meets x)) free word_meaning) (some_letter (joins x)))

-- a shift of a register, which is not the book's
abbrev pub shifts : Letter → Word → Bool
shifts x t = is_register x && shift_role t.role

abbrev pub shift : Letter → Part
shift x = word (shifts x) free word_meaning

-- what may stand after the first letter of a computation
abbrev pub behind : Letter → Part
behind x = choice (operation x) (shift x)

-- one of the letters, and what stands after it
abbrev pub by_letter : (Letter → Part) → Part → Part
by_letter rest other =
    choice (seq (letter Zero) (rest Zero))
    (choice (seq (letter One) (rest One))
    (choice (seq (letter A) (rest A))
    (choice (seq (letter D) (rest D))
    (choice (seq (letter M) (rest M))
    other))))

-- `-` and a letter, or `!` and a register
abbrev pub unary : Part
unary = choice (seq (sign 45) (some_letter is_not_zero)) (seq (sign 33) (some_letter is_register))

abbrev pub maybe_behind : Letter → Part
maybe_behind x = option (behind x)

abbrev pub comp : Part
comp = by_letter maybe_behind unary

-- a register may be the destination
abbrev pub assigns : Letter → Word → Bool
assigns x t = is_register x && is_sign 61 t

abbrev pub assignment : Letter → Part
assignment x = seq (mark (Sign 61) (assigns x)) comp

abbrev pub after_letter : Letter → Part
after_letter x = option (choice (assignment x) (behind x))

-- a computation, with or without its destination: which it is shows only after the first letter
abbrev pub assignment_part : Part
assignment_part = choice (seq (word is_several free word_meaning) (seq (sign 61) comp)) (by_letter after_letter unary)

abbrev pub jump : Part
jump = seq (sign 59) (word is_jump free word_meaning)

abbrev pub compute : Part
compute = seq assignment_part (option jump)

abbrev pub address : Part
address = seq (sign 64) (choice (word is_number free number) symbol)

abbrev pub label : Part
label = seq (sign 40) (seq symbol (sign 41))

abbrev pub instruction : Part
instruction = choice address compute

abbrev pub content : Part
content = choice label instruction

abbrev pub line : Part
line = choice line_end (seq content line_end)

abbrev pub lines : Part
lines = repeat line

abbrev pub whole : Part
whole = seq lines end

-- the grammar, for a text that ends at this place; it has one name, which no rule uses
abbrev pub assembly : Place → Rules Word (Unit {0}) (Unit {0}) Said
assembly ending = record { body = λ n. sign 40; opens = λ n t. is_sign 40 t; place = λ t. t.place; ending = ending }
