-- The grammar of HDL (book, appendix 2).
use Rattle.std.specs.Prelude.{ℕ, Bool, true, false, List, Result, Ok, Err, if◌then◌else◌, nat_lt, min, ◌==◌}
use denote.Enum.Bare.{sameb}
use Rattle.scan_text.specs.declared.Place.{Place}
use Rattle.grammar.specs.declared.Fault.{Fault}
use Rattle.grammar.specs.declared.Fault.TheVariants.{Grammar, Range}
use Rattle.grammar.specs.Rules.{Rule, mark, word, seq, choice, option, repeat, within, end, Rules}
use Rattle.hdl_parser.specs.contracts.token.Keyword.{the_type}
use Rattle.hdl_parser.specs.declared.token.Keyword.{Keyword}
use Rattle.hdl_parser.specs.declared.token.Keyword.TheVariants as keyword
use Rattle.hdl_parser.specs.declared.token.Kind.{Kind}
use Rattle.hdl_parser.specs.declared.token.Kind.TheVariants as kind
use Rattle.hdl_parser.specs.Tokens.{Word}

-- What a token says: of a name its text, and else what it is.
pub data Said : Type 0 where
  Fixed : Kind → Said
  Text : List ℕ → Said

abbrev pub fixed_word : Word → Said
fixed_word t = Fixed t.kind

abbrev pub named_word : Word → Said
named_word t = Text t.text

abbrev pub sign_is : ℕ → Kind → Bool
sign_is b (kind.Symbol c) = c == b
sign_is b k = false

abbrev pub is_symbol : ℕ → Word → Bool
is_symbol b t = sign_is b t.kind

abbrev pub keyword_is : Keyword → Kind → Bool
keyword_is k (kind.Keyword j) = sameb the_type j k
keyword_is k j = false

abbrev pub is_keyword : Keyword → Word → Bool
is_keyword k t = keyword_is k t.kind

abbrev pub is_dotted : Kind → Bool
is_dotted kind.Dots = true
is_dotted k = false

abbrev pub is_dots : Word → Bool
is_dots t = is_dotted t.kind

abbrev pub names : Kind → Bool
names kind.Name = true
names k = false

abbrev pub is_name : Word → Bool
is_name t = names t.kind

abbrev pub counts : Kind → Bool
counts (kind.Number n) = true
counts k = false

abbrev pub is_number : Word → Bool
is_number t = counts t.kind

abbrev pub truths : Keyword → Bool
truths keyword.True = true
truths keyword.False = true
truths k = false

abbrev pub stands_for : Kind → Bool
stands_for (kind.Keyword k) = truths k
stands_for k = false

-- true, false
abbrev pub is_constant : Word → Bool
is_constant t = stands_for t.kind

abbrev pub value_of : Kind → ℕ
value_of (kind.Number n) = n
value_of k = 0

-- Numbers. What is counted is the number of a subscript that stands before `..`; outside of a subscript it is 0.

abbrev pub free : ℕ → Word → Result ℕ Fault
free least t = Ok least

-- the number of this place is past its limit; a value over 1,000,000,000 is given as that
abbrev pub too_large : Place → ℕ → Fault
too_large at n = Range at (min n 1000000000)

-- a width is at most 16
abbrev pub check_width : ℕ → Word → Result ℕ Fault
check_width least t = if nat_lt 16 (value_of t.kind) then Err (too_large t.place (value_of t.kind)) else Ok least

-- an index is at most 15
abbrev pub check_index : ℕ → Word → Result ℕ Fault
check_index least t = if nat_lt 15 (value_of t.kind) then Err (too_large t.place (value_of t.kind)) else Ok (value_of t.kind)

-- the index after `..` is not below that before it
abbrev pub check_last : ℕ → Word → Result ℕ Fault
check_last least t =
    if nat_lt 15 (value_of t.kind) then Err (too_large t.place (value_of t.kind))
    else (if nat_lt (value_of t.kind) least then Err (Grammar t.place) else Ok least)

-- rules

abbrev pub HdlRule : Type 0
HdlRule = Rule Word ℕ (Unit {0}) Said

abbrev pub symbol_of : ℕ → HdlRule
symbol_of b = mark (Fixed (kind.Symbol b)) (is_symbol b)

abbrev pub keyword_of : Keyword → HdlRule
keyword_of k = mark (Fixed (kind.Keyword k)) (is_keyword k)

abbrev pub dots : HdlRule
dots = mark (Fixed kind.Dots) is_dots

abbrev pub name : HdlRule
name = word is_name free named_word

abbrev pub width : HdlRule
width = word is_number check_width fixed_word

abbrev pub index : HdlRule
index = word is_number check_index fixed_word

abbrev pub last_index : HdlRule
last_index = word is_number check_last fixed_word

abbrev pub constant : HdlRule
constant = word is_constant free fixed_word

-- one or more, with commas between them
abbrev pub next_of : HdlRule → HdlRule
next_of a = seq (symbol_of 44) a

abbrev pub row : HdlRule → HdlRule
row a = seq a (repeat (next_of a))

-- '[' width ']'
abbrev pub width_rule : HdlRule
width_rule = seq (symbol_of 91) (seq width (symbol_of 93))

-- name ['[' width ']']
abbrev pub pin : HdlRule
pin = seq name (option width_rule)

-- .. index
abbrev pub last : HdlRule
last = seq dots last_index

-- index [.. index]
abbrev pub range : HdlRule
range = seq index (option last)

-- what was counted before a part is counted after it again
abbrev pub anew : ℕ → Place → Result ℕ Fault
anew least at = Ok 0

abbrev pub back : ℕ → ℕ → ℕ
back outer inner = outer

abbrev pub indices : HdlRule
indices = within anew back range

-- '[' index [.. index] ']'
abbrev pub subscript : HdlRule
subscript = seq (symbol_of 91) (seq indices (symbol_of 93))

-- name [subscript]
abbrev pub selection : HdlRule
selection = seq name (option subscript)

-- name [subscript], true, false
abbrev pub source : HdlRule
source = choice selection constant

-- name [subscript] = source
abbrev pub connection : HdlRule
connection = seq selection (seq (symbol_of 61) source)

-- name ( connection (, connection)* ) ;
abbrev pub part : HdlRule
part = seq name (seq (symbol_of 40) (seq (row connection) (seq (symbol_of 41) (symbol_of 59))))

-- PARTS : part*
abbrev pub parts : HdlRule
parts = seq (keyword_of keyword.Parts) (seq (symbol_of 58) (repeat part))

-- a keyword, and one or more of a kind up to a semicolon
abbrev pub listing : Keyword → HdlRule → HdlRule
listing k a = seq (keyword_of k) (seq (row a) (symbol_of 59))

-- BUILTIN name ; [CLOCKED name (, name)* ;]
abbrev pub builtin : HdlRule
builtin = seq (keyword_of keyword.Builtin) (seq name (seq (symbol_of 59) (option (listing keyword.Clocked name))))

abbrev pub body : HdlRule
body = choice parts builtin

-- [IN pin (, pin)* ;]
abbrev pub pins : Keyword → HdlRule
pins k = option (listing k pin)

-- CHIP name { [IN pins ;] [OUT pins ;] body }
abbrev pub chip : HdlRule
chip = seq (keyword_of keyword.Chip) (seq name (seq (symbol_of 123) (seq (pins keyword.In) (seq (pins keyword.Out) (seq body (symbol_of 125))))))

-- a chip, and nothing after it
abbrev pub whole : HdlRule
whole = seq chip end

-- the grammar, for a text that ends at this place; it has one name, which no rule uses
abbrev pub hdl : Place → Rules Word ℕ (Unit {0}) Said
hdl ending = record { body = λ n. symbol_of 59; opens = λ n t. is_symbol 59 t; place = λ t. t.place; ending = ending }
