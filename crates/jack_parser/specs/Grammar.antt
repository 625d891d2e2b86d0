-- The grammar of Jack (book, chapter 10, figure 10.5).
use Rattle.std.specs.Prelude.{ℕ, ◌+◌, ◌-◌, Bool, true, false, List, [], Result, Ok, Err, if◌then◌else◌, nat_le, nat_lt, min, take, drop, length, ◌==◌, ◌||◌}
use denote.Enum.Bare.{sameb}
use Rattle.scan_text.specs.declared.Place.{Place}
use Rattle.grammar.specs.declared.Fault.{Fault}
use Rattle.grammar.specs.declared.Fault.TheVariants.{Range}
use Rattle.grammar.specs.Rules.{Rule, mark, word, seq, choice, option, repeat, name, within, end, Rules}
use Rattle.jack_tree.specs.contracts.token.Keyword.{the_type}
use Rattle.jack_tree.specs.declared.token.Keyword.{Keyword}
use Rattle.jack_tree.specs.declared.token.Keyword.TheVariants as keyword
use Rattle.jack_tree.specs.declared.token.Kind.{Kind}
use Rattle.jack_tree.specs.declared.token.Kind.TheVariants as kind
use Rattle.jack_tree.specs.Tokens.{Word}
use Rattle.jack_parser.specs.declared.counts.Counted.{Counted}
use Rattle.jack_parser.specs.declared.counts.Counted.TheVariants as counted
use Rattle.jack_parser.specs.declared.counts.Counts.{Counts}

-- What a token says: what it is, and where its place matters that place too, with the text of a name or a string.
pub data Said : Type 0 where
  Fixed : Kind → Said
  Placed : Kind → List ℕ → Place → Said

abbrev pub fixed_word : Word → Said
fixed_word t = Fixed t.kind

abbrev pub placed_word : Word → Said
placed_word t = Placed t.kind [] t.place

abbrev pub named_word : Word → Said
named_word t = Placed kind.Identifier t.text t.place

-- what is between the quotes of a string
abbrev pub without_quotes : List ℕ → List ℕ
without_quotes text = take (length text - 2) (drop 1 text)

abbrev pub keyword_said : Keyword → Place → Said
keyword_said keyword.This at = Placed (kind.Keyword keyword.This) [] at
keyword_said k at = Fixed (kind.Keyword k)

abbrev pub constant_by : Kind → List ℕ → Place → Said
constant_by (kind.Keyword k) text at = keyword_said k at
constant_by (kind.Symbol b) text at = Fixed (kind.Symbol b)
constant_by (kind.Integer n) text at = Fixed (kind.Integer n)
constant_by kind.Text text at = Placed kind.Text (without_quotes text) at
constant_by kind.Identifier text at = Placed kind.Identifier text at

abbrev pub constant_said : Word → Said
constant_said t = constant_by t.kind t.text t.place

abbrev pub sign_is : ℕ → Kind → Bool
sign_is b (kind.Symbol c) = c == b
sign_is b k = false

abbrev pub is_symbol : ℕ → Word → Bool
is_symbol b t = sign_is b t.kind

abbrev pub keyword_is : Keyword → Kind → Bool
keyword_is k (kind.Keyword j) = sameb the_type j k
keyword_is k j = false

abbrev pub is_keyword : Keyword → Word → Bool
is_keyword k t = keyword_is k t.kind

abbrev pub names : Kind → Bool
names kind.Identifier = true
names k = false

abbrev pub is_identifier : Word → Bool
is_identifier t = names t.kind

-- true, false, null, this
abbrev pub is_value : Keyword → Bool
is_value keyword.True = true
is_value keyword.False = true
is_value keyword.Null = true
is_value keyword.This = true
is_value k = false

abbrev pub stands_for : Kind → Bool
stands_for (kind.Keyword k) = is_value k
stands_for (kind.Integer n) = true
stands_for kind.Text = true
stands_for k = false

-- an integer, a string, or a keyword that is a value
abbrev pub is_constant : Word → Bool
is_constant t = stands_for t.kind

abbrev pub any_sign : (ℕ → Bool) → Kind → Bool
any_sign is (kind.Symbol c) = is c
any_sign is k = false

-- + - * / & | < > =
abbrev pub is_operator : ℕ → Bool
is_operator b = b == 43 || b == 45 || b == 42 || b == 47 || b == 38 || b == 124 || b == 60 || b == 62 || b == 61

-- - ~, and ^ #, which are not the book's
abbrev pub is_unary : ℕ → Bool
is_unary b = b == 45 || b == 126 || b == 94 || b == 35

abbrev pub operates : Word → Bool
operates t = any_sign is_operator t.kind

abbrev pub negates : Word → Bool
negates t = any_sign is_unary t.kind

-- What is counted: the nesting, and statics and fields in a class, parameters and locals in a subroutine, arguments in a call.
-- Here none of them so far, at this nesting.
abbrev pub fresh : ℕ → Counts
fresh n = record { nesting = n; statics = 0; fields = 0; parameters = 0; locals = 0; arguments = 0 }

abbrev pub so_many : Counted → Counts → ℕ
so_many counted.Static s = s.statics
so_many counted.Field s = s.fields
so_many counted.Parameter s = s.parameters
so_many counted.Local s = s.locals
so_many counted.Argument s = s.arguments

abbrev pub one_more : Counted → Counts → Counts
one_more counted.Static s = record s { statics = s.statics + 1 }
one_more counted.Field s = record s { fields = s.fields + 1 }
one_more counted.Parameter s = record s { parameters = s.parameters + 1 }
one_more counted.Local s = record s { locals = s.locals + 1 }
one_more counted.Argument s = record s { arguments = s.arguments + 1 }

-- at most 16,384 of each
abbrev pub count : Counted → Counts → Place → Result Counts Fault
count x s at = if nat_le 16384 (so_many x s) then Err (Range at 16385) else Ok (one_more x s)

-- a token that is not counted
abbrev pub free : Counts → Word → Result Counts Fault
free s t = Ok s

abbrev pub string_size : Kind → List ℕ → ℕ
string_size kind.Text text = length (without_quotes text)
string_size k text = 0

-- a string has at most 16,384 bytes
abbrev pub check_constant : Counts → Word → Result Counts Fault
check_constant s t = let size = string_size t.kind t.text in if nat_lt 16384 size then Err (Range t.place (min size 1000000000)) else Ok s

-- at most 256 levels, each with counts of its own
abbrev pub deeper : Counts → Place → Result Counts Fault
deeper s at = if nat_le 256 s.nesting then Err (Range at 257) else Ok (fresh (s.nesting + 1))

abbrev pub anew : Counts → Place → Result Counts Fault
anew s at = Ok (fresh s.nesting)

-- what is counted after a part: what was before it, or what is at its end
abbrev pub back : Counts → Counts → Counts
back outer inner = outer

abbrev pub onward : Counts → Counts → Counts
onward outer inner = inner

abbrev pub types : Keyword → Bool
types keyword.Int = true
types keyword.Char = true
types keyword.Boolean = true
types k = false

abbrev pub returns : Keyword → Bool
returns keyword.Void = true
returns k = types k

abbrev pub forms : Keyword → Bool
forms keyword.Constructor = true
forms keyword.Function = true
forms keyword.Method = true
forms k = false

abbrev pub any_keyword : (Keyword → Bool) → Bool → Kind → Bool
any_keyword is named_word (kind.Keyword k) = is k
any_keyword is named_word kind.Identifier = named_word
any_keyword is named_word k = false

-- int, char, boolean, or the name of a class
abbrev pub is_type : Word → Bool
is_type t = any_keyword types true t.kind

-- the same, or void
abbrev pub is_result : Word → Bool
is_result t = any_keyword returns true t.kind

abbrev pub is_scope : Word → Bool
is_scope t = is_keyword keyword.Static t || is_keyword keyword.Field t

abbrev pub is_form : Word → Bool
is_form t = any_keyword forms false t.kind

abbrev pub type_by : Kind → List ℕ → Place → Said
type_by kind.Identifier text at = Placed kind.Identifier text at
type_by k text at = Fixed k

abbrev pub type_said : Word → Said
type_said t = type_by t.kind t.text t.place

pub data Part : Type 0 where
  expression : Part
  term : Part
  statement : Part

abbrev pub JackRule : Type 0
JackRule = Rule Word Counts Part Said

abbrev pub symbol_of : ℕ → JackRule
symbol_of b = mark (Fixed (kind.Symbol b)) (is_symbol b)

-- a symbol whose place is kept
abbrev pub symbol_at : ℕ → JackRule
symbol_at b = word (is_symbol b) free placed_word

abbrev pub keyword_of : Keyword → JackRule
keyword_of k = mark (Fixed (kind.Keyword k)) (is_keyword k)

-- a keyword whose place is kept
abbrev pub key : Keyword → JackRule
key k = word (is_keyword k) free placed_word

abbrev pub identifier : JackRule
identifier = word is_identifier free named_word

-- a name that is counted
abbrev pub counted_name : Counted → JackRule
counted_name x = word is_identifier (λ s t. count x s t.place) named_word

abbrev pub constant : JackRule
constant = word is_constant check_constant constant_said

abbrev pub operator : JackRule
operator = word operates free placed_word

abbrev pub unary : JackRule
unary = word negates free fixed_word

abbrev pub nested_rule : JackRule → JackRule
nested_rule r = within deeper back r

-- a part with counts of its own
abbrev pub own : JackRule → JackRule
own r = within anew back r

-- '[' exp ']'
abbrev pub subscript : JackRule
subscript = seq (symbol_of 91) (seq (nested_rule (name expression)) (symbol_of 93))

-- '(' exp ')'
abbrev pub group : JackRule
group = seq (symbol_of 40) (seq (nested_rule (name expression)) (symbol_of 41))

-- an argument counts at its first token
abbrev pub argument : JackRule
argument = within (count counted.Argument) onward (name expression)

-- , exp
abbrev pub next_argument : JackRule
next_argument = seq (symbol_of 44) argument

-- exp (, exp)*
abbrev pub argument_list : JackRule
argument_list = seq argument (repeat next_argument)

-- [exp (, exp)*]
abbrev pub arguments : JackRule
arguments = option (nested_rule argument_list)

-- '(' arguments ')'
abbrev pub call : JackRule
call = seq (symbol_of 40) (seq arguments (symbol_of 41))

-- . name '(' arguments ')'
abbrev pub through : JackRule
through = seq (symbol_of 46) (seq identifier call)

-- what makes a name a call
abbrev pub invocation_rule : JackRule
invocation_rule = choice call through

-- name ['[' exp ']' | call]
abbrev pub variable : JackRule
variable = seq identifier (option (choice subscript invocation_rule))

-- op term
abbrev pub operation : JackRule
operation = seq operator (name term)

-- unary term
abbrev pub negation : JackRule
negation = seq unary (nested_rule (name term))

-- { stmt* }
abbrev pub block : JackRule
block = seq (symbol_of 123) (seq (repeat (name statement)) (symbol_of 125))

-- let name ['[' exp ']'] = exp ;
abbrev pub let_rule : JackRule
let_rule = seq (key keyword.Let) (seq identifier (seq (option subscript) (seq (symbol_of 61) (seq (name expression) (symbol_of 59)))))

-- else { stmt* }
abbrev pub else_rule : JackRule
else_rule = seq (keyword_of keyword.Else) block

-- if ( exp ) { stmt* } [else { stmt* }]
abbrev pub if_rule : JackRule
if_rule = seq (key keyword.If) (seq group (seq block (option else_rule)))

-- while ( exp ) { stmt* }
abbrev pub while_rule : JackRule
while_rule = seq (key keyword.While) (seq group block)

-- do call ;
abbrev pub do_rule : JackRule
do_rule = seq (key keyword.Do) (seq identifier (seq invocation_rule (symbol_of 59)))

-- return [exp] ;
abbrev pub return_rule : JackRule
return_rule = seq (key keyword.Return) (seq (option (name expression)) (symbol_of 59))

-- name (, name)*
abbrev pub next_name : Counted → JackRule
next_name x = seq (symbol_of 44) (counted_name x)

abbrev pub names_rule : Counted → JackRule
names_rule x = seq (counted_name x) (repeat (next_name x))

abbrev pub type_rule : JackRule
type_rule = word is_type free type_said

abbrev pub result_rule : JackRule
result_rule = word is_result free type_said

-- a keyword, type name (, name)* ;
abbrev pub declaration : Keyword → Counted → JackRule
declaration k x = seq (keyword_of k) (seq type_rule (seq (names_rule x) (symbol_of 59)))

-- (static|field) type name (, name)* ;
abbrev pub class_variables : JackRule
class_variables = choice (declaration keyword.Static counted.Static) (declaration keyword.Field counted.Field)

-- var type name (, name)* ;
abbrev pub locals_rule : JackRule
locals_rule = declaration keyword.Var counted.Local

-- [type name (, type name)*]
abbrev pub parameter : JackRule
parameter = seq type_rule (counted_name counted.Parameter)

abbrev pub next_parameter : JackRule
next_parameter = seq (symbol_of 44) parameter

abbrev pub parameter_list : JackRule
parameter_list = seq parameter (repeat next_parameter)

abbrev pub parameters : JackRule
parameters = option parameter_list

-- (constructor|function|method) (void|type) name ( parameters ) { locals* stmt* }
abbrev pub form_rule : JackRule
form_rule = word is_form free fixed_word

abbrev pub subroutine_parts : JackRule
subroutine_parts = seq form_rule (seq result_rule (seq identifier (seq (symbol_of 40) (seq parameters (seq (symbol_of 41) (seq (symbol_of 123) (seq (repeat locals_rule) (seq (repeat (name statement)) (symbol_at 125)))))))))

-- a subroutine counts its own parameters and locals
abbrev pub subroutine : JackRule
subroutine = own subroutine_parts

-- class name { variables* subroutines* }
abbrev pub class_rule : JackRule
class_rule = seq (keyword_of keyword.Class) (seq identifier (seq (symbol_of 123) (seq (repeat class_variables) (seq (repeat subroutine) (symbol_of 125)))))

-- a class, and nothing after it
abbrev pub whole : JackRule
whole = seq class_rule end

abbrev pub any_statement : JackRule
any_statement = choice let_rule (choice if_rule (choice while_rule (choice do_rule return_rule)))

abbrev pub rule_of : Part → JackRule
-- exp = term (op term)*
rule_of expression = seq (name term) (repeat operation)
-- term = constant | name ['[' exp ']' | call] | '(' exp ')' | unary term
rule_of term = choice constant (choice variable (choice group negation))
-- a statement is one level round all its tokens
rule_of statement = nested_rule any_statement

abbrev pub term_opens : Word → Bool
term_opens t = is_constant t || (is_identifier t || (is_symbol 40 t || negates t))

abbrev pub statement_opens : Word → Bool
statement_opens t = is_keyword keyword.Let t || (is_keyword keyword.If t || (is_keyword keyword.While t || (is_keyword keyword.Do t || is_keyword keyword.Return t)))

abbrev pub opens : Part → Word → Bool
opens expression t = term_opens t
opens term t = term_opens t
opens statement t = statement_opens t

-- The grammar, for a text that ends at this place. At one place Grammar comes before Range, and a count before the length of a string.
abbrev pub jack : Place → Rules Word Counts Part Said
jack ending = record { body = rule_of; opens = opens; place = λ t. t.place; ending = ending }
