-- How a class is spelled: the tokens of each form of abstract syntax, one line a form (book, chapter 10, figure 10.5).
use Rattle.std.specs.Prelude.{◌≡◌, ℕ, List, [], ◌∷◌, ◌++◌, Option, Some, None, codes, map}
use Rattle.std.specs.List.{flat_map}
use Rattle.scan_text.specs.declared.Place.{Place}
use Rattle.jack_tree.specs.declared.token.Keyword.{Keyword}
use Rattle.jack_tree.specs.declared.token.Keyword.TheVariants as keyword
use Rattle.jack_tree.specs.declared.token.Kind.{Kind}
use Rattle.jack_tree.specs.declared.token.Kind.TheVariants as kind
use Rattle.jack_tree.specs.Tokens.{Word}
use Rattle.jack_tree.specs.Syntax.{Name, Operator, Plus, Minus, Times, Divide, And, Or, Less, Greater, Equal, Sign, Negate, Not, ShiftLeft, ShiftRight, Constant, Integer, String, True, False, Null, This, Expression, Terms, Operations, NoOperation, Then, Term, Value, Variable, Element, Called, Group, Unary, Call, Calls, Expressions, NoExpression, More, Statement, Let, If, IfElse, While, Do, Return, Statements, End, Next, ValueType, Int, Char, Boolean, Object, Names, Scope, Static, Field, ClassVariables, Locals, Parameter, Form, Constructor, Function, Method, Subroutine, Class}
use Rattle.jack_parser.specs.Grammar.{Said, Fixed, Placed, without_quotes}

-- ---- What a token says: Fixed its kind (which decides a keyword, a symbol and an integer), Placed its text and its place
-- too.

abbrev pub Tokens : Type 0
Tokens = List Said

-- one after the other
infixr 30 ◌·◌
abbrev pub ◌·◌ : Tokens → Tokens → Tokens
a · b = a ++ b

abbrev pub key : Keyword → Tokens
key k = Fixed (kind.Keyword k) ∷ []

-- a keyword whose place is kept
abbrev pub key_at : Keyword → Place → Tokens
key_at k at = Placed (kind.Keyword k) [] at ∷ []

-- symbols of one byte each
abbrev pub symbol : List ℕ → Tokens
symbol bytes = map (λ b. Fixed (kind.Symbol b)) bytes

-- a symbol whose place is kept
abbrev pub symbol_at : List ℕ → Place → Tokens
symbol_at bytes at = map (λ b. Placed (kind.Symbol b) [] at) bytes

abbrev pub name : Name → Tokens
name n = Placed kind.Identifier n.text n.place ∷ []

-- the text that an identifier or a string has
abbrev pub text_by : Kind → List ℕ → List ℕ
text_by kind.Identifier text = text
text_by kind.Text text = without_quotes text
text_by k text = []

-- The token of a text says this.
abbrev pub Says : Word → Said → Type 0
Says t (Fixed k) = t.kind ≡ k
Says t (Placed k text at) = (t.kind ≡ k) × (text_by t.kind t.text ≡ text) × (t.place ≡ at)

-- These tokens of a text say that, one by one.
abbrev pub Say : List Word → Tokens → Type 0
Say [] [] = Unit {0}
Say (t ∷ ts) (v ∷ vs) = Says t v × Say ts vs
Say [] (v ∷ vs) = ⊥
Say (t ∷ ts) [] = ⊥

-- ---- Expressions

abbrev pub operator_text : Operator → List ℕ
operator_text Plus = codes "+"
operator_text Minus = codes "-"
operator_text Times = codes "*"
operator_text Divide = codes "/"
operator_text And = codes "&"
operator_text Or = codes "|"
operator_text Less = codes "<"
operator_text Greater = codes ">"
operator_text Equal = codes "="

-- an operator's place is kept
abbrev pub operator_tokens : Operator → Place → Tokens
operator_tokens o at = symbol_at (operator_text o) at

abbrev pub sign_tokens : Sign → Tokens
sign_tokens Negate = symbol (codes "-")
sign_tokens Not = symbol (codes "~")
sign_tokens ShiftLeft = symbol (codes "^")
sign_tokens ShiftRight = symbol (codes "#")

abbrev pub constant_tokens : Constant → Tokens
constant_tokens (Integer n) = Fixed (kind.Integer n) ∷ []
constant_tokens (String s) = Placed kind.Text s.text s.place ∷ []
constant_tokens True = key keyword.True
constant_tokens False = key keyword.False
constant_tokens Null = key keyword.Null
constant_tokens (This at) = key_at keyword.This at

abbrev mutual
  pub expression_tokens : Expression → Tokens
  expression_tokens (Terms t os) = term_tokens t · operations_tokens os

  pub operations_tokens : Operations → Tokens
  operations_tokens NoOperation = []
  operations_tokens (Then o at t os) = operator_tokens o at · term_tokens t · operations_tokens os

  pub term_tokens : Term → Tokens
  term_tokens (Value c) = constant_tokens c
  term_tokens (Variable x) = name x
  term_tokens (Element x e) = name x · symbol (codes "[") · expression_tokens e · symbol (codes "]")
  term_tokens (Called c) = call_tokens c
  term_tokens (Group e) = symbol (codes "(") · expression_tokens e · symbol (codes ")")
  term_tokens (Unary s t) = sign_tokens s · term_tokens t

  pub call_tokens : Call → Tokens
  call_tokens (Calls None f es) = name f · symbol (codes "(") · arguments_tokens es · symbol (codes ")")
  call_tokens (Calls (Some o) f es) = name o · symbol (codes ".") · name f · symbol (codes "(") · arguments_tokens es · symbol (codes ")")

  pub arguments_tokens : Expressions → Tokens
  arguments_tokens NoExpression = []
  arguments_tokens (More e es) = expression_tokens e · further_tokens es

  -- the arguments after the first
  pub further_tokens : Expressions → Tokens
  further_tokens NoExpression = []
  further_tokens (More e es) = symbol (codes ",") · expression_tokens e · further_tokens es

-- ---- Statements

abbrev pub index_tokens : Option Expression → Tokens
index_tokens None = []
index_tokens (Some e) = symbol (codes "[") · expression_tokens e · symbol (codes "]")

abbrev pub value_tokens : Option Expression → Tokens
value_tokens None = []
value_tokens (Some e) = expression_tokens e

abbrev pub condition_tokens : Expression → Tokens
condition_tokens e = symbol (codes "(") · expression_tokens e · symbol (codes ")")

-- what stands in braces
abbrev pub in_braces : Tokens → Tokens
in_braces ts = symbol (codes "{") · ts · symbol (codes "}")

abbrev mutual
  pub statement_tokens : Statement → Tokens
  statement_tokens (Let at x i e) = key_at keyword.Let at · name x · index_tokens i · symbol (codes "=") · expression_tokens e · symbol (codes ";")
  statement_tokens (If at e body) = key_at keyword.If at · condition_tokens e · in_braces (statements_tokens body)
  statement_tokens (IfElse at e body other) = key_at keyword.If at · condition_tokens e · in_braces (statements_tokens body) · key keyword.Else · in_braces (statements_tokens other)
  statement_tokens (While at e body) = key_at keyword.While at · condition_tokens e · in_braces (statements_tokens body)
  statement_tokens (Do at c) = key_at keyword.Do at · call_tokens c · symbol (codes ";")
  statement_tokens (Return at v) = key_at keyword.Return at · value_tokens v · symbol (codes ";")

  pub statements_tokens : Statements → Tokens
  statements_tokens End = []
  statements_tokens (Next s ss) = statement_tokens s · statements_tokens ss

-- ---- Declarations

abbrev pub type_tokens : ValueType → Tokens
type_tokens Int = key keyword.Int
type_tokens Char = key keyword.Char
type_tokens Boolean = key keyword.Boolean
type_tokens (Object n) = name n

abbrev pub result_tokens : Option ValueType → Tokens
result_tokens None = key keyword.Void
result_tokens (Some t) = type_tokens t

abbrev pub names_tokens : Names → Tokens
names_tokens ns = name ns.first · flat_map (λ n. symbol (codes ",") · name n) ns.more

abbrev pub scope_tokens : Scope → Tokens
scope_tokens Static = key keyword.Static
scope_tokens Field = key keyword.Field

abbrev pub variables_tokens : ClassVariables → Tokens
variables_tokens v = scope_tokens v.scope · type_tokens v.type · names_tokens v.names · symbol (codes ";")

abbrev pub locals_tokens : Locals → Tokens
locals_tokens v = key keyword.Var · type_tokens v.type · names_tokens v.names · symbol (codes ";")

abbrev pub parameter_tokens : Parameter → Tokens
parameter_tokens p = type_tokens p.type · name p.name

abbrev pub parameters_tokens : List Parameter → Tokens
parameters_tokens [] = []
parameters_tokens (p ∷ ps) = parameter_tokens p · flat_map (λ q. symbol (codes ",") · parameter_tokens q) ps

abbrev pub form_tokens : Form → Tokens
form_tokens Constructor = key keyword.Constructor
form_tokens Function = key keyword.Function
form_tokens Method = key keyword.Method

abbrev pub subroutine_tokens : Subroutine → Tokens
subroutine_tokens s =
    form_tokens s.form · result_tokens s.result · name s.name · symbol (codes "(") · parameters_tokens s.parameters · symbol (codes ")")
    · symbol (codes "{") · flat_map locals_tokens s.locals · statements_tokens s.statements · symbol_at (codes "}") s.close

abbrev pub class_tokens : Class → Tokens
class_tokens c =
    key keyword.Class · name c.name · symbol (codes "{") · flat_map variables_tokens c.variables · flat_map subroutine_tokens c.subroutines
    · symbol (codes "}")
