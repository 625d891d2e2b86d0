-- A class is no longer than some times its tokens, of which a text that spells it has at most 1,048,576.
use Rattle.std.proofs.Common.{◌≡◌, ℕ, suc, ◌+◌, ◌*◌, ◌≤◌, List, [], ◌∷◌, ◌++◌, Option, Some, None, length, codes, refl, ap, arith}
use Rattle.std.proofs.lemmas.List.{length-append}
use Rattle.std.specs.List.{flat_map}
use Rattle.scan_text.specs.declared.Place.{Place}
use Rattle.jack_tree.specs.Tokens.{Word}
use Rattle.jack_tree.specs.Syntax.{Name, Operator, Plus, Minus, Times, Divide, And, Or, Less, Greater, Equal, Sign, Negate, Not, ShiftLeft, ShiftRight, Constant, Integer, String, True, False, Null, This, Expression, Terms, Operations, NoOperation, Then, Term, Value, Variable, Element, Called, Group, Unary, Call, Calls, Expressions, NoExpression, More, Statement, Let, If, IfElse, While, Do, Return, Statements, End, Next, ValueType, Int, Char, Boolean, Object, ClassVariables, Locals, Parameter, Subroutine, Class}
use Rattle.jack_parser.specs.Limits.{IsShort, KeepsIn, OperationsKeepIn, TermKeepsIn, CallKeepsIn, ArgumentsKeepIn, ExpressionsKeepIn, IndexKeepsIn, ValueKeepsIn, PartsKeepIn, StatementsKeepIn, SubroutineKeeps, SubroutinesKeep, KeepsLimits}
use Rattle.jack_tree.specs.declared.token.Keyword.TheVariants as keyword
use Rattle.jack_parser.specs.Spelling.{Tokens, Say, key, name, symbol, symbol_at, condition_tokens, in_braces, operator_tokens, sign_tokens, constant_tokens, expression_tokens, operations_tokens, term_tokens, call_tokens, arguments_tokens, further_tokens, index_tokens, value_tokens, statement_tokens, statements_tokens, type_tokens, names_tokens, scope_tokens, form_tokens, result_tokens, variables_tokens, locals_tokens, parameter_tokens, parameters_tokens, subroutine_tokens, class_tokens}
use Rattle.jack_parser.specs.Spelled.{SpellsClass}
use Rattle.jack_names.specs.Lengths.{constant_length, expression_length, operations_length, term_length, call_length, arguments_length, value_length, statement_length, statements_length, total, variables_length, locals_length, subroutine_length, class_length}
use Rattle.tower.proofs.Words.{words_read}

operator_one : (o : Operator) (at : Place) → length (operator_tokens o at) ≡ 1
operator_one Plus at = refl
operator_one Minus at = refl
operator_one Times at = refl
operator_one Divide at = refl
operator_one And at = refl
operator_one Or at = refl
operator_one Less at = refl
operator_one Greater at = refl
operator_one Equal at = refl

sign_one : (o : Sign) → length (sign_tokens o) ≡ 1
sign_one Negate = refl
sign_one Not = refl
sign_one ShiftLeft = refl
sign_one ShiftRight = refl

constant_long : (c : Constant) → IsShort c → constant_length c ≤ 40000 * length (constant_tokens c)
constant_long (Integer n) h = omega arith
constant_long (String s) h = omega (arith, h)
constant_long True h = omega arith
constant_long False h = omega arith
constant_long Null h = omega arith
constant_long (This at) h = omega arith

-- tokens before others
closed : (ts vs : Tokens) → length (ts ++ vs) ≡ length ts + length vs
closed ts vs = length-append ts vs

condition_closed : (e : Expression) → length (condition_tokens e) ≡ 2 + length (expression_tokens e)
condition_closed e = let h = closed (expression_tokens e) (symbol (codes ")")) in omega (arith, h)

braces_closed : (ts : Tokens) → length (in_braces ts) ≡ 2 + length ts
braces_closed ts = let h = closed ts (symbol (codes "}")) in omega (arith, h)

mutual
  expression_long : (n : ℕ) (e : Expression) → KeepsIn n e → expression_length e ≤ 40000 * length (expression_tokens e)
  expression_long n (Terms t os) h =
      let p = term_long n t h.0 in
      let q = operations_long n os h.1 in
      omega (arith, p, q, closed (term_tokens t) (operations_tokens os))

  operations_long : (n : ℕ) (os : Operations) → OperationsKeepIn n os → operations_length os ≤ 40000 * length (operations_tokens os)
  operations_long n NoOperation h = omega arith
  operations_long n (Then o at t os) h =
      let p = term_long n t h.0 in
      let q = operations_long n os h.1 in
      omega (arith, p, q, operator_one o at, closed (operator_tokens o at) (term_tokens t ++ operations_tokens os), closed (term_tokens t) (operations_tokens os))

  term_long : (n : ℕ) (t : Term) → TermKeepsIn n t → term_length t ≤ 40000 * length (term_tokens t)
  term_long n (Value c) h = constant_long c h
  term_long n (Variable x) h = omega arith
  term_long n (Element x e) h = let p = expression_long (n + 1) e h.1 in omega (arith, p, closed (expression_tokens e) (symbol (codes "]")))
  term_long n (Called c) h = call_long n c h
  term_long n (Group e) h = let p = expression_long (n + 1) e h.1 in omega (arith, p, closed (expression_tokens e) (symbol (codes ")")))
  term_long n (Unary o t) h = let p = term_long (n + 1) t h.1 in omega (arith, p, sign_one o, closed (sign_tokens o) (term_tokens t))

  call_long : (n : ℕ) (c : Call) → CallKeepsIn n c → call_length c ≤ 40000 * length (call_tokens c)
  call_long n (Calls None f es) h = let p = arguments_long n es h in omega (arith, p, closed (arguments_tokens es) (symbol (codes ")")))
  call_long n (Calls (Some o) f es) h = let p = arguments_long n es h in omega (arith, p, closed (arguments_tokens es) (symbol (codes ")")))

  arguments_long : (n : ℕ) (es : Expressions) → ArgumentsKeepIn n es → arguments_length es ≤ 1 + 40000 * length (arguments_tokens es)
  arguments_long n NoExpression h = omega arith
  arguments_long n (More e es) h =
      let p = expression_long (n + 1) e h.2 in
      let q = further_long (n + 1) es h.3 in
      omega (arith, p, q, closed (expression_tokens e) (further_tokens es))

  further_long : (n : ℕ) (es : Expressions) → ExpressionsKeepIn n es → arguments_length es ≤ 40000 * length (further_tokens es)
  further_long n NoExpression h = omega arith
  further_long n (More e es) h =
      let p = expression_long n e h.0 in
      let q = further_long n es h.1 in
      omega (arith, p, q, closed (expression_tokens e) (further_tokens es))

index_long : (n : ℕ) (i : Option Expression) → IndexKeepsIn n i → value_length i ≤ 1 + 40000 * length (index_tokens i)
index_long n None h = omega arith
index_long n (Some e) h = let p = expression_long (n + 1) e h.1 in omega (arith, p, closed (expression_tokens e) (symbol (codes "]")))

value_long : (n : ℕ) (v : Option Expression) → ValueKeepsIn n v → value_length v ≤ 1 + 40000 * length (value_tokens v)
value_long n None h = omega arith
value_long n (Some e) h = let p = expression_long n e h in omega (arith, p)

mutual
  statement_long : (n : ℕ) (s : Statement) → PartsKeepIn n s → 1 + statement_length s ≤ 40000 * length (statement_tokens s)
  statement_long n (Let at x i e) h =
      let p = index_long n i h.0 in
      let q = expression_long n e h.1 in
      omega (arith, p, q, closed (index_tokens i) (symbol (codes "=") ++ (expression_tokens e ++ symbol (codes ";"))), closed (expression_tokens e) (symbol (codes ";")))
  statement_long n (If at e a) h =
      let p = expression_long (n + 1) e h.1 in
      let q = statements_long n a h.2 in
      omega (arith, p, q, condition_closed e, braces_closed (statements_tokens a), closed (condition_tokens e) (in_braces (statements_tokens a)))
  statement_long n (IfElse at e a b) h =
      let p = expression_long (n + 1) e h.1 in
      let q = statements_long n a h.2 in
      let r = statements_long n b h.3 in
      let last = in_braces (statements_tokens b) in
      omega (arith, p, q, r, condition_closed e, braces_closed (statements_tokens a), braces_closed (statements_tokens b), closed (condition_tokens e) (in_braces (statements_tokens a) ++ (key keyword.Else ++ last)), closed (in_braces (statements_tokens a)) (key keyword.Else ++ last))
  statement_long n (While at e a) h =
      let p = expression_long (n + 1) e h.1 in
      let q = statements_long n a h.2 in
      omega (arith, p, q, condition_closed e, braces_closed (statements_tokens a), closed (condition_tokens e) (in_braces (statements_tokens a)))
  statement_long n (Do at c) h = let p = call_long n c h in omega (arith, p, closed (call_tokens c) (symbol (codes ";")))
  statement_long n (Return at v) h = let p = value_long n v h in omega (arith, p, closed (value_tokens v) (symbol (codes ";")))

  statements_long : (n : ℕ) (ss : Statements) → StatementsKeepIn n ss → statements_length ss ≤ 40000 * length (statements_tokens ss)
  statements_long n End h = omega arith
  statements_long n (Next s ss) h =
      let p = statement_long (n + 1) s h.1 in
      let q = statements_long n ss h.2 in
      omega (arith, p, q, closed (statement_tokens s) (statements_tokens ss))

-- ---- declarations

type_one : (t : ValueType) → length (type_tokens t) ≡ 1
type_one Int = refl
type_one Char = refl
type_one Boolean = refl
type_one (Object n) = refl

more_long : (ns : List Name) → length ns ≤ length (flat_map (λ n. symbol (codes ",") ++ name n) ns)
more_long [] = omega arith
more_long (n ∷ ns) = let p = more_long ns in omega (arith, p)

variables_long : (v : ClassVariables) → 1 + variables_length v ≤ length (variables_tokens v)
variables_long v =
    let names = names_tokens v.names in
    let rest = type_tokens v.type ++ (names ++ symbol (codes ";")) in
    omega (arith, more_long v.names.more, type_one v.type, closed (scope_tokens v.scope) rest, closed (type_tokens v.type) (names ++ symbol (codes ";")), closed names (symbol (codes ";")))

locals_long : (v : Locals) → 1 + locals_length v ≤ length (locals_tokens v)
locals_long v =
    let names = names_tokens v.names in
    omega (arith, more_long v.names.more, type_one v.type, closed (type_tokens v.type) (names ++ symbol (codes ";")), closed names (symbol (codes ";")))

next_long : (ps : List Parameter) → length ps ≤ length (flat_map (λ q. symbol (codes ",") ++ parameter_tokens q) ps)
next_long [] = omega arith
next_long (p ∷ ps) =
    let h = next_long ps in
    omega (arith, h, closed (parameter_tokens p) (flat_map (λ q. symbol (codes ",") ++ parameter_tokens q) ps))

parameters_long : (ps : List Parameter) → length ps ≤ length (parameters_tokens ps)
parameters_long [] = omega arith
parameters_long (p ∷ ps) =
    let h = next_long ps in
    omega (arith, h, type_one p.type, closed (type_tokens p.type) (name p.name), closed (parameter_tokens p) (flat_map (λ q. symbol (codes ",") ++ parameter_tokens q) ps))

-- things of a list, each no longer than this many times its tokens
all_long : {A : Type 0} (size : A → ℕ) (tokens : A → Tokens) → ((x : A) → 1 + size x ≤ length (tokens x)) → (xs : List A) → total size xs ≤ length (flat_map tokens xs)
all_long size tokens h [] = omega arith
all_long size tokens h (x ∷ xs) = let p = all_long size tokens h xs in omega (arith, p, h x, closed (tokens x) (flat_map tokens xs))

subroutine_long : (s : Subroutine) → SubroutineKeeps s → 1 + subroutine_length s ≤ 40000 * length (subroutine_tokens s)
subroutine_long s h =
    let body = statements_tokens s.statements in
    let locals = flat_map locals_tokens s.locals in
    let last = body ++ symbol_at (codes "}") s.close in
    let inner = symbol (codes "{") ++ (locals ++ last) in
    let parameters = parameters_tokens s.parameters in
    let heads = symbol (codes "(") ++ (parameters ++ (symbol (codes ")") ++ inner)) in
    let titled = name s.name ++ heads in
    omega (
      arith,
      parameters_long s.parameters,
      all_long locals_length locals_tokens locals_long s.locals,
      statements_long 0 s.statements h.statements,
      closed (form_tokens s.form) (result_tokens s.result ++ titled),
      closed (result_tokens s.result) titled,
      closed parameters (symbol (codes ")") ++ inner),
      closed locals last,
      closed body (symbol_at (codes "}") s.close),
    )

subroutines_long : (ss : List Subroutine) → SubroutinesKeep ss → total subroutine_length ss ≤ 40000 * length (flat_map subroutine_tokens ss)
subroutines_long [] h = omega arith
subroutines_long (s ∷ ss) h =
    let p = subroutine_long s h.0 in
    let q = subroutines_long ss h.1 in
    omega (arith, p, q, closed (subroutine_tokens s) (flat_map subroutine_tokens ss))

class_long : (c : Class) → KeepsLimits c → class_length c ≤ 40000 * length (class_tokens c)
class_long c h =
    let variables = flat_map variables_tokens c.variables in
    let subroutines = flat_map subroutine_tokens c.subroutines in
    omega (
      arith,
      all_long variables_length variables_tokens variables_long c.variables,
      subroutines_long c.subroutines h.subroutines,
      closed variables (subroutines ++ symbol (codes "}")),
      closed subroutines (symbol (codes "}")),
    )

as_many : (ts : List Word) (vs : Tokens) → Say ts vs → length vs ≡ length ts
as_many [] [] h = refl
as_many [] (v ∷ vs) h = absurd h
as_many (t ∷ ts) [] h = absurd h
as_many (t ∷ ts) (v ∷ vs) h = ap suc (as_many ts vs h.1)

pub spelled_long : (text : List ℕ) (c : Class) → SpellsClass text c → class_length c ≤ 40000 * 1048576
spelled_long text c h =
    let few = (words_read text h.tokens h.cut).0 in
    omega (arith, few, as_many h.tokens (class_tokens c) h.say, class_long c h.limits)
