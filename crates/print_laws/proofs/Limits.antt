-- Limits are kept wherever the tokens stand.
use Rattle.std.proofs.Common.{◌≡◌, ℕ, ◌+◌, ◌<◌, ◌≤◌, List, [], ◌∷◌, Option, Some, None, length, map, refl, sym, ap, subst}
use Rattle.std.proofs.lemmas.List.{length-map}
use Rattle.jack_tree.specs.Syntax.{Constant, Integer, String, True, False, Null, This, Expression, Terms, Operations, NoOperation, Then, Term, Value, Variable, Element, Called, Group, Unary, Call, Calls, Expressions, NoExpression, More, Statement, Let, If, IfElse, While, Do, Return, Statements, End, Next, Names, ClassVariables, Locals, Subroutine, Class}
use Rattle.jack_parser.specs.Limits.{IsShort, count_of, KeepsIn, OperationsKeepIn, TermKeepsIn, CallKeepsIn, ArgumentsKeepIn, ExpressionsKeepIn, IndexKeepsIn, ValueKeepsIn, PartsKeepIn, StatementsKeepIn, total, names_of, statics_by, fields_by, statics_in, fields_in, SubroutineKeeps, SubroutinesKeep, KeepsLimits}
use Rattle.print_laws.specs.Unplaced.{unplaced_name, unplaced_constant, unplaced_expression, unplaced_operations, unplaced_term, unplaced_call, unplaced_expressions, unplaced_value, unplaced_statement, unplaced_statements, unplaced_names, unplaced_variables, unplaced_locals, unplaced_subroutine, unplaced_class}

-- one claim is the other
abbrev Same : Type 0 → Type 0 → Type 1
Same P Q = P ≡ Q

constant_limits : (c : Constant) → Same (IsShort (unplaced_constant c)) (IsShort c)
constant_limits (Integer n) = refl
constant_limits (String s) = refl
constant_limits True = refl
constant_limits False = refl
constant_limits Null = refl
constant_limits (This at) = refl

so_many : (es : Expressions) → count_of (unplaced_expressions es) ≡ count_of es
so_many NoExpression = refl
so_many (More e es) = ap (λ k. 1 + k) (so_many es)

mutual
  expression_limits : (n : ℕ) (e : Expression) → Same (KeepsIn n (unplaced_expression e)) (KeepsIn n e)
  expression_limits n (Terms t os) = let p = term_limits n t in let q = operations_limits n os in λ i. p i × q i

  operations_limits : (n : ℕ) (os : Operations) → Same (OperationsKeepIn n (unplaced_operations os)) (OperationsKeepIn n os)
  operations_limits n NoOperation = refl
  operations_limits n (Then o at t os) = let p = term_limits n t in let q = operations_limits n os in λ i. p i × q i

  term_limits : (n : ℕ) (t : Term) → Same (TermKeepsIn n (unplaced_term t)) (TermKeepsIn n t)
  term_limits n (Value c) = constant_limits c
  term_limits n (Variable x) = refl
  term_limits n (Element x e) = let p = expression_limits (n + 1) e in λ i. (n < 256) × p i
  term_limits n (Called c) = call_limits n c
  term_limits n (Group e) = let p = expression_limits (n + 1) e in λ i. (n < 256) × p i
  term_limits n (Unary s t) = let p = term_limits (n + 1) t in λ i. (n < 256) × p i

  call_limits : (n : ℕ) (c : Call) → Same (CallKeepsIn n (unplaced_call c)) (CallKeepsIn n c)
  call_limits n (Calls o f es) = arguments_limits n es

  arguments_limits : (n : ℕ) (es : Expressions) → Same (ArgumentsKeepIn n (unplaced_expressions es)) (ArgumentsKeepIn n es)
  arguments_limits n NoExpression = refl
  arguments_limits n (More e es) =
      let p = expression_limits (n + 1) e in let q = expressions_limits (n + 1) es in let r = so_many es in λ i. (n < 256) × (1 + r i ≤ 16384) × p i × q i

  expressions_limits : (n : ℕ) (es : Expressions) → Same (ExpressionsKeepIn n (unplaced_expressions es)) (ExpressionsKeepIn n es)
  expressions_limits n NoExpression = refl
  expressions_limits n (More e es) = let p = expression_limits n e in let q = expressions_limits n es in λ i. p i × q i

index_limits : (n : ℕ) (v : Option Expression) → Same (IndexKeepsIn n (unplaced_value v)) (IndexKeepsIn n v)
index_limits n None = refl
index_limits n (Some e) = let p = expression_limits (n + 1) e in λ i. (n < 256) × p i

value_limits : (n : ℕ) (v : Option Expression) → Same (ValueKeepsIn n (unplaced_value v)) (ValueKeepsIn n v)
value_limits n None = refl
value_limits n (Some e) = expression_limits n e

mutual
  parts_limits : (n : ℕ) (s : Statement) → Same (PartsKeepIn n (unplaced_statement s)) (PartsKeepIn n s)
  parts_limits n (Let at x v e) = let p = index_limits n v in let q = expression_limits n e in λ i. p i × q i
  parts_limits n (If at e body) = let p = expression_limits (n + 1) e in let q = statements_limits n body in λ i. (n < 256) × p i × q i
  parts_limits n (IfElse at e body other) =
      let p = expression_limits (n + 1) e in let q = statements_limits n body in let r = statements_limits n other in λ i. (n < 256) × p i × q i × r i
  parts_limits n (While at e body) = let p = expression_limits (n + 1) e in let q = statements_limits n body in λ i. (n < 256) × p i × q i
  parts_limits n (Do at c) = call_limits n c
  parts_limits n (Return at v) = value_limits n v

  statements_limits : (n : ℕ) (ss : Statements) → Same (StatementsKeepIn n (unplaced_statements ss)) (StatementsKeepIn n ss)
  statements_limits n End = refl
  statements_limits n (Next s ss) = let p = parts_limits (n + 1) s in let q = statements_limits n ss in λ i. (n < 256) × p i × q i

-- ---- declarations

totals : {X : Type 0} (f : X → ℕ) (u : X → X) → ((x : X) → f (u x) ≡ f x) → (xs : List X) → total f (map u xs) ≡ total f xs
totals f u e [] = refl
totals f u e (x ∷ xs) = let p = e x in let q = totals f u e xs in λ i. p i + q i

so_many_names : (ns : Names) → names_of (unplaced_names ns) ≡ names_of ns
so_many_names ns = ap (λ k. 1 + k) (length-map ns.more unplaced_name)

pub so_many_statics : (v : ClassVariables) → statics_in (unplaced_variables v) ≡ statics_in v
so_many_statics v = ap (statics_by v.scope) (so_many_names v.names)

pub so_many_fields : (v : ClassVariables) → fields_in (unplaced_variables v) ≡ fields_in v
so_many_fields v = ap (fields_by v.scope) (so_many_names v.names)

abbrev locals_in : Locals → ℕ
locals_in v = names_of v.names

so_many_locals : (v : Locals) → locals_in (unplaced_locals v) ≡ locals_in v
so_many_locals v = so_many_names v.names

so_many_parameters : (s : Subroutine) → length (unplaced_subroutine s).parameters ≡ length s.parameters
so_many_parameters s = length-map s.parameters _

-- one claim where another stands that is the same
by : {P Q : Type 0} → Same P Q → P → Q
by e h = subst (λ (T : Type 0). T) e h

least : {a b : ℕ} → a ≡ b → a ≤ 16384 → b ≤ 16384
least e h = subst (λ n. n ≤ 16384) e h

subroutine_kept : (s : Subroutine) → SubroutineKeeps s → SubroutineKeeps (unplaced_subroutine s)
subroutine_kept s k = record {
  parameters = least (sym (so_many_parameters s)) k.parameters;
  locals = least (sym (totals locals_in unplaced_locals so_many_locals s.locals)) k.locals;
  statements = by (sym (statements_limits 0 s.statements)) k.statements;
}

subroutine_back : (s : Subroutine) → SubroutineKeeps (unplaced_subroutine s) → SubroutineKeeps s
subroutine_back s k = record {
  parameters = least (so_many_parameters s) k.parameters;
  locals = least (totals locals_in unplaced_locals so_many_locals s.locals) k.locals;
  statements = by (statements_limits 0 s.statements) k.statements;
}

subroutines_kept : (ss : List Subroutine) → SubroutinesKeep ss → SubroutinesKeep (map unplaced_subroutine ss)
subroutines_kept [] k = tt
subroutines_kept (s ∷ ss) k = (subroutine_kept s k.0, subroutines_kept ss k.1)

subroutines_back : (ss : List Subroutine) → SubroutinesKeep (map unplaced_subroutine ss) → SubroutinesKeep ss
subroutines_back [] k = tt
subroutines_back (s ∷ ss) k = (subroutine_back s k.0, subroutines_back ss k.1)

class_kept : (c : Class) → KeepsLimits c → KeepsLimits (unplaced_class c)
class_kept c k = record {
  statics = least (sym (totals statics_in unplaced_variables so_many_statics c.variables)) k.statics;
  fields = least (sym (totals fields_in unplaced_variables so_many_fields c.variables)) k.fields;
  subroutines = subroutines_kept c.subroutines k.subroutines;
}

class_back : (c : Class) → KeepsLimits (unplaced_class c) → KeepsLimits c
class_back c k = record {
  statics = least (totals statics_in unplaced_variables so_many_statics c.variables) k.statics;
  fields = least (totals fields_in unplaced_variables so_many_fields c.variables) k.fields;
  subroutines = subroutines_back c.subroutines k.subroutines;
}

-- what is equal but for places keeps the same limits
pub limits_moved : (c d : Class) → unplaced_class d ≡ unplaced_class c → KeepsLimits c → KeepsLimits d
limits_moved c d e k = class_back d (subst KeepsLimits (sym e) (class_kept c k))
