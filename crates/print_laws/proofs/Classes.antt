-- Statements and classes whose tokens a text has, with the places of the text.
use Rattle.std.proofs.Common.{List, [], ◌∷◌, Option, Some, None, refl, map}
use Rattle.scan_text.specs.declared.Place.{Place}
use Rattle.jack_tree.specs.declared.token.Keyword.TheVariants as keyword
use Rattle.jack_tree.specs.declared.token.Kind.TheVariants as kind
use Rattle.jack_tree.specs.Syntax.{Name, Expression, Call, Statement, Let, If, IfElse, While, Do, Return, Statements, End, Next, ValueType, Int, Char, Boolean, Object, Names, Scope, Static, Field, ClassVariables, Locals, Parameter, Form, Constructor, Function, Method, Subroutine, Class}
use Rattle.jack_parser.specs.Grammar.{Fixed}
use Rattle.jack_parser.specs.Spelling.{Tokens, name, statement_tokens, statements_tokens, type_tokens, result_tokens, names_tokens, scope_tokens, variables_tokens, locals_tokens, parameter_tokens, parameters_tokens, form_tokens, subroutine_tokens, class_tokens}
use Rattle.print_laws.specs.Unplaced.{unplaced_name, unplaced_statement, unplaced_statements, unplaced_type, unplaced_result, unplaced_names, unplaced_variables, unplaced_locals, unplaced_parameter, unplaced_subroutine, unplaced_class}
use Rattle.print_laws.proofs.Moves.{Moves, still, fixed, nothing, placed, both, through, before, after, all}
use Rattle.print_laws.proofs.Expressions.{name_moves, expression_moves, call_moves, index_moves, value_moves}

-- ---- statements

mutual
  statement_moves : (s : Statement) → Moves statement_tokens unplaced_statement s
  statement_moves (Let at x i e) =
      through {tb = statement_tokens} {ub = unplaced_statement} (λ (p : Place × (Name × (Option Expression × Expression))). Let p.0 p.1.0 p.1.1.0 p.1.1.1) (λ p. refl) (λ p. refl)
      (both (placed (kind.Keyword keyword.Let) [] at) (both (name_moves x) (both (index_moves i) (before (kind.Symbol 61) (after (kind.Symbol 59) (expression_moves e))))))
  statement_moves (If at e body) =
      through {tb = statement_tokens} {ub = unplaced_statement} (λ (p : Place × (Expression × Statements)). If p.0 p.1.0 p.1.1) (λ p. refl) (λ p. refl)
      (both (placed (kind.Keyword keyword.If) [] at)
      (both (before (kind.Symbol 40) (after (kind.Symbol 41) (expression_moves e))) (before (kind.Symbol 123) (after (kind.Symbol 125) (statements_moves body)))))
  statement_moves (IfElse at e body other) =
      through {tb = statement_tokens} {ub = unplaced_statement} (λ (p : Place × (Expression × (Statements × Statements))). IfElse p.0 p.1.0 p.1.1.0 p.1.1.1) (λ p. refl) (λ p. refl)
      (both (placed (kind.Keyword keyword.If) [] at)
      (both (before (kind.Symbol 40) (after (kind.Symbol 41) (expression_moves e)))
      (both (before (kind.Symbol 123) (after (kind.Symbol 125) (statements_moves body)))
      (before (kind.Keyword keyword.Else) (before (kind.Symbol 123) (after (kind.Symbol 125) (statements_moves other)))))))
  statement_moves (While at e body) =
      through {tb = statement_tokens} {ub = unplaced_statement} (λ (p : Place × (Expression × Statements)). While p.0 p.1.0 p.1.1) (λ p. refl) (λ p. refl)
      (both (placed (kind.Keyword keyword.While) [] at)
      (both (before (kind.Symbol 40) (after (kind.Symbol 41) (expression_moves e))) (before (kind.Symbol 123) (after (kind.Symbol 125) (statements_moves body)))))
  statement_moves (Do at c) =
      through {tb = statement_tokens} {ub = unplaced_statement} (λ (p : Place × Call). Do p.0 p.1) (λ p. refl) (λ p. refl)
      (both (placed (kind.Keyword keyword.Do) [] at) (after (kind.Symbol 59) (call_moves c)))
  statement_moves (Return at v) =
      through {tb = statement_tokens} {ub = unplaced_statement} (λ (p : Place × Option Expression). Return p.0 p.1) (λ p. refl) (λ p. refl)
      (both (placed (kind.Keyword keyword.Return) [] at) (after (kind.Symbol 59) (value_moves v)))

  statements_moves : (ss : Statements) → Moves statements_tokens unplaced_statements ss
  statements_moves End = through {tb = statements_tokens} {ub = unplaced_statements} (λ (u : Unit {0}). End) (λ u. refl) (λ u. refl) nothing
  statements_moves (Next s ss) =
      through {tb = statements_tokens} {ub = unplaced_statements} (λ (p : Statement × Statements). Next p.0 p.1) (λ p. refl) (λ p. refl) (both (statement_moves s) (statements_moves ss))

-- ---- declarations

type_moves : (t : ValueType) → Moves type_tokens unplaced_type t
type_moves Int = through {tb = type_tokens} {ub = unplaced_type} (λ (u : Unit {0}). Int) (λ u. refl) (λ u. refl) (fixed (kind.Keyword keyword.Int))
type_moves Char = through {tb = type_tokens} {ub = unplaced_type} (λ (u : Unit {0}). Char) (λ u. refl) (λ u. refl) (fixed (kind.Keyword keyword.Char))
type_moves Boolean = through {tb = type_tokens} {ub = unplaced_type} (λ (u : Unit {0}). Boolean) (λ u. refl) (λ u. refl) (fixed (kind.Keyword keyword.Boolean))
type_moves (Object n) = through {tb = type_tokens} {ub = unplaced_type} Object (λ n. refl) (λ n. refl) (name_moves n)

result_moves : (t : Option ValueType) → Moves result_tokens unplaced_result t
result_moves None = through {tb = result_tokens} {ub = unplaced_result} (λ (u : Unit {0}). None) (λ u. refl) (λ u. refl) (fixed (kind.Keyword keyword.Void))
result_moves (Some t) = through {tb = result_tokens} {ub = unplaced_result} Some (λ t. refl) (λ t. refl) (type_moves t)

abbrev next_name : Name → Tokens
next_name n = Fixed (kind.Symbol 44) ∷ name n

next_name_moves : (n : Name) → Moves next_name unplaced_name n
next_name_moves n = before (kind.Symbol 44) (name_moves n)

names_moves : (ns : Names) → Moves names_tokens unplaced_names ns
names_moves ns =
    through {tb = names_tokens} {ub = unplaced_names} (λ (p : Name × List Name). record { first = p.0; more = p.1 }) (λ p. refl) (λ p. refl)
    (both (name_moves ns.first) (all next_name unplaced_name next_name_moves ns.more))

scope_moves : (s : Scope) → Moves (λ (u : Unit {0}). scope_tokens s) still tt
scope_moves Static = fixed (kind.Keyword keyword.Static)
scope_moves Field = fixed (kind.Keyword keyword.Field)

variables_moves : (v : ClassVariables) → Moves variables_tokens unplaced_variables v
variables_moves v =
    through {tb = variables_tokens} {ub = unplaced_variables} (λ (p : Unit {0} × (ValueType × Names)). record { scope = v.scope; type = p.1.0; names = p.1.1 }) (λ p. refl) (λ p. refl)
    (both (scope_moves v.scope) (both (type_moves v.type) (after (kind.Symbol 59) (names_moves v.names))))

locals_moves : (v : Locals) → Moves locals_tokens unplaced_locals v
locals_moves v =
    through {tb = locals_tokens} {ub = unplaced_locals} (λ (p : ValueType × Names). record { type = p.0; names = p.1 }) (λ p. refl) (λ p. refl)
    (before (kind.Keyword keyword.Var) (both (type_moves v.type) (after (kind.Symbol 59) (names_moves v.names))))

parameter_moves : (p : Parameter) → Moves parameter_tokens unplaced_parameter p
parameter_moves p =
    through {tb = parameter_tokens} {ub = unplaced_parameter} (λ (q : ValueType × Name). record { type = q.0; name = q.1 }) (λ q. refl) (λ q. refl) (both (type_moves p.type) (name_moves p.name))

abbrev next_parameter : Parameter → Tokens
next_parameter p = Fixed (kind.Symbol 44) ∷ parameter_tokens p

next_parameter_moves : (p : Parameter) → Moves next_parameter unplaced_parameter p
next_parameter_moves p = before (kind.Symbol 44) (parameter_moves p)

parameters_moves : (ps : List Parameter) → Moves parameters_tokens (map unplaced_parameter) ps
parameters_moves [] = through {tb = parameters_tokens} {ub = map unplaced_parameter} (λ (u : Unit {0}). []) (λ u. refl) (λ u. refl) nothing
parameters_moves (p ∷ ps) =
    through {tb = parameters_tokens} {ub = map unplaced_parameter} (λ (q : Parameter × List Parameter). q.0 ∷ q.1) (λ q. refl) (λ q. refl)
    (both (parameter_moves p) (all next_parameter unplaced_parameter next_parameter_moves ps))

form_moves : (f : Form) → Moves (λ (u : Unit {0}). form_tokens f) still tt
form_moves Constructor = fixed (kind.Keyword keyword.Constructor)
form_moves Function = fixed (kind.Keyword keyword.Function)
form_moves Method = fixed (kind.Keyword keyword.Method)

abbrev Parts : Type 0
Parts = Unit {0} × (Option ValueType × (Name × (List Parameter × (List Locals × (Statements × Place)))))

abbrev made : Form → Parts → Subroutine
made f p = record { form = f; result = p.1.0; name = p.1.1.0; parameters = p.1.1.1.0; locals = p.1.1.1.1.0; statements = p.1.1.1.1.1.0; close = p.1.1.1.1.1.1 }

subroutine_moves : (s : Subroutine) → Moves subroutine_tokens unplaced_subroutine s
subroutine_moves s =
    through {tb = subroutine_tokens} {ub = unplaced_subroutine} (made s.form) (λ p. refl) (λ p. refl)
    (both (form_moves s.form) (both (result_moves s.result) (both (name_moves s.name)
    (before (kind.Symbol 40) (both (parameters_moves s.parameters) (before (kind.Symbol 41) (before (kind.Symbol 123)
    (both (all locals_tokens unplaced_locals locals_moves s.locals) (both (statements_moves s.statements) (placed (kind.Symbol 125) [] s.close))))))))))

pub class_moves : (c : Class) → Moves class_tokens unplaced_class c
class_moves c =
    through {tb = class_tokens} {ub = unplaced_class} (λ (p : Name × (List ClassVariables × List Subroutine)). record { name = p.0; variables = p.1.0; subroutines = p.1.1 }) (λ p. refl) (λ p. refl)
    (before (kind.Keyword keyword.Class) (both (name_moves c.name) (before (kind.Symbol 123)
    (both (all variables_tokens unplaced_variables variables_moves c.variables) (after (kind.Symbol 125) (all subroutine_tokens unplaced_subroutine subroutine_moves c.subroutines))))))
