-- Expressions whose tokens a text has, with the places of the text.
use Rattle.std.proofs.Common.{[], Option, Some, None, refl}
use Rattle.scan_text.specs.declared.Place.{Place}
use Rattle.scan_text.specs.Text.{start}
use Rattle.jack_tree.specs.declared.token.Keyword.TheVariants as keyword
use Rattle.jack_tree.specs.declared.token.Kind.TheVariants as kind
use Rattle.jack_tree.specs.Syntax.{Name, Operator, Plus, Minus, Times, Divide, And, Or, Less, Greater, Equal, Sign, Negate, Not, ShiftLeft, ShiftRight, Constant, Integer, String, True, False, Null, This, Expression, Terms, Operations, NoOperation, Then, Term, Value, Variable, Element, Called, Group, Unary, Call, Calls, Expressions, NoExpression, More}
use Rattle.jack_parser.specs.Spelling.{name, operator_tokens, sign_tokens, constant_tokens, expression_tokens, operations_tokens, term_tokens, call_tokens, arguments_tokens, further_tokens, index_tokens, value_tokens}
use Rattle.print_laws.specs.Unplaced.{unplaced_name, unplaced_constant, unplaced_expression, unplaced_operations, unplaced_term, unplaced_call, unplaced_expressions, unplaced_value}
use Rattle.print_laws.proofs.Moves.{Moves, still, fixed, nothing, placed, both, through, before, after}

-- an identifier, a string
pub name_moves : (n : Name) → Moves name unplaced_name n
name_moves n = through {tb = name} {ub = unplaced_name} (λ (at : Place). record { text = n.text; place = at }) (λ at. refl) (λ at. refl) (placed kind.Identifier n.text n.place)

operator_moves : (o : Operator) (at : Place) → Moves (operator_tokens o) (λ (p : Place). start) at
operator_moves Plus at = placed (kind.Symbol 43) [] at
operator_moves Minus at = placed (kind.Symbol 45) [] at
operator_moves Times at = placed (kind.Symbol 42) [] at
operator_moves Divide at = placed (kind.Symbol 47) [] at
operator_moves And at = placed (kind.Symbol 38) [] at
operator_moves Or at = placed (kind.Symbol 124) [] at
operator_moves Less at = placed (kind.Symbol 60) [] at
operator_moves Greater at = placed (kind.Symbol 62) [] at
operator_moves Equal at = placed (kind.Symbol 61) [] at

sign_moves : (s : Sign) → Moves (λ (u : Unit {0}). sign_tokens s) still tt
sign_moves Negate = fixed (kind.Symbol 45)
sign_moves Not = fixed (kind.Symbol 126)
sign_moves ShiftLeft = fixed (kind.Symbol 94)
sign_moves ShiftRight = fixed (kind.Symbol 35)

constant_moves : (c : Constant) → Moves constant_tokens unplaced_constant c
constant_moves (Integer n) = through {tb = constant_tokens} {ub = unplaced_constant} (λ (u : Unit {0}). Integer n) (λ u. refl) (λ u. refl) (fixed (kind.Integer n))
constant_moves (String s) = through {tb = constant_tokens} {ub = unplaced_constant} (λ (at : Place). String (record { text = s.text; place = at })) (λ at. refl) (λ at. refl) (placed kind.Text s.text s.place)
constant_moves True = through {tb = constant_tokens} {ub = unplaced_constant} (λ (u : Unit {0}). True) (λ u. refl) (λ u. refl) (fixed (kind.Keyword keyword.True))
constant_moves False = through {tb = constant_tokens} {ub = unplaced_constant} (λ (u : Unit {0}). False) (λ u. refl) (λ u. refl) (fixed (kind.Keyword keyword.False))
constant_moves Null = through {tb = constant_tokens} {ub = unplaced_constant} (λ (u : Unit {0}). Null) (λ u. refl) (λ u. refl) (fixed (kind.Keyword keyword.Null))
constant_moves (This at) = through {tb = constant_tokens} {ub = unplaced_constant} This (λ p. refl) (λ p. refl) (placed (kind.Keyword keyword.This) [] at)

mutual
  pub expression_moves : (e : Expression) → Moves expression_tokens unplaced_expression e
  expression_moves (Terms t os) =
      through {tb = expression_tokens} {ub = unplaced_expression} (λ (p : Term × Operations). Terms p.0 p.1) (λ p. refl) (λ p. refl) (both (term_moves t) (operations_moves os))

  operations_moves : (os : Operations) → Moves operations_tokens unplaced_operations os
  operations_moves NoOperation = through {tb = operations_tokens} {ub = unplaced_operations} (λ (u : Unit {0}). NoOperation) (λ u. refl) (λ u. refl) nothing
  operations_moves (Then o at t os) =
      through {tb = operations_tokens} {ub = unplaced_operations} (λ (p : Place × (Term × Operations)). Then o p.0 p.1.0 p.1.1) (λ p. refl) (λ p. refl)
      (both (operator_moves o at) (both (term_moves t) (operations_moves os)))

  term_moves : (t : Term) → Moves term_tokens unplaced_term t
  term_moves (Value c) = through {tb = term_tokens} {ub = unplaced_term} Value (λ c. refl) (λ c. refl) (constant_moves c)
  term_moves (Variable x) = through {tb = term_tokens} {ub = unplaced_term} Variable (λ x. refl) (λ x. refl) (name_moves x)
  term_moves (Element x e) =
      through {tb = term_tokens} {ub = unplaced_term} (λ (p : Name × Expression). Element p.0 p.1) (λ p. refl) (λ p. refl)
      (both (name_moves x) (before (kind.Symbol 91) (after (kind.Symbol 93) (expression_moves e))))
  term_moves (Called c) = through {tb = term_tokens} {ub = unplaced_term} Called (λ c. refl) (λ c. refl) (call_moves c)
  term_moves (Group e) =
      through {tb = term_tokens} {ub = unplaced_term} Group (λ e. refl) (λ e. refl) (before (kind.Symbol 40) (after (kind.Symbol 41) (expression_moves e)))
  term_moves (Unary s t) =
      through {tb = term_tokens} {ub = unplaced_term} (λ (p : Unit {0} × Term). Unary s p.1) (λ p. refl) (λ p. refl) (both (sign_moves s) (term_moves t))

  pub call_moves : (c : Call) → Moves call_tokens unplaced_call c
  call_moves (Calls None f es) =
      through {tb = call_tokens} {ub = unplaced_call} (λ (p : Name × Expressions). Calls None p.0 p.1) (λ p. refl) (λ p. refl)
      (both (name_moves f) (before (kind.Symbol 40) (after (kind.Symbol 41) (arguments_moves es))))
  call_moves (Calls (Some o) f es) =
      through {tb = call_tokens} {ub = unplaced_call} (λ (p : Name × (Name × Expressions)). Calls (Some p.0) p.1.0 p.1.1) (λ p. refl) (λ p. refl)
      (both (name_moves o) (before (kind.Symbol 46) (both (name_moves f) (before (kind.Symbol 40) (after (kind.Symbol 41) (arguments_moves es))))))

  arguments_moves : (es : Expressions) → Moves arguments_tokens unplaced_expressions es
  arguments_moves NoExpression = through {tb = arguments_tokens} {ub = unplaced_expressions} (λ (u : Unit {0}). NoExpression) (λ u. refl) (λ u. refl) nothing
  arguments_moves (More e es) =
      through {tb = arguments_tokens} {ub = unplaced_expressions} (λ (p : Expression × Expressions). More p.0 p.1) (λ p. refl) (λ p. refl) (both (expression_moves e) (further_moves es))

  further_moves : (es : Expressions) → Moves further_tokens unplaced_expressions es
  further_moves NoExpression = through {tb = further_tokens} {ub = unplaced_expressions} (λ (u : Unit {0}). NoExpression) (λ u. refl) (λ u. refl) nothing
  further_moves (More e es) =
      through {tb = further_tokens} {ub = unplaced_expressions} (λ (p : Expression × Expressions). More p.0 p.1) (λ p. refl) (λ p. refl)
      (before (kind.Symbol 44) (both (expression_moves e) (further_moves es)))

pub index_moves : (v : Option Expression) → Moves index_tokens unplaced_value v
index_moves None = through {tb = index_tokens} {ub = unplaced_value} (λ (u : Unit {0}). None) (λ u. refl) (λ u. refl) nothing
index_moves (Some e) =
    through {tb = index_tokens} {ub = unplaced_value} Some (λ e. refl) (λ e. refl) (before (kind.Symbol 91) (after (kind.Symbol 93) (expression_moves e)))

pub value_moves : (v : Option Expression) → Moves value_tokens unplaced_value v
value_moves None = through {tb = value_tokens} {ub = unplaced_value} (λ (u : Unit {0}). None) (λ u. refl) (λ u. refl) nothing
value_moves (Some e) = through {tb = value_tokens} {ub = unplaced_value} Some (λ e. refl) (λ e. refl) (expression_moves e)
