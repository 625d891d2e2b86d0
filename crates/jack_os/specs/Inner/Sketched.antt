-- The trees that sketches stand for.
use Rattle.std.specs.Prelude.{List, [], ◌∷◌, Option, Some, None, map}
use Rattle.jack_os.specs.declared.sketch.TermSketch as terms
use Rattle.jack_os.specs.declared.sketch.ExpressionSketch as expressions
use Rattle.jack_os.specs.declared.sketch.StatementSketch as statements
use Rattle.jack_os.specs.declared.sketch.TypeSketch.{TypeSketch}
use Rattle.jack_os.specs.declared.sketch.TypeSketch.TheVariants as types
use Rattle.jack_os.specs.declared.sketch.ParameterSketch.{ParameterSketch}
use Rattle.jack_os.specs.declared.sketch.LocalsSketch.{LocalsSketch}
use Rattle.jack_os.specs.declared.sketch.Sketch.{Sketch}
use Rattle.jack_os.specs.Inner.Made as made
use Rattle.jack_os.specs.Inner.Made.{Jack}

abbrev mutual
  pub term : terms.TermSketch → Jack
  term (terms.Number n) = made.number n
  term (terms.Variable x) = made.variable x.now
  term (terms.Element' x p index) = made.element x.now (expression index)
  term (terms.Group' p inside) = made.group (expression inside)
  term (terms.Unary' s p t) = made.signed_term s (term t)

  pub expression : expressions.ExpressionSketch → Jack
  expression (expressions.One t) = made.alone (term t)
  expression (expressions.Two a o b) = made.pair_of (term a) o (term b)
  expression (expressions.Three a o b n c) = made.three_of (term a) o (term b) n (term c)

abbrev mutual
  pub statement : statements.StatementSketch → Jack
  statement (statements.Let x e) = made.let_variable x.now (expression e)
  statement (statements.LetElement x i e) = made.let_element x.now (expression i) (expression e)
  statement (statements.If' e p n body) = made.if_then (expression e) (all body)
  statement (statements.IfElse' e p n body q m other) = made.if_else (expression e) (all body) (all other)
  statement (statements.While' e p n body) = made.while_loop (expression e) (all body)
  statement (statements.Do c x e) = made.do_call c.now x.now (expression e)
  statement (statements.Return e) = made.return_value (expression e)
  statement statements.ReturnNothing = made.return_nothing

  pub all : {n : _} → statements.Row_of-StatementSketch n → List Jack
  all statements.end_of-StatementSketch = []
  all (statements.more_of-StatementSketch s ss) = statement s ∷ all ss

abbrev pub type_of : TypeSketch → Jack
type_of types.Int = made.int_type
type_of types.Array = made.array_type

abbrev pub result_of : Option TypeSketch → Jack
result_of None = made.no_type
result_of (Some t) = type_of t

abbrev pub parameter : ParameterSketch → Jack
parameter p = made.parameter (type_of p.0) p.1.now

abbrev pub locals : LocalsSketch → Jack
locals l = made.locals_of (type_of l.0) l.1.now (map (λ x. made.name_of x.now) l.2.now)

abbrev pub subroutine : Sketch → Jack
subroutine s =
    made.function_of (result_of s.result) s.name.now (map parameter s.parameters.now) (map locals s.locals.now) (map statement s.statements.now)
