-- The program that trees mean is the one that their abstract syntax means: expressions and statements.
use Rattle.std.proofs.Common.{◌≡◌, ℕ, ◌+◌, ◌-◌, true, false, List, [], ◌∷◌, Option, Some, None, length, slice_get, codes, refl, ap, ◌∙◌, arith}
use Rattle.scan_text.specs.declared.Place.{Place}
use Rattle.jack_meaning.specs.Text as meaning
use Rattle.jack_tree.specs.Syntax as tree
use Rattle.jack_tree.specs.Seen.{the_name, the_operator, the_sign, the_constant, the_object, the_expression, the_operations, the_term, the_call, the_arguments, the_value, unbox, the_statement, the_row, the_choice, the_statements}
use Rattle.jack_tree.specs.declared.tree.Name.{Name}
use Rattle.jack_tree.specs.declared.tree.Operator.{Operator}
use Rattle.jack_tree.specs.declared.tree.Operator.TheVariants as operator
use Rattle.jack_tree.specs.declared.tree.Sign.{Sign}
use Rattle.jack_tree.specs.declared.tree.Sign.TheVariants as sign
use Rattle.jack_tree.specs.declared.tree.Constant.{Constant}
use Rattle.jack_tree.specs.declared.tree.Constant.TheVariants as constant
use Rattle.jack_tree.specs.declared.tree.Call.{Call, Call', Row_of-Expression, end_of-Expression, more_of-Expression}
use Rattle.jack_tree.specs.declared.tree.Term as terms
use Rattle.jack_tree.specs.declared.tree.Expression.{Expression, Expression', Row_of-Operation, end_of-Operation, more_of-Operation}
use Rattle.jack_tree.specs.declared.tree.Statement as statements
use Rattle.jack_names.specs.Inner.Scopes.{Scope, through, callee_by, callee}
use Rattle.jack_names.specs.Sizes as sized
use Rattle.jack_names.specs.Inner.Meant as meant
use Rattle.jack_names.specs.Made as shared
use Rattle.jack_names.specs.Inner.Whole as whole
use Rattle.jack_names.specs.Numbers.{Standing, in_class}
use Rattle.jack_names.specs.Meaning as plain
use Rattle.jack_names.specs.declared.scope.Way.{Way}
use Rattle.jack_names.specs.declared.scope.Declared.{Declared}

abbrev pub the_standing : Scope → Standing
the_standing s = record { variable = s.variable; class = s.class; subroutine = λ k f. meant.number_by (s.subroutine k f); own = s.own }

made_by : (s : Scope) (f : List ℕ) (o : Option ℕ) → meant.made_by s f o ≡ in_class (the_standing s).subroutine o f
made_by s f None = refl
made_by s f (Some k) = refl

pub made_same : (s : Scope) (c f : List ℕ) → meant.made_number s c f ≡ plain.made_word (the_standing s) c f
made_same s c f = made_by s f (s.class c)

through_same : (s : Scope) (f : List ℕ) (w : Way) (o : Option ℕ) → meant.called_number s f (through w o) ≡ in_class (the_standing s).subroutine o f
through_same s f w None = refl
through_same s f w (Some k) = refl

callee_same : (s : Scope) (f : List ℕ) (o : Option Declared) (c : Option ℕ) → meant.called_number s f (callee_by o c) ≡ in_class (the_standing s).subroutine (plain.front_class o c) f
callee_same s f None c = through_same s f _ c
callee_same s f (Some v) c = through_same s f _ v.class

called_same : (s : Scope) (f : List ℕ) (o : Option Name) → meant.called_number s f (callee s o) ≡ in_class (the_standing s).subroutine (plain.called_class (the_standing s) (the_object o)) f
called_same s f None = refl
called_same s f (Some x) = callee_same s f (s.variable x.text) (s.class x.text)

object_same : (s : Scope) (o : Option Name) (es : meaning.Expressions) → meant.with_object s o es ≡ plain.with_object (the_standing s) (the_object o) es
object_same s None es = refl
object_same s (Some x) es = refl

invoked_same : (s : Scope) (o : Option Name) (f : Name) (es es' : meaning.Expressions) → es ≡ es' → meant.invocation s o f es ≡ plain.invocation (the_standing s) (the_object o) (the_name f) es'
invoked_same s o f es es' e = λ i. meaning.Call (called_same s f.text o i) ((object_same s o es ∙ ap (plain.with_object (the_standing s) (the_object o)) e) i)

string_same : (s : Scope) (text : List ℕ) → meant.string_meant s text ≡ plain.string_meaning (the_standing s) text
string_same s text =
    λ i. shared.filled_characters (made_same s (codes "String") (codes "appendChar") i) (meaning.Call (made_same s (codes "String") (codes "new") i) (shared.one (meaning.Literal (shared.length_word text)))) text

constant_same : (s : Scope) (c : Constant) → meant.constant_meant s c ≡ plain.constant_meaning (the_standing s) (the_constant c)
constant_same s (constant.Integer n) = refl
constant_same s (constant.Text t) = string_same s t.text
constant_same s constant.True = refl
constant_same s constant.False = refl
constant_same s constant.Null = refl
constant_same s (constant.This at) = refl

sign_same : (o : Sign) → meant.sign_meant o ≡ plain.sign_meaning (the_sign o)
sign_same sign.Minus = refl
sign_same sign.Not = refl
sign_same sign.ShiftLeft = refl
sign_same sign.ShiftRight = refl

binary_same : (s : Scope) (o : Operator) (a b : meaning.Expression) → meant.binary_meant s o a b ≡ plain.binary_meaning (the_standing s) (the_operator o) a b
binary_same s operator.Plus a b = refl
binary_same s operator.Minus a b = refl
binary_same s operator.Times a b = ap (λ (k : ℕ). meaning.Call k (shared.two a b)) (made_same s (codes "Math") (codes "multiply"))
binary_same s operator.Divide a b = ap (λ (k : ℕ). meaning.Call k (shared.two a b)) (made_same s (codes "Math") (codes "divide"))
binary_same s operator.And a b = refl
binary_same s operator.Or a b = refl
binary_same s operator.Less a b = refl
binary_same s operator.Greater a b = refl
binary_same s operator.Equal a b = refl

mutual
  term_same : (s : Scope) (t : terms.Term) → meant.term_meant s t ≡ plain.term_meaning (the_standing s) (the_term t)
  term_same s (terms.Constant c) = constant_same s c
  term_same s (terms.Variable x) = refl
  term_same s (terms.Element' x p e) = ap (λ (z : meaning.Expression). meaning.Load (meant.variable_meant s x) z) (expression_same s e)
  term_same s (terms.Call' p c) = call_same s c
  term_same s (terms.Group' p e) = expression_same s e
  term_same s (terms.Unary' o p t) = λ i. meaning.Unary (sign_same o i) (term_same s t i)

  call_same : (s : Scope) (c : Call) → meant.call_meant s c ≡ plain.call_meaning (the_standing s) (the_call c)
  call_same s (Call' o f n es) = invoked_same s o f (meant.row_meant s es) (plain.arguments_meaning (the_standing s) (the_arguments es)) (arguments_same s es)

  expression_same : (s : Scope) (e : Expression) → meant.exp_meant s e ≡ plain.expression_meaning (the_standing s) (the_expression e)
  expression_same s (Expression' t n os) =
      ap (λ (z : meaning.Expression). meant.rest_meant s z os) (term_same s t) ∙ operations_same s (plain.term_meaning (the_standing s) (the_term t)) os

  operations_same : (s : Scope) (e : meaning.Expression) {n : _} (os : Row_of-Operation n) → meant.rest_meant s e os ≡ plain.operations_meaning (the_standing s) e (the_operations os)
  operations_same s e end_of-Operation = refl
  operations_same s e (more_of-Operation o at t os) =
      ap (λ (z : meaning.Expression). meant.rest_meant s z os) (binary_same s o e (meant.term_meant s t) ∙ ap (plain.binary_meaning (the_standing s) (the_operator o) e) (term_same s t))
      ∙ operations_same s (plain.binary_meaning (the_standing s) (the_operator o) e (plain.term_meaning (the_standing s) (the_term t))) os

  arguments_same : (s : Scope) {n : _} (es : Row_of-Expression n) → meant.row_meant s es ≡ plain.arguments_meaning (the_standing s) (the_arguments es)
  arguments_same s end_of-Expression = refl
  arguments_same s (more_of-Expression e es) = λ i. meaning.More (expression_same s e i) (arguments_same s es i)

value_same : (s : Scope) (v : Option Expression) → meant.value_meant s v ≡ plain.value_meaning (the_standing s) (the_value v)
value_same s None = refl
value_same s (Some e) = expression_same s e

let_same : (s : Scope) (n : ℕ) (x : Name) (i : Option Expression) (e : Expression) → meant.let_meant s n x i e ≡ plain.let_meaning (the_standing s) n (the_name x) (the_value i) (the_expression e)
let_same s n x None e = ap (λ (z : meaning.Expression). shared.let_by (s.variable x.text) n z) (expression_same s e)
let_same s n x (Some k) e = λ i. meaning.Store n (meant.variable_meant s x) (expression_same s k i) (expression_same s e i)

mutual
  size_same : (t : statements.Statement) → sized.size t ≡ plain.size (the_statement t)
  size_same (statements.Let at x i e) = refl
  size_same (statements.If' at e n a b) = choice_size at e (sized.row_size a) (the_row a) (row_size_same a) b
  size_same (statements.While' at e n a) = ap (λ (k : ℕ). 1 + k) (row_size_same a)
  size_same (statements.Do at c) = refl
  size_same (statements.Return at v) = refl

  row_size_same : {n : _} (ts : statements.Row_of-Statement n) → sized.row_size ts ≡ plain.sizes (the_row ts)
  row_size_same statements.end_of-Statement = refl
  row_size_same (statements.more_of-Statement t ts) = λ i. size_same t i + row_size_same ts i

  choice_size : (at : Place) (e : Expression) (k : ℕ) (a : tree.Statements) → k ≡ plain.sizes a → (b : statements.Held-Statement-If-3) → 1 + k + sized.other_size b ≡ plain.size (the_choice at (the_expression e) a b)
  choice_size at e k a p statements.None' = let q : 1 + k + 0 ≡ 1 + k = omega arith in q ∙ ap (λ (z : ℕ). 1 + z) p
  choice_size at e k a p (statements.Some' n b) = λ i. 1 + p i + row_size_same b i

mutual
  statement_same : (s : Scope) (n : ℕ) (t : statements.Statement) → meant.statement_meant s n t ≡ plain.statement_meaning (the_standing s) n (the_statement t)
  statement_same s n (statements.Let at x i e) = let_same s n x (unbox i) e
  statement_same s n (statements.If' at e m a b) =
      choice_same s n at e (sized.row_size a) (the_row a) (row_size_same a) (meant.block_meant s (n + 1) a) (block_same s (n + 1) a) b
  statement_same s n (statements.While' at e m a) = λ i. meaning.While n (expression_same s e i) (block_same s (n + 1) a i)
  statement_same s n (statements.Do at c) = ap (λ (z : meaning.Expression). meaning.Do n z) (call_same s c)
  statement_same s n (statements.Return at v) = ap (λ (z : meaning.Expression). meaning.Return n z) (value_same s v)

  block_same : (s : Scope) (n : ℕ) {m : _} (ts : statements.Row_of-Statement m) → meant.block_meant s n ts ≡ plain.block_meaning (the_standing s) n (the_row ts)
  block_same s n statements.end_of-Statement = refl
  block_same s n (statements.more_of-Statement t ts) =
      λ i. meaning.Next (statement_same s n t i) ((block_same s (n + sized.size t) ts ∙ ap (λ (k : ℕ). plain.block_meaning (the_standing s) (n + k) (the_row ts)) (size_same t)) i)

  choice_same : (s : Scope) (n : ℕ) (at : Place) (e : Expression) (k : ℕ) (a : tree.Statements) → k ≡ plain.sizes a → (body : meaning.Text) → body ≡ plain.block_meaning (the_standing s) (n + 1) a
      → (b : statements.Held-Statement-If-3)
      → meaning.If n (meant.is_else b) (meant.exp_meant s e) body (meant.other_meant s (n + 1 + k) b) ≡ plain.statement_meaning (the_standing s) n (the_choice at (the_expression e) a b)
  choice_same s n at e k a p body q statements.None' = λ i. meaning.If n false (expression_same s e i) (q i) meaning.End
  choice_same s n at e k a p body q (statements.Some' m b) =
      λ i. meaning.If n true (expression_same s e i) (q i) ((block_same s (n + 1 + k) b ∙ ap (λ (z : ℕ). plain.block_meaning (the_standing s) (n + 1 + z) (the_row b)) p) i)

pub statements_same : (s : Scope) (n : ℕ) (ts : List statements.Statement) → meaning.text_of (meant.statements_meant s n ts) ≡ plain.block_meaning (the_standing s) n (the_statements ts)
statements_same s n [] = refl
statements_same s n (t ∷ ts) =
    λ i. meaning.Next (statement_same s n t i) ((statements_same s (n + sized.size t) ts ∙ ap (λ (k : ℕ). plain.block_meaning (the_standing s) (n + k) (the_statements ts)) (size_same t)) i)

pub sizes_same : (ts : List statements.Statement) → sized.sizes ts ≡ plain.sizes (the_statements ts)
sizes_same [] = refl
sizes_same (t ∷ ts) = λ i. size_same t i + sizes_same ts i

-- whether the last statement is a return
returned_choice : (at : Place) (e : tree.Expression) (a : tree.Statements) (b : statements.Held-Statement-If-3) → false ≡ plain.is_return (the_choice at e a b)
returned_choice at e a statements.None' = refl
returned_choice at e a (statements.Some' n b) = refl

return_same : (t : statements.Statement) → whole.is_return t ≡ plain.is_return (the_statement t)
return_same (statements.Let at x i e) = refl
return_same (statements.If' at e n a b) = returned_choice at (the_expression e) (the_row a) b
return_same (statements.While' at e n a) = refl
return_same (statements.Do at c) = refl
return_same (statements.Return at v) = refl

last_same : (t : statements.Statement) (ts : List statements.Statement) → whole.last_returns (slice_get (t ∷ ts) (length ts)) ≡ plain.last_returns (the_statement t) (the_statements ts)
last_same t [] = return_same t
last_same t (u ∷ us) = last_same u us

pub returns_same : (ts : List statements.Statement) → whole.returns ts ≡ plain.returns (the_statements ts)
returns_same [] = refl
returns_same (t ∷ ts) = let e : length (t ∷ ts) - 1 ≡ length ts = omega arith in ap (λ (k : ℕ). whole.last_returns (slice_get (t ∷ ts) k)) e ∙ last_same t ts
