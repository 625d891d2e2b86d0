-- The statements that the code has for what the abstract syntax means.
use Rattle.std.proofs.Common.{◌≡◌, ℕ, ◌+◌, ◌<◌, ◌≤◌, ◌^◌, max, Bool, true, false, List, [], ◌∷◌, ◌++◌, Option, Some, None, length, codes, refl, ap, ◌∙◌, arith}
use Rattle.std.proofs.lemmas.List.{length-append}
use Rattle.jack_meaning.specs.Text as meaning
use Rattle.jack_core.specs.declared.tree.Variable.{Variable}
use Rattle.jack_core.specs.declared.tree.Expression.{Expression}
use Rattle.jack_core.specs.declared.program.Statement.{Statement}
use Rattle.jack_core.specs.declared.program.Statement.TheVariants as Statement
use Rattle.jack_core.specs.Reading.{operand, the_expression}
use Rattle.jack_core.specs.Texts.{the_statement, the_block}
use Rattle.jack_core.proofs.Blocks.{if_reads, while_reads}
use Rattle.jack_tree.specs.Syntax as tree
use Rattle.jack_names.specs.Lengths.{expression_length, call_length, value_length, statement_length, statements_length}
use Rattle.jack_names.specs.Made.{assignment, let_by}
use Rattle.jack_names.specs.Meaning as plain
use Rattle.jack_names.specs.Numbers.{Standing}
use Rattle.jack_names.specs.declared.scope.Slot.{Slot}
use Rattle.jack_names.specs.declared.scope.Slot.TheVariants as slot
use Rattle.jack_names.specs.declared.scope.Declared.{Declared}
use Rattle.jack_names.proofs.Held.{held}
use Rattle.jack_names.proofs.Composed.{Single, literal, call_made, one_made, variable_made, callee_made, expression_made, value_made}

-- an expression of the code that is this one
abbrev pub IsThere : meaning.Expression → Type 0
IsThere x = (e : Expression) × (the_expression e ≡ x)

pub there : (x : meaning.Expression) (n : ℕ) → Single x n → IsThere x
there x n a = (record { parts = a.parts; one = a.high 0 }, ap (operand 0) (a.built []))

-- a statement of the code that is this one
abbrev pub HasStatement : meaning.Statement → Type 0
HasStatement x = (t : Statement) × (the_statement t ≡ x)

assigned : (k : Slot) (n : ℕ) (x : meaning.Expression) → IsThere x → HasStatement (assignment k n x)
assigned (slot.Argument k) n x e = (Statement.Let n (Variable.Argument k) e.0, ap (meaning.Let n (meaning.Argument k)) e.1)
assigned (slot.Local k) n x e = (Statement.Let n (Variable.Local k) e.0, ap (meaning.Let n (meaning.Local k)) e.1)
assigned (slot.Field k) n x e = (Statement.LetField n k e.0, ap (meaning.LetField n k) e.1)
assigned (slot.Static k) n x e = (Statement.Let n (Variable.Static k) e.0, ap (meaning.Let n (meaning.Static k)) e.1)

let_made : (o : Option Declared) (n : ℕ) (x : meaning.Expression) → IsThere x → HasStatement (let_by o n x)
let_made None n x e = (Statement.Let n (Variable.Local 0) e.0, ap (meaning.Let n (meaning.Local 0)) e.1)
let_made (Some v) n x e = assigned v.slot n x e

stored : (s : Standing) (n : ℕ) (x : tree.Name) (i : Option tree.Expression) (e : tree.Expression) → HasStatement (plain.let_meaning s n x i e)
stored s n x None e = let_made (s.variable x.text) n _ (there _ (expression_length e) (expression_made s e))
stored s n x (Some i) e =
    let base = there _ 1 (variable_made (s.variable x.text)) in
    let index = there _ (expression_length i) (expression_made s i) in
    let value = there _ (expression_length e) (expression_made s e) in
    (Statement.Store n base.0 index.0 value.0, λ j. meaning.Store n (base.1 j) (index.1 j) (value.1 j))

-- statements of the code that are these, of which there are at most this many
pub record HasStatements (x : meaning.Text) (n : ℕ) : Type 0 where
  pub all : List Statement
  pub is : the_block all ≡ x
  pub few : length all ≤ n

module _ (n : ℕ) (x : meaning.Expression) (c : IsThere x) where
  while_made : (a : meaning.Text) (k : ℕ) → k < 2 ^ 62 → HasStatements a k → HasStatement (meaning.While n x a)
  while_made a k small h =
      let v = held h.all (omega (arith, small, h.few)) in
      (Statement.While n c.0 v, while_reads n c.0 v ∙ (λ i. meaning.While n (c.1 i) (h.is i)))

  if_made : (o : Bool) (a b : meaning.Text) (k l : ℕ) → k < 2 ^ 62 → l < 2 ^ 62 → HasStatements a k → HasStatements b l → HasStatement (meaning.If n o x a b)
  if_made o a b k l small small' h h' =
      let v = held h.all (omega (arith, small, h.few)) in
      let w = held h'.all (omega (arith, small', h'.few)) in
      (Statement.If n o c.0 v w, if_reads n o c.0 v w ∙ (λ i. meaning.If n o (c.1 i) (h.is i) (h'.is i)))

none : HasStatements meaning.End 0
none = record { all = []; is = refl; few = omega arith }

mutual
  statement_made : (s : Standing) (n : ℕ) (t : tree.Statement) → statement_length t < 2 ^ 62 → HasStatement (plain.statement_meaning s n t)
  statement_made s n (tree.Let at x i e) small = stored s n x i e
  statement_made s n (tree.If at e a) small =
      if_made n _ (there _ (expression_length e) (expression_made s e)) false _ _ (statements_length a) 0 (omega (arith, small)) (omega arith) (statements_made s (n + 1) a (omega (arith, small))) none
  statement_made s n (tree.IfElse at e a b) small =
      if_made n _ (there _ (expression_length e) (expression_made s e)) true _ _ (statements_length a) (statements_length b) (omega (arith, small)) (omega (arith, small))
      (statements_made s (n + 1) a (omega (arith, small))) (statements_made s (n + 1 + plain.sizes a) b (omega (arith, small)))
  statement_made s n (tree.While at e a) small =
      while_made n _ (there _ (expression_length e) (expression_made s e)) _ (statements_length a) (omega (arith, small)) (statements_made s (n + 1) a (omega (arith, small)))
  statement_made s n (tree.Do at c) small = let e = there _ (call_length c) (callee_made s c) in (Statement.Do n e.0, ap (meaning.Do n) e.1)
  statement_made s n (tree.Return at v) small = let e = there _ (value_length v) (value_made s v) in (Statement.Return n e.0, ap (meaning.Return n) e.1)

  pub statements_made : (s : Standing) (n : ℕ) (ts : tree.Statements) → statements_length ts < 2 ^ 62 → HasStatements (plain.block_meaning s n ts) (statements_length ts)
  statements_made s n tree.End small = none
  statements_made s n (tree.Next t ts) small =
      let first = statement_made s n t (omega (arith, small)) in
      let rest = statements_made s (n + plain.size t) ts (omega (arith, small)) in
      record { all = first.0 ∷ rest.all; is = λ i. meaning.Next (first.1 i) (rest.is i); few = omega (arith, rest.few) }

-- ---- bodies

joined : (xs ys : List Statement) → the_block (xs ++ ys) ≡ meaning.joined_text (the_block xs) (the_block ys)
joined [] ys = refl
joined (x ∷ xs) ys = ap (meaning.Next (the_statement x)) (joined xs ys)

back : (b : Bool) (n : ℕ) → HasStatements (plain.return_added b n) 1
back true n = record { all = []; is = refl; few = omega arith }
back false n = let e = there _ 1 (literal 0) in record { all = Statement.Return n e.0 ∷ []; is = ap (λ (x : meaning.Expression). meaning.Next (meaning.Return n x) meaning.End) e.1; few = omega arith }

begun : (s : Standing) (f : tree.Form) (fields : ℕ) (x : meaning.Text) (n : ℕ) → HasStatements x n → HasStatements (plain.begin_text s f fields x) (1 + n)
begun s tree.Constructor fields x n h =
    let e = there _ 2 (call_made (plain.made_word s (codes "Memory") (codes "alloc")) _ 1 (one_made _ 1 (literal (max 1 fields)))) in
    record { all = Statement.LetThis 0 e.0 ∷ h.all; is = λ i. meaning.Next (meaning.LetThis 0 (e.1 i)) (h.is i); few = omega (arith, h.few) }
begun s tree.Function fields x n h = record { all = h.all; is = h.is; few = omega (arith, h.few) }
begun s tree.Method fields x n h = record { all = h.all; is = h.is; few = omega (arith, h.few) }

pub body_made : (s : Standing) (fields : ℕ) (t : tree.Subroutine) → statements_length t.statements < 2 ^ 62 → HasStatements (plain.body_meaning s fields t) (2 + statements_length t.statements)
body_made s fields t small =
    let n = statements_length t.statements in
    let h = statements_made s 1 t.statements small in
    let r = back (plain.returns t.statements) (1 + plain.sizes t.statements) in
    let b = begun s t.form fields _ (n + 1) (record {
      all = h.all ++ r.all;
      is = joined h.all r.all ∙ (λ i. meaning.joined_text (h.is i) (r.is i));
      few = omega (arith, h.few, r.few, length-append h.all r.all);
    }) in
    record { all = b.all; is = b.is; few = omega (arith, b.few) }
