-- The names, integers and strings of a class whose tree is read.
use Rattle.std.proofs.Common.{List, [], ◌∷◌, Option, Some, None}
use Rattle.std.specs.Prelude.{Box}
use Rattle.std.specs.Global.{Global}
use Rattle.grammar.specs.Rules.{NoMore, tree_of_list}
use Rattle.jack_tree.specs.declared.tree.Constant.{Constant}
use Rattle.jack_tree.specs.declared.tree.Constant.TheVariants as constant
use Rattle.jack_tree.specs.declared.tree.Call.{Call, Call', Row_of-Expression, end_of-Expression, more_of-Expression}
use Rattle.jack_tree.specs.declared.tree.Term as terms
use Rattle.jack_tree.specs.declared.tree.Expression.{Expression, Expression', Row_of-Operation, end_of-Operation, more_of-Operation}
use Rattle.jack_tree.specs.declared.tree.Statement as statements
use Rattle.jack_tree.specs.declared.tree.Subroutine.{Subroutine}
use Rattle.jack_parser.specs.Trees.{constant_leaf, term_tree, invoked_tree, exp_tree, rest_of, args_of, more_of}
use Rattle.jack_tree.specs.Seen.{unbox}
use Rattle.jack_parser.specs.StatementTrees.{index_tree, value_tree, any_tree, row_tree, other_tree, statements_tree}
use Rattle.jack_parser.specs.ClassTrees.{subroutine_tree}
use Rattle.tower.specs.Read.{IsReadConstant, IsReadTerm, IsReadCall, IsRead, AreReadOperations, AreRead, IsReadIfThere, IsReadStatement, IsReadBlock, IsReadElse, AreReadStatements, AreReadSubroutines}
use Rattle.tower.proofs.Trees.{IsReadTree}

constant_read : (c : Constant) → IsReadTree (constant_leaf c) → IsReadConstant c
constant_read (constant.Integer n) h = h
constant_read (constant.Text t) h = h
constant_read constant.True h = tt
constant_read constant.False h = tt
constant_read constant.Null h = tt
constant_read (constant.This at) h = tt

mutual
  term_read : (t : terms.Term) → IsReadTree (term_tree t) → IsReadTerm t
  term_read (terms.Constant c) h = constant_read c h
  term_read (terms.Variable x) h = tt
  term_read (terms.Element' x p e) h = expression_read e h.1.1.0
  term_read (terms.Call' p c) h = call_read c h.1
  term_read (terms.Group' p e) h = expression_read e h.1.0
  term_read (terms.Unary' o p t) h = term_read t h.1

  call_read : (c : Call) → IsReadTree (invoked_tree c) → IsReadCall c
  call_read (Call' None f n es) h = arguments_read es h.1.0
  call_read (Call' (Some o) f n es) h = arguments_read es h.1.1.1.0

  expression_read : (e : Expression) → IsReadTree (exp_tree e) → IsRead e
  expression_read (Expression' t n os) h = (term_read t h.0, operations_read os h.1)

  operations_read : {n : _} (os : Row_of-Operation n) → IsReadTree (rest_of os) → AreReadOperations os
  operations_read end_of-Operation h = tt
  operations_read (more_of-Operation o at t os) h = (term_read t h.0.1, operations_read os h.1)

  arguments_read : {n : _} (es : Row_of-Expression n) → IsReadTree (args_of es) → AreRead es
  arguments_read end_of-Expression h = tt
  arguments_read (more_of-Expression e es) h = (expression_read e h.0, others_read es h.1)

  others_read : {n : _} (es : Row_of-Expression n) → IsReadTree (more_of es) → AreRead es
  others_read end_of-Expression h = tt
  others_read (more_of-Expression e es) h = (expression_read e h.0.1, others_read es h.1)

index_read : (i : Option (Box Expression Global)) → IsReadTree (index_tree i) → IsReadIfThere (unbox i)
index_read None h = tt
index_read (Some e) h = expression_read e.value h.1.0

value_read : (v : Option Expression) → IsReadTree (value_tree v) → IsReadIfThere v
value_read None h = tt
value_read (Some e) h = expression_read e h

mutual
  statement_read : (s : statements.Statement) → IsReadTree (any_tree s) → IsReadStatement s
  statement_read (statements.Let at x i e) h = (index_read i h.1.1.0, expression_read e h.1.1.1.1.0)
  statement_read (statements.If' at e n a b) h = (expression_read e h.1.0.1.0, block_read a h.1.1.0.1.0, else_read b h.1.1.1)
  statement_read (statements.While' at e n a) h = (expression_read e h.1.0.1.0, block_read a h.1.1.1.0)
  statement_read (statements.Do at c) h = call_read c h.1.1.0
  statement_read (statements.Return at v) h = value_read v h.1.0

  block_read : {n : _} (ss : statements.Row_of-Statement n) → IsReadTree (row_tree ss) → IsReadBlock ss
  block_read statements.end_of-Statement h = tt
  block_read (statements.more_of-Statement s ss) h = (statement_read s h.0, block_read ss h.1)

  else_read : (b : statements.Held-Statement-If-3) → IsReadTree (other_tree b) → IsReadElse b
  else_read statements.None' h = tt
  else_read (statements.Some' n a) h = block_read a h.1.1.0

statements_read : (ss : List statements.Statement) → IsReadTree (statements_tree ss) → AreReadStatements ss
statements_read [] h = tt
statements_read (s ∷ ss) h = (statement_read s h.0, statements_read ss h.1)

pub subroutines_read : (ss : List Subroutine) → IsReadTree (tree_of_list subroutine_tree ss NoMore) → AreReadSubroutines ss
subroutines_read [] h = tt
subroutines_read (s ∷ ss) h =
    (record { name = h.0.1.1.0; statements = statements_read s.statements.items h.0.1.1.1.1.1.1.1.1.0 }, subroutines_read ss h.1)
