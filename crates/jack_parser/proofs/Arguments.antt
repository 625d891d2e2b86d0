-- Lists that a tree holds as rows, and as the lists that the code has: arguments, and operators with their terms.
use Rattle.std.proofs.Common.{◌≡◌, ◌≤◌, List, [], ◌∷◌, ◌++◌, length, refl, sym, ap, ◌∙◌, arith}
use Rattle.grammar.specs.Rules.{Tree, Node, Leaf, Pair, Present, NoMore, More, tree_of_list}
use Rattle.grammar.proofs.Repeats.{listed-push}
use Rattle.jack_tree.specs.declared.tree.Term.{Term}
use Rattle.jack_tree.specs.declared.tree.Operation.{Operation}
use Rattle.jack_tree.specs.declared.tree.Call.{Call, Call', Call-F, out-Call, roll-Call, out-roll-Call, outs-Call', Row_of-Expression, end_of-Expression, more_of-Expression, items-the_row-Expression, items_shown-the_row-Expression-0}
use Rattle.jack_tree.specs.declared.tree.Expression.{Expression, Expression', Expression-F, out-Expression, roll-Expression, out-roll-Expression, outs-Expression', Row_of-Operation, end_of-Operation, more_of-Operation, items-the_row-Operation, items_shown-the_row-Operation-1}
use Rattle.jack_parser.specs.Grammar.{Said}
use Rattle.jack_parser.specs.Trees.{exp_tree, term_tree, rest_of, operator_said, operation_tree, operations_tree, args_of, more_of, argument_tree, next_tree, list_with, args_tree, call_said, front_said, invoked_by, invoked_tree}

pub list_with-push : (es : List Expression) (e : Expression) (x : Tree Said) → 1 ≤ length es → list_with (es ++ e ∷ []) x ≡ list_with es (More (next_tree e) x)
list_with-push [] e x h = absurd (omega arith)
list_with-push (f ∷ es) e x h = ap (λ (t : Tree Said). Pair (argument_tree f) t) (listed-push next_tree es e x)

pub args_tree-some : (es : List Expression) → 1 ≤ length es → args_tree es ≡ Present (Node (list_with es NoMore))
args_tree-some [] h = absurd (omega arith)
args_tree-some (e ∷ es) h = refl

more_is : (n : _) (row : Row_of-Expression n) → more_of row ≡ tree_of_list next_tree (items-the_row-Expression n row) NoMore
more_is n end_of-Expression = refl
more_is n (more_of-Expression e es) = ap (More (next_tree e)) (more_is _ es)

args_is : (n : _) (row : Row_of-Expression n) → args_of row ≡ args_tree (items-the_row-Expression n row)
args_is n end_of-Expression = refl
args_is n (more_of-Expression e es) = ap (λ (t : Tree Said). Present (Node (Pair (argument_tree e) t))) (more_is _ es)

abbrev OneCall : Type 0
OneCall = Call-F Term Call Expression Operation

abbrev invoked_by_call : OneCall → Tree Said
invoked_by_call c = invoked_by c.object c.name (args_tree c.arguments.items)

pub invoked_is : (c : Call) → invoked_tree c ≡ invoked_by (out-Call c).object (out-Call c).name (args_tree (out-Call c).arguments.items)
invoked_is (Call' o n p es) =
    ap (invoked_by o n) (args_is _ es ∙ ap args_tree (sym (items_shown-the_row-Expression-0 p es)))
    ∙ ap invoked_by_call (sym (outs-Call' o n p es))

pub call_said_is : (c : Call) → call_said c ≡ front_said (out-Call c).object (out-Call c).name
call_said_is (Call' o n p es) = ap (λ (c : OneCall). front_said c.object c.name) (sym (outs-Call' o n p es))

-- a call that was made of its parts
pub made_invoked : (c : OneCall) → invoked_tree (roll-Call c) ≡ invoked_by c.object c.name (args_tree c.arguments.items)
made_invoked c = invoked_is (roll-Call c) ∙ ap invoked_by_call (out-roll-Call c)

pub made_said : (c : OneCall) → call_said (roll-Call c) ≡ front_said c.object c.name
made_said c = call_said_is (roll-Call c) ∙ ap (λ (c : OneCall). front_said c.object c.name) (out-roll-Call c)

-- operators with their terms, as a list and as the row that an expression holds
rest_is : (n : _) (row : Row_of-Operation n) → rest_of row ≡ operations_tree (items-the_row-Operation n row)
rest_is n end_of-Operation = refl
rest_is n (more_of-Operation o at t os) = ap (More (Pair (Leaf (operator_said o at)) (term_tree t))) (rest_is _ os)

abbrev OneExpression : Type 0
OneExpression = Expression-F Term Call Expression Operation

abbrev tree_of : OneExpression → Tree Said
tree_of e = Node (Pair (term_tree e.first) (operations_tree e.rest.items))

pub expression_is : (e : Expression) → exp_tree e ≡ Node (Pair (term_tree (out-Expression e).first) (operations_tree (out-Expression e).rest.items))
expression_is (Expression' t p os) =
    ap (λ (x : Tree Said). Node (Pair (term_tree t) x)) (rest_is _ os ∙ ap operations_tree (sym (items_shown-the_row-Operation-1 p os)))
    ∙ ap tree_of (sym (outs-Expression' t p os))

-- one more operator
pub grown : (t : Term) (os : List Operation) (o : Operation) (x : Tree Said) → Node (Pair (term_tree t) (tree_of_list operation_tree os (More (operation_tree o) x))) ≡ Node (Pair (term_tree t) (tree_of_list operation_tree (os ++ o ∷ []) x))
grown t os o x = ap (λ (y : Tree Said). Node (Pair (term_tree t) y)) (sym (listed-push operation_tree os o x))

-- an expression that was made of its parts
pub made_expression : (e : OneExpression) → exp_tree (roll-Expression e) ≡ Node (Pair (term_tree e.first) (operations_tree e.rest.items))
made_expression e = expression_is (roll-Expression e) ∙ ap tree_of (out-roll-Expression e)
