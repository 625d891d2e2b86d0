-- Trees of the grammar of Jack (book, chapter 10, figure 10.5) without a text: their names and keywords have no place.
use Rattle.std.specs.Prelude.{ℕ, List, [], ◌∷◌, codes}
use Rattle.scan_text.specs.Text.{nowhere}
use Rattle.grammar.specs.Rules.{Tree, Leaf, Node, Pair, Skip, Left, Right, Absent, Present, NoMore, More}
use Rattle.jack_tree.specs.declared.token.Keyword.{Keyword}
use Rattle.jack_tree.specs.declared.token.Keyword.TheVariants as keyword
use Rattle.jack_tree.specs.declared.token.Kind.TheVariants as kind
use Rattle.jack_tree.specs.declared.tree.Operator.{Operator}
use Rattle.jack_tree.specs.declared.tree.Sign.{Sign}
use Rattle.jack_parser.specs.Grammar.{Said, Fixed, Placed}
use Rattle.jack_parser.specs.Trees.{operator_said, sign_said}
use Rattle.jack_parser.specs.ClassTrees.{close_leaf}

abbrev pub Jack : Type 0
Jack = Tree Said

abbrev pub name_of : List ℕ → Jack
name_of text = Leaf (Placed kind.Identifier text nowhere)

abbrev pub word_of : Keyword → Jack
word_of k = Leaf (Placed (kind.Keyword k) [] nowhere)

abbrev pub fixed_word : Keyword → Jack
fixed_word k = Leaf (Fixed (kind.Keyword k))

-- what stands between two symbols
abbrev pub enclosed_term : Jack → Jack
enclosed_term x = Pair Skip (Pair x Skip)

-- trees one after another
abbrev pub row : List Jack → Jack
row [] = NoMore
row (x ∷ xs) = More x (row xs)

-- trees after commas
abbrev pub more_of : List Jack → Jack
more_of [] = NoMore
more_of (x ∷ xs) = More (Pair Skip x) (more_of xs)

-- Terms.

abbrev pub number : ℕ → Jack
number n = Node (Left (Leaf (Fixed (kind.Integer n))))

abbrev pub variable : List ℕ → Jack
variable x = Node (Right (Left (Pair (name_of x) Absent)))

-- `x[index]`
abbrev pub element : List ℕ → Jack → Jack
element x index = Node (Right (Left (Pair (name_of x) (Present (Left (enclosed_term (Node index)))))))

-- `(inside)`
abbrev pub group : Jack → Jack
group inside = Node (Right (Right (Left (enclosed_term (Node inside)))))

abbrev pub signed_term : Sign → Jack → Jack
signed_term s t = Node (Right (Right (Right (Pair (Leaf (sign_said s)) (Node t)))))

-- Expressions: a term alone, and two or three terms with operators between them, from left to right.

abbrev pub with_operator : Operator → Jack → Jack
with_operator o t = Pair (Leaf (operator_said o nowhere)) t

abbrev pub alone : Jack → Jack
alone t = Node (Pair t NoMore)

abbrev pub pair_of : Jack → Operator → Jack → Jack
pair_of a o b = Node (Pair a (More (with_operator o b) NoMore))

abbrev pub three_of : Jack → Operator → Jack → Operator → Jack → Jack
three_of a o b n c = Node (Pair a (More (with_operator o b) (More (with_operator n c) NoMore)))

-- Statements.

abbrev pub let_variable : List ℕ → Jack → Jack
let_variable x value = Node (Node (Left (Pair (word_of keyword.Let) (Pair (name_of x) (Pair Absent (Pair Skip (Pair value Skip)))))))

-- `let x[index] = value;`
abbrev pub let_element : List ℕ → Jack → Jack → Jack
let_element x index value =
    Node (Node (Left (Pair (word_of keyword.Let) (Pair (name_of x) (Pair (Present (enclosed_term (Node index))) (Pair Skip (Pair value Skip)))))))

-- statements in braces
abbrev pub block : List Jack → Jack
block body = enclosed_term (row body)

abbrev pub if_of : Jack → List Jack → Jack → Jack
if_of condition body other = Node (Node (Right (Left (Pair (word_of keyword.If) (Pair (enclosed_term (Node condition)) (Pair (block body) other))))))

abbrev pub if_then : Jack → List Jack → Jack
if_then condition body = if_of condition body Absent

abbrev pub if_else : Jack → List Jack → List Jack → Jack
if_else condition body other = if_of condition body (Present (Pair Skip (block other)))

abbrev pub while_loop : Jack → List Jack → Jack
while_loop condition body = Node (Node (Right (Right (Left (Pair (word_of keyword.While) (Pair (enclosed_term (Node condition)) (block body)))))))

-- `do class.name(argument);`
abbrev pub do_call : List ℕ → List ℕ → Jack → Jack
do_call class name argument =
    let arguments = Present (Node (Pair (Node argument) NoMore)) in
    Node (Node (Right (Right (Right (Left (Pair (word_of keyword.Do) (Pair (name_of class) (Pair (Right (Pair Skip (Pair (name_of name) (enclosed_term arguments)))) Skip))))))))

abbrev pub return_of : Jack → Jack
return_of value = Node (Node (Right (Right (Right (Right (Pair (word_of keyword.Return) (Pair value Skip)))))))

abbrev pub return_value : Jack → Jack
return_value e = return_of (Present e)

abbrev pub return_nothing : Jack
return_nothing = return_of Absent

-- Declarations. A type is a leaf.

abbrev pub int_type : Jack
int_type = fixed_word keyword.Int

abbrev pub array_type : Jack
array_type = name_of (codes "Array")

abbrev pub no_type : Jack
no_type = fixed_word keyword.Void

-- `var kind first, ..;`
abbrev pub locals_of : Jack → List ℕ → List Jack → Jack
locals_of kind first others = Pair Skip (Pair kind (Pair (Pair (name_of first) (more_of others)) Skip))

abbrev pub parameter : Jack → List ℕ → Jack
parameter kind x = Pair kind (name_of x)

abbrev pub parameters_of : List Jack → Jack
parameters_of [] = Absent
parameters_of (p ∷ ps) = Present (Pair p (more_of ps))

-- `function kind name(parameters) { locals statements }`
abbrev pub function_of : Jack → List ℕ → List Jack → List Jack → List Jack → Jack
function_of kind name parameters locals statements =
    Node (Pair (fixed_word keyword.Function) (Pair kind (Pair (name_of name) (Pair Skip (Pair (parameters_of parameters) (Pair Skip (Pair Skip (Pair (row locals) (Pair (row statements) (close_leaf nowhere))))))))))
