-- The trees of classes as trees of the grammar.
use Rattle.std.specs.Prelude.{List, [], ◌∷◌, Option, Some, None}
use Rattle.grammar.specs.Rules.{Tree, Leaf, Node, Pair, Skip, Left, Right, Absent, Present, NoMore, tree_of_list}
use Rattle.scan_text.specs.declared.Place.{Place}
use Rattle.jack_tree.specs.declared.token.Keyword.TheVariants as keyword
use Rattle.jack_tree.specs.declared.token.Kind.TheVariants as kind
use Rattle.jack_tree.specs.declared.tree.Name.{Name}
use Rattle.jack_tree.specs.declared.tree.Names.{Names}
use Rattle.jack_tree.specs.declared.tree.Type as types
use Rattle.jack_tree.specs.declared.tree.Type.TheVariants as variant
use Rattle.jack_tree.specs.declared.tree.Scope.{Scope}
use Rattle.jack_tree.specs.declared.tree.Scope.TheVariants as scope
use Rattle.jack_tree.specs.declared.tree.Form.{Form}
use Rattle.jack_tree.specs.declared.tree.Form.TheVariants as form
use Rattle.jack_tree.specs.declared.tree.ClassVariables.{ClassVariables}
use Rattle.jack_tree.specs.declared.tree.Locals.{Locals}
use Rattle.jack_tree.specs.declared.tree.Parameter.{Parameter}
use Rattle.jack_tree.specs.declared.tree.Subroutine.{Subroutine}
use Rattle.jack_tree.specs.declared.tree.Class.{Class}
use Rattle.jack_parser.specs.Grammar.{Said, Fixed, Placed}
use Rattle.jack_parser.specs.Trees.{name_said, name_leaf}
use Rattle.jack_parser.specs.StatementTrees.{statements_tree}

abbrev pub type_leaf_said : types.Type → Said
type_leaf_said variant.Int = Fixed (kind.Keyword keyword.Int)
type_leaf_said variant.Char = Fixed (kind.Keyword keyword.Char)
type_leaf_said variant.Boolean = Fixed (kind.Keyword keyword.Boolean)
type_leaf_said (variant.Class n) = name_said n

abbrev pub result_said : Option types.Type → Said
result_said None = Fixed (kind.Keyword keyword.Void)
result_said (Some t) = type_leaf_said t

abbrev pub form_said : Form → Said
form_said form.Constructor = Fixed (kind.Keyword keyword.Constructor)
form_said form.Function = Fixed (kind.Keyword keyword.Function)
form_said form.Method = Fixed (kind.Keyword keyword.Method)

abbrev pub next_name_tree : Name → Tree Said
next_name_tree n = Pair Skip (name_leaf n)

abbrev pub names_tree : Names → Tree Said
names_tree ns = Pair (name_leaf ns.first) (tree_of_list next_name_tree ns.more.items NoMore)

-- a type and names after a keyword
abbrev pub declared_tree : types.Type → Names → Tree Said
declared_tree t ns = Pair Skip (Pair (Leaf (type_leaf_said t)) (Pair (names_tree ns) Skip))

abbrev pub scoped_tree : Scope → Tree Said → Tree Said
scoped_tree scope.Static x = Left x
scoped_tree scope.Field x = Right x

abbrev pub variables_tree : ClassVariables → Tree Said
variables_tree v = scoped_tree v.scope (declared_tree v.kind v.names)

abbrev pub locals_tree : Locals → Tree Said
locals_tree v = declared_tree v.kind v.names

abbrev pub parameter_tree : Parameter → Tree Said
parameter_tree p = Pair (Leaf (type_leaf_said p.kind)) (name_leaf p.name)

abbrev pub next_parameter_tree : Parameter → Tree Said
next_parameter_tree p = Pair Skip (parameter_tree p)

-- one parameter or more, with more after them
abbrev pub parameters_with : List Parameter → Tree Said → Tree Said
parameters_with [] more = more
parameters_with (p ∷ ps) more = Pair (parameter_tree p) (tree_of_list next_parameter_tree ps more)

abbrev pub parameters_tree : List Parameter → Tree Said
parameters_tree [] = Absent
parameters_tree (p ∷ ps) = Present (parameters_with (p ∷ ps) NoMore)

-- the brace that closes a body, with its place
abbrev pub close_leaf : Place → Tree Said
close_leaf at = Leaf (Placed (kind.Symbol 125) [] at)

abbrev pub parts_tree : Subroutine → Tree Said
parts_tree s =
    Pair (Leaf (form_said s.form)) (Pair (Leaf (result_said s.result)) (Pair (name_leaf s.name) (Pair Skip (Pair (parameters_tree s.parameters.items) (Pair Skip (Pair Skip
    (Pair (tree_of_list locals_tree s.locals.items NoMore) (Pair (statements_tree s.statements.items) (close_leaf s.close)))))))))

abbrev pub subroutine_tree : Subroutine → Tree Said
subroutine_tree s = Node (parts_tree s)

abbrev pub class_tree : Class → Tree Said
class_tree c = Pair Skip (Pair (name_leaf c.name) (Pair Skip (Pair (tree_of_list variables_tree c.variables.items NoMore) (Pair (tree_of_list subroutine_tree c.subroutines.items NoMore) Skip))))
