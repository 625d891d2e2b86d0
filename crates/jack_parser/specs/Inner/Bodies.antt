-- What stands in the braces of a subroutine: it has a reader of its own.
use Rattle.std.specs.Prelude.{List}
use Rattle.grammar.specs.Rules.{seq, repeat, name, Tree, Pair, Skip, NoMore, tree_of_list}
use Rattle.scan_text.specs.declared.Place.{Place}
use Rattle.jack_tree.specs.declared.tree.Locals.{Locals}
use Rattle.jack_tree.specs.declared.tree.Statement as statements
use Rattle.jack_parser.specs.Grammar.{JackRule, Said, statement, symbol_of, symbol_at, locals_rule}
use Rattle.jack_parser.specs.StatementTrees.{statements_tree}
use Rattle.jack_parser.specs.ClassTrees.{locals_tree, close_leaf}

-- { locals* stmt* }
abbrev pub subroutine_body : JackRule
subroutine_body = seq (symbol_of 123) (seq (repeat locals_rule) (seq (repeat (name statement)) (symbol_at 125)))

abbrev pub subroutine_body_tree : List Locals → List statements.Statement → Place → Tree Said
subroutine_body_tree ls ss close =
    Pair Skip (Pair (tree_of_list locals_tree ls NoMore) (Pair (statements_tree ss) (close_leaf close)))
