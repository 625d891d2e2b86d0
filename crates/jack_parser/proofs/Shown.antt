-- What is shown of the arguments of a call, and of statements that hold statements.
use Rattle.std.proofs.Common.{◌≡◌, ℕ, List, [], ◌∷◌, Option, sym, ap, subst, ◌∙◌, Vec, Global}
use Rattle.scan_text.specs.declared.Place.{Place}
use Rattle.scan_text.specs.Text.{start}
use Rattle.outer_world.specs.declared.pieces.Pieces.{Pieces}
use Rattle.outer_world.specs.declared.sink.Put.{Put}
use Rattle.outer_world.specs.declared.sink.Sink.{Ghosts}
use Rattle.grammar.specs.Printed.{printed_by}
use Rattle.grammar.specs.Rules.{name, Tree, Node, Pair, Left, Right}
use Rattle.grammar.proofs.Shown.{shows_named, shows_inside, shows_left, shows_right}
use Rattle.jack_tree.specs.declared.tree.Expression.{Expression}
use Rattle.jack_tree.specs.declared.token.Keyword.TheVariants as keyword
use Rattle.jack_tree.specs.declared.tree.Statement as statements
use Rattle.jack_parser.specs.Grammar.{jack, Said, argument, statement, if_rule, while_rule}
use Rattle.jack_parser.specs.Trees.{argument_tree, group_tree}
use Rattle.jack_parser.specs.StatementTrees.{key_leaf, any_tree, block_tree, else_tree, statement_tree}
use Rattle.jack_parser.specs.Printed.{said_text}
use Rattle.jack_parser.specs.Inner.Written.{Shows}
use Rattle.jack_parser.proofs.Blocks.{while_is, if_is}

-- the first argument of a call
abbrev pub head_text : List Expression → List ℕ
head_text [] = []
head_text (e ∷ es) = printed_by (jack start) said_text (argument_tree e) argument

module _ {S : Type 0} {told : Ghosts S} {u v : Put} {a b : Pieces S told} where
  pub shows_if : {x : statements.Statement} {at : Place} {e : Expression} (body : Vec statements.Statement Global) (other : Option (Vec statements.Statement Global)) → x ≡ statements.If at e body other
      → Shows (Pair (key_leaf keyword.If at) (Pair (group_tree e) (Pair (block_tree body.items) (else_tree other)))) if_rule u a v b → Shows (statement_tree x) (name statement) u a v b
  shows_if {x} {at} {e} body other is h =
      let tree : Right (Left (Pair (key_leaf keyword.If at) (Pair (group_tree e) (Pair (block_tree body.items) (else_tree other))))) ≡ any_tree x = sym (if_is at e body other) ∙ ap any_tree (sym is) in
      subst (λ (t : Tree Said). Shows (Node (Node t)) (name statement) u a v b) tree (shows_named (shows_inside (shows_right (shows_left h))))

  pub shows_while : {x : statements.Statement} {at : Place} {e : Expression} (body : Vec statements.Statement Global) → x ≡ statements.While at e body
      → Shows (Pair (key_leaf keyword.While at) (Pair (group_tree e) (block_tree body.items))) while_rule u a v b → Shows (statement_tree x) (name statement) u a v b
  shows_while {x} {at} {e} body is h =
      let tree : Right (Right (Left (Pair (key_leaf keyword.While at) (Pair (group_tree e) (block_tree body.items))))) ≡ any_tree x = sym (while_is at e body) ∙ ap any_tree (sym is) in
      subst (λ (t : Tree Said). Shows (Node (Node t)) (name statement) u a v b) tree (shows_named (shows_inside (shows_right (shows_right (shows_left h)))))
