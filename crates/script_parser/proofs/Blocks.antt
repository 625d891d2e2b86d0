-- Commands as a list, and as the rows that a tree holds.
use Rattle.std.proofs.Common.{◌≡◌, ℕ, ◌≤◌, List, [], ◌∷◌, ◌++◌, length, refl, ap, sym, ◌∙◌, Vec, Global, arith}
use mathlib.Core.Former.{Count}
use Rattle.grammar.specs.Rules.{Tree, Pair, More}
use Rattle.grammar.proofs.Repeats.{listed-push}
use Rattle.script_parser.specs.declared.tree.Item.{Item}
use Rattle.script_parser.specs.declared.tree.Command as commands
use Rattle.script_parser.specs.Grammar.{Said}
use Rattle.script_parser.specs.Trees.{Commands, Repeat, with_command, row_commands, commands_of, commands_tree, command_tree, list_tree, repeat_tree, item_leaf, items_with}

with_is : (c : commands.Command) (rest : Commands) → commands_tree (with_command c rest) ≡ More (command_tree c) (commands_tree rest)
with_is (commands.Act a) rest = refl
with_is (commands.Repeat' times n row) rest = refl

-- the tree of some commands is that of the list
pub list_is : (cs : List commands.Command) → list_tree cs ≡ commands_tree (commands_of cs)
list_is [] = refl
list_is (c ∷ cs) = ap (More (command_tree c)) (list_is cs) ∙ sym (with_is c (commands_of cs))

rows_are : (n : _) (row : commands.Row_of-Command n) → row_commands row ≡ commands_of (commands.items-the_row-Command n row)
rows_are n commands.end_of-Command = refl
rows_are n (commands.more_of-Command c cs) = ap (with_command c) (rows_are _ cs)

abbrev row_of : commands.Command → (n : Count) × commands.Row_of-Command n
row_of (commands.Repeat' times _ row) = (_, row)
row_of _ = (_, commands.end_of-Command)

body_is : (times : ℕ) (body : Vec commands.Command Global) → row_commands (row_of (commands.Repeat times body)).1 ≡ commands_of body.items
body_is times body =
    let row = row_of (commands.Repeat times body) in
    rows_are row.0 row.1 ∙ ap commands_of (commands.items_hidden-the_row-Command-0 body)

pub repeat_is : (times : ℕ) (body : Vec commands.Command Global) → command_tree (commands.Repeat times body) ≡ repeat_tree times (list_tree body.items)
repeat_is times body =
    ap (λ (cs : Commands). repeat_tree times (commands_tree cs)) (body_is times body) ∙ ap (repeat_tree times) (sym (list_is body.items))

-- a repetition in a list of commands, for those who go through a script
pub repeat_with : (times : ℕ) (body : Vec commands.Command Global) (rest : Commands) → with_command (commands.Repeat times body) rest ≡ Repeat times (commands_of body.items) rest
repeat_with times body rest = ap (λ (cs : Commands). Repeat times cs rest) (body_is times body)

-- items as a list that grows
pub items_with-push : (xs : List Item) (x : Item) (more : Tree Said) → 1 ≤ length xs → items_with (xs ++ x ∷ []) more ≡ items_with xs (More (item_leaf x) more)
items_with-push [] x more h = absurd (omega arith)
items_with-push (y ∷ xs) x more h = ap (λ (t : Tree Said). Pair (item_leaf y) t) (listed-push item_leaf xs x more)
