-- Scripts, and their trees as trees of the grammar (book, appendix 3).
use Rattle.std.specs.Prelude.{ℕ, List, [], ◌∷◌}
use Rattle.grammar.specs.declared.Fault.{Fault}
use Rattle.grammar.specs.Rules.{Tree, Skip, Node, Leaf, Pair, Left, Right, NoMore, More, tree_of_list}
use Rattle.grammar.specs.Texts.{Spelled, Refused, OneReading, SomeReading}
use Rattle.script_parser.specs.declared.tree.Step.{Step}
use Rattle.script_parser.specs.declared.tree.Step.TheVariants as step
use Rattle.script_parser.specs.declared.tree.Placed.{Placed}
use Rattle.script_parser.specs.declared.tree.Item.{Item}
use Rattle.script_parser.specs.declared.tree.Act.{Act}
use Rattle.script_parser.specs.declared.tree.Act.TheVariants as act
use Rattle.script_parser.specs.declared.tree.Command as commands
use Rattle.script_parser.specs.declared.token.Role.{Role}
use Rattle.script_parser.specs.declared.token.Role.TheVariants as role
use Rattle.script_parser.specs.declared.token.Kind.TheVariants as kind
use Rattle.script_parser.specs.Tokens.{tokens_of, finish}
use Rattle.script_parser.specs.Grammar.{Said, Fixed, Word', Count, Value, Shown, Text', script, whole, outermost}

-- The commands of a script in order: an act, or commands that are repeated, and what follows.
pub data Commands : Type 0 where
  End : Commands
  Then : Act → Commands → Commands
  Repeat : ℕ → Commands → Commands → Commands

-- the commands of a script that was read
abbrev mutual
  pub with_command : commands.Command → Commands → Commands
  with_command (commands.Act a) rest = Then a rest
  with_command (commands.Repeat' times n row) rest = Repeat times (row_commands row) rest

  pub row_commands : {n : _} → commands.Row_of-Command n → Commands
  row_commands commands.end_of-Command = End
  row_commands (commands.more_of-Command c cs) = with_command c (row_commands cs)

abbrev pub commands_of : List commands.Command → Commands
commands_of [] = End
commands_of (c ∷ cs) = with_command c (commands_of cs)

abbrev pub role_of_step : Step → Role
role_of_step step.Eval = role.Eval
role_of_step step.Tick = role.Tick
role_of_step step.Tock = role.Tock
role_of_step step.TickTock = role.TickTock
role_of_step step.Output = role.Output

abbrev pub step_said : Step → Said
step_said s = Fixed (kind.Word (role_of_step s))

abbrev pub item_leaf : Item → Tree Said
item_leaf i = Leaf (Shown i)

-- one item or more, and others after them
abbrev pub items_with : List Item → Tree Said → Tree Said
items_with [] more = more
items_with (i ∷ is) more = Pair (item_leaf i) (tree_of_list item_leaf is more)

-- a word after the one that begins the command
abbrev pub named_tree : Placed → Tree Said
named_tree f = Pair Skip (Leaf (Word' f))

abbrev pub listing_tree : List Item → Tree Said
listing_tree is = Pair Skip (items_with is NoMore)

abbrev pub setting_tree : Placed → ℕ → Tree Said
setting_tree v w = Pair Skip (Pair (Leaf (Word' v)) (Leaf (Value w)))

abbrev pub echo_tree : List ℕ → Tree Said
echo_tree t = Pair Skip (Leaf (Text' t))

abbrev pub rom_tree : Placed → Placed → Tree Said
rom_tree r f = Pair (Leaf (Word' r)) (named_tree f)

abbrev pub act_tree : Act → Tree Said
act_tree (act.Step s) = Left (Leaf (step_said s))
act_tree (act.Load f) = Right (Left (named_tree f))
act_tree (act.OutputFile f) = Right (Right (Left (named_tree f)))
act_tree (act.CompareTo f) = Right (Right (Right (Left (named_tree f))))
act_tree (act.OutputList is) = Right (Right (Right (Right (Left (listing_tree is)))))
act_tree (act.Set v w) = Right (Right (Right (Right (Right (Left (setting_tree v w))))))
act_tree (act.Echo t) = Right (Right (Right (Right (Right (Right (Left (echo_tree t)))))))
act_tree (act.LoadRom r f) = Right (Right (Right (Right (Right (Right (Right (rom_tree r f)))))))

-- an act as a command
abbrev pub done_tree : Act → Tree Said
done_tree a = Node (Right (Pair (act_tree a) Skip))

-- what stands in braces
abbrev pub braces_tree : Tree Said → Tree Said
braces_tree body = Pair Skip (Pair body Skip)

-- a count, and commands in braces
abbrev pub parts_tree : ℕ → Tree Said → Tree Said
parts_tree times body = Pair Skip (Pair (Leaf (Count times)) (braces_tree body))

-- a repetition as a command
abbrev pub repeat_tree : ℕ → Tree Said → Tree Said
repeat_tree times body = Node (Left (Node (parts_tree times body)))

abbrev pub commands_tree : Commands → Tree Said
commands_tree End = NoMore
commands_tree (Then a rest) = More (done_tree a) (commands_tree rest)
commands_tree (Repeat times body rest) = More (repeat_tree times (commands_tree body)) (commands_tree rest)

-- the tree of a command that was read
abbrev pub command_tree : commands.Command → Tree Said
command_tree (commands.Act a) = done_tree a
command_tree (commands.Repeat' times n row) = repeat_tree times (commands_tree (row_commands row))

abbrev pub list_tree : List commands.Command → Tree Said
list_tree cs = tree_of_list command_tree cs NoMore

-- the tree of a whole text
abbrev pub whole_tree : Commands → Tree Said
whole_tree s = Pair (commands_tree s) Skip

-- the text spells the script
abbrev pub Spells : List ℕ → Commands → Type 0
Spells text s = Spelled (script (finish text)) whole outermost (tokens_of text) (whole_tree s)

-- the text spells none, and this is its first fault
abbrev pub Refuses : List ℕ → Fault → Type 0
Refuses text f = Refused (script (finish text)) whole outermost (tokens_of text) f

-- The law of reading: a text spells at most one script, has at most one first fault, and not both.
abbrev pub ReadingLaw : Type 0
ReadingLaw = (text : List ℕ) → OneReading Commands (Spells text) (Refuses text)

-- The law of all texts: each spells a script or is refused.
abbrev pub TotalLaw : Type 0
TotalLaw = (text : List ℕ) → SomeReading Commands (Spells text) (Refuses text)
