-- Two scripts with the same tree are the same script.
use Rattle.std.proofs.Common.{◌≡◌, ℕ, List, [], ◌∷◌, refl, sym, ap, ◌∙◌}
use Rattle.scan_text.specs.Text.{start}
use Rattle.grammar.specs.Rules.{Tree, Leaf, Pair, Left, Right, NoMore, More, tree_of_list}
use Rattle.script_parser.specs.declared.tree.Placed.{Placed}
use Rattle.script_parser.specs.declared.tree.Step.{Step}
use Rattle.script_parser.specs.declared.tree.Step.TheVariants as step
use Rattle.script_parser.specs.declared.tree.Item.{Item}
use Rattle.script_columns.specs.declared.layout.Format.TheVariants as format
use Rattle.script_parser.specs.declared.tree.Act.{Act}
use Rattle.script_parser.specs.declared.tree.Act.TheVariants as act
use Rattle.script_parser.specs.declared.token.Role.{Role}
use Rattle.script_parser.specs.declared.token.Role.TheVariants as role
use Rattle.script_parser.specs.declared.token.Kind.{Kind}
use Rattle.script_parser.specs.declared.token.Kind.TheVariants as kind
use Rattle.script_parser.specs.Grammar.{Said, Fixed, Word', Count, Value, Shown, Text'}
use Rattle.script_parser.specs.Trees.{Commands, End, Then, Repeat, item_leaf, items_with, act_tree, commands_tree, whole_tree}

-- what stands at a place of a tree, and something where nothing does
abbrev nowhere : Placed
nowhere = record { text = []; place = start }

abbrev front_of : Tree Said → Tree Said
front_of (Pair x y) = x
front_of t = t

abbrev rear_of : Tree Said → Tree Said
rear_of (Pair x y) = y
rear_of t = t

abbrev said_in : Tree Said → Said
said_in (Leaf v) = v
said_in t = Count 0

abbrev word_in : Said → Placed
word_in (Word' w) = w
word_in v = nowhere

abbrev value_in : Said → ℕ
value_in (Value n) = n
value_in v = 0

abbrev text_in : Said → List ℕ
text_in (Text' t) = t
text_in v = []

abbrev item_in : Said → Item
item_in (Shown i) = i
item_in v = record { variable = nowhere; layout = record { format = format.Binary; left = 0; shown = 0; right = 0 } }

abbrev step_of_role : Role → Step
step_of_role role.Tick = step.Tick
step_of_role role.Tock = step.Tock
step_of_role role.TickTock = step.TickTock
step_of_role role.Output = step.Output
step_of_role r = step.Eval

abbrev step_of_kind : Kind → Step
step_of_kind (kind.Word r) = step_of_role r
step_of_kind k = step.Eval

abbrev step_in : Said → Step
step_in (Fixed k) = step_of_kind k
step_in v = step.Eval

abbrev more_items : Tree Said → List Item
more_items (More x y) = item_in (said_in x) ∷ more_items y
more_items t = []

abbrev items_in : Tree Said → List Item
items_in (Pair x y) = item_in (said_in x) ∷ more_items y
items_in t = []

abbrev word_at : Tree Said → Placed
word_at t = word_in (said_in (rear_of t))

abbrev echo_or_rom : Tree Said → Act
echo_or_rom (Left x) = act.Echo (text_in (said_in (rear_of x)))
echo_or_rom (Right x) = act.LoadRom (word_in (said_in (front_of x))) (word_at (rear_of x))
echo_or_rom t = act.Step step.Eval

abbrev set_or : Tree Said → Act
set_or (Left x) = act.Set (word_in (said_in (front_of (rear_of x)))) (value_in (said_in (rear_of (rear_of x))))
set_or (Right x) = echo_or_rom x
set_or t = act.Step step.Eval

abbrev list_or : Tree Said → Act
list_or (Left x) = act.OutputList (items_in (rear_of x))
list_or (Right x) = set_or x
list_or t = act.Step step.Eval

abbrev compare_or : Tree Said → Act
compare_or (Left x) = act.CompareTo (word_at x)
compare_or (Right x) = list_or x
compare_or t = act.Step step.Eval

abbrev file_or : Tree Said → Act
file_or (Left x) = act.OutputFile (word_at x)
file_or (Right x) = compare_or x
file_or t = act.Step step.Eval

abbrev load_or : Tree Said → Act
load_or (Left x) = act.Load (word_at x)
load_or (Right x) = file_or x
load_or t = act.Step step.Eval

abbrev act_in : Tree Said → Act
act_in (Left x) = act.Step (step_in (said_in x))
act_in (Right x) = load_or x
act_in t = act.Step step.Eval

more_are : (is : List Item) → more_items (tree_of_list item_leaf is NoMore) ≡ is
more_are [] = refl
more_are (i ∷ is) = ap (λ (l : List Item). i ∷ l) (more_are is)

items_are : (is : List Item) → items_in (items_with is NoMore) ≡ is
items_are [] = refl
items_are (i ∷ is) = ap (λ (l : List Item). i ∷ l) (more_are is)

act_is : (a : Act) → act_in (act_tree a) ≡ a
act_is (act.Step step.Eval) = refl
act_is (act.Step step.Tick) = refl
act_is (act.Step step.Tock) = refl
act_is (act.Step step.TickTock) = refl
act_is (act.Step step.Output) = refl
act_is (act.Load f) = refl
act_is (act.OutputFile f) = refl
act_is (act.CompareTo f) = refl
act_is (act.OutputList is) = ap act.OutputList (items_are is)
act_is (act.Set v w) = refl
act_is (act.Echo t) = refl
act_is (act.LoadRom r f) = refl

act_apart : (a b : Act) → act_tree a ≡ act_tree b → a ≡ b
act_apart a b e = sym (act_is a) ∙ ap act_in e ∙ act_is b

commands_apart : (c d : Commands) → commands_tree c ≡ commands_tree d → c ≡ d
commands_apart End End e = refl
commands_apart End (Then b d) e = absurd cc
commands_apart End (Repeat n b d) e = absurd cc
commands_apart (Then a c) End e = absurd cc
commands_apart (Then a c) (Then b d) e =
    let x : act_tree a ≡ act_tree b = cc in
    let y : commands_tree c ≡ commands_tree d = cc in
    let p = act_apart a b x in
    let q = commands_apart c d y in
    λ i. Then (p i) (q i)
commands_apart (Then a c) (Repeat n b d) e = absurd cc
commands_apart (Repeat m a c) End e = absurd cc
commands_apart (Repeat m a c) (Then b d) e = absurd cc
commands_apart (Repeat m a c) (Repeat n b d) e =
    let n_is : m ≡ n = cc in
    let x : commands_tree a ≡ commands_tree b = cc in
    let y : commands_tree c ≡ commands_tree d = cc in
    let p = commands_apart a b x in
    let q = commands_apart c d y in
    λ i. Repeat (n_is i) (p i) (q i)

pub apart : (c d : Commands) → whole_tree c ≡ whole_tree d → c ≡ d
apart c d e = let x : commands_tree c ≡ commands_tree d = cc in commands_apart c d x
