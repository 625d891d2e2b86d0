-- The trees of chips as trees of the grammar. (The book, chapter 1 and appendix 2.)
use Rattle.std.specs.Prelude.{ℕ, Bool, true, false, List, [], ◌∷◌, Option, Some, None}
use Rattle.grammar.specs.Rules.{Tree, Skip, Node, Leaf, Pair, Left, Right, Absent, Present, NoMore, tree_of_list}
use Rattle.hdl_tree.specs.declared.tree.Pin.{Pin}
use Rattle.hdl_tree.specs.declared.tree.Subscript.{Subscript}
use Rattle.hdl_tree.specs.declared.tree.Subscript.TheVariants as subscript
use Rattle.hdl_tree.specs.declared.tree.Selection.{Selection}
use Rattle.hdl_tree.specs.declared.tree.Source.{Source}
use Rattle.hdl_tree.specs.declared.tree.Source.TheVariants as source
use Rattle.hdl_tree.specs.declared.tree.Connection.{Connection}
use Rattle.hdl_tree.specs.declared.tree.Part.{Part}
use Rattle.hdl_tree.specs.declared.tree.Body.{Body}
use Rattle.hdl_tree.specs.declared.tree.Body.TheVariants as body
use Rattle.hdl_tree.specs.declared.tree.Chip.{Chip}
use Rattle.hdl_parser.specs.declared.token.Keyword.{Keyword}
use Rattle.hdl_parser.specs.declared.token.Keyword.TheVariants as keyword
use Rattle.hdl_parser.specs.declared.token.Kind.TheVariants as kind
use Rattle.hdl_parser.specs.Grammar.{Said, Fixed, Text}

abbrev pub name_said : List ℕ → Said
name_said n = Text n

abbrev pub name_leaf : List ℕ → Tree Said
name_leaf n = Leaf (name_said n)

abbrev pub number_said : ℕ → Said
number_said n = Fixed (kind.Number n)

abbrev pub truth : Bool → Keyword
truth true = keyword.True
truth false = keyword.False

abbrev pub constant_said : Bool → Said
constant_said b = Fixed (kind.Keyword (truth b))

-- one or more, with commas between them, and others after them
abbrev pub next_tree : {X : Type 0} → (X → Tree Said) → X → Tree Said
next_tree tree x = Pair Skip (tree x)

abbrev pub row_with : {X : Type 0} → (X → Tree Said) → List X → Tree Said → Tree Said
row_with tree [] more = more
row_with tree (x ∷ xs) more = Pair (tree x) (tree_of_list (next_tree tree) xs more)

-- a keyword, and one or more of a kind up to a semicolon; where there are none of the kind, nothing
-- stands
abbrev pub listing_tree : {X : Type 0} → (X → Tree Said) → List X → Tree Said
listing_tree tree [] = Absent
listing_tree tree (x ∷ xs) = Present (Pair Skip (Pair (row_with tree (x ∷ xs) NoMore) Skip))

abbrev pub width_tree : Option ℕ → Tree Said
width_tree None = Absent
width_tree (Some n) = Present (Pair Skip (Pair (Leaf (number_said n)) Skip))

abbrev pub pin_tree : Pin → Tree Said
pin_tree p = Pair (name_leaf p.name) (width_tree p.width)

abbrev pub last_tree : Option ℕ → Tree Said
last_tree None = Absent
last_tree (Some n) = Present (Pair Skip (Leaf (number_said n)))

abbrev pub range_tree : Subscript → Tree Said
range_tree (subscript.Bit i) = Pair (Leaf (number_said i)) (last_tree None)
range_tree (subscript.Bits i j) = Pair (Leaf (number_said i)) (last_tree (Some j))

-- the number that stands before `..`
abbrev pub first_bit : Subscript → ℕ
first_bit (subscript.Bit i) = i
first_bit (subscript.Bits i j) = i

abbrev pub indices_tree : Subscript → Tree Said
indices_tree s = Node (range_tree s)

abbrev pub subscript_tree : Option Subscript → Tree Said
subscript_tree None = Absent
subscript_tree (Some s) = Present (Pair Skip (Pair (indices_tree s) Skip))

abbrev pub selection_tree : Selection → Tree Said
selection_tree w = Pair (name_leaf w.name) (subscript_tree w.subscript)

abbrev pub source_tree : Source → Tree Said
source_tree (source.Net w) = Left (selection_tree w)
source_tree (source.Constant b) = Right (Leaf (constant_said b))

abbrev pub connection_tree : Connection → Tree Said
connection_tree c = Pair (selection_tree c.pin) (Pair Skip (source_tree c.source))

abbrev pub connections_tree : List Connection → Tree Said
connections_tree cs = row_with connection_tree cs NoMore

abbrev pub part_tree : Part → Tree Said
part_tree p = Pair (name_leaf p.chip) (Pair Skip (Pair (connections_tree p.connections) (Pair Skip Skip)))

abbrev pub parts_tree : List Part → Tree Said
parts_tree ps = Pair Skip (Pair Skip (tree_of_list part_tree ps NoMore))

abbrev pub names_tree : List (List ℕ) → Tree Said
names_tree ns = listing_tree name_leaf ns

abbrev pub builtin_tree : List ℕ → List (List ℕ) → Tree Said
builtin_tree n clocked = Pair Skip (Pair (name_leaf n) (Pair Skip (names_tree clocked)))

abbrev pub body_tree : Body → Tree Said
body_tree (body.Parts ps) = Left (parts_tree ps)
body_tree (body.Builtin n clocked) = Right (builtin_tree n clocked)

abbrev pub pins_tree : List Pin → Tree Said
pins_tree ps = listing_tree pin_tree ps

abbrev pub chip_tree : Chip → Tree Said
chip_tree c = Pair Skip (Pair (name_leaf c.name) (Pair Skip (Pair (pins_tree c.inputs) (Pair (pins_tree c.outputs) (Pair (body_tree c.body) Skip)))))
