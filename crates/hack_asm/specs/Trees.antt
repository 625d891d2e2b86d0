-- The lines of an assembly text.
use Rattle.std.specs.Prelude.{ℕ, List, Option, Some, None, option_map}
use Rattle.scan_text.specs.declared.Place.{Place}
use Rattle.grammar.specs.declared.Fault.{Fault}
use Rattle.grammar.specs.Rules.{Tree, Skip, Leaf, Pair, Left, Right, Absent, Present, NoMore, tree_of_list}
use Rattle.grammar.specs.Texts.{Spelled, Refused}
use Rattle.hack_asm.specs.Tokens.{tokens_of, finish}
use Rattle.hack_asm.specs.Grammar.{Said, Letter', Operator', Shift', Several, Jump, Number, Name, assembly, whole}
use Rattle.hack_asm.specs.declared.token.Letter.{Letter}
use Rattle.hack_asm.specs.declared.token.Letter.TheVariants.{Zero, One, A, D, M}
use Rattle.hack_asm.specs.declared.token.Operator.{Operator}
use Rattle.hack_asm.specs.declared.token.Operator.TheVariants.{Plus, Minus, And, Or}
use Rattle.hack_asm.specs.declared.lines.Prefix.{Prefix}
use Rattle.hack_asm.specs.declared.lines.Prefix.TheVariants as prefix
use Rattle.hack_asm.specs.declared.lines.Comp.{Comp}
use Rattle.hack_asm.specs.declared.lines.Comp.TheVariants as comp
use Rattle.hack_asm.specs.declared.lines.Behind.{Behind}
use Rattle.hack_asm.specs.declared.lines.Behind.TheVariants as behinds
use Rattle.hack_asm.specs.declared.lines.Dest.{Dest}
use Rattle.hack_asm.specs.declared.lines.Dest.TheVariants as dest
use Rattle.hack_asm.specs.declared.lines.Compute.{Compute}
use Rattle.hack_asm.specs.declared.lines.Symbol as symbols
use Rattle.hack_asm.specs.declared.lines.Address as addresses
use Rattle.hack_asm.specs.declared.lines.Address.TheVariants as address_case
use Rattle.hack_asm.specs.declared.lines.Item as items
use Rattle.hack_asm.specs.declared.lines.Item.TheVariants as item_case

-- a symbol, an address and an item without where the name lies in memory

pub record Symbol : Type 0 where
  pub name : List ℕ
  pub place : Place

pub data Address : Type 0 where
  number : ℕ → Address
  symbol : Symbol → Address

pub data Item : Type 0 where
  label : Symbol → Item
  address : Address → Item
  compute : Compute → Item

abbrev pub symbol_of : symbols.Symbol → Symbol
symbol_of s = record { name = s.name.now; place = s.place }

abbrev pub address_of : addresses.Address → Address
address_of (address_case.Number n) = number n
address_of (address_case.Symbol s) = symbol (symbol_of s)

abbrev pub item_of : items.Item → Item
item_of (item_case.Label s) = label (symbol_of s)
item_of (item_case.Address a) = address (address_of a)
item_of (item_case.Compute c) = compute c

-- A line is an item or blank.
abbrev pub Line : Type 0
Line = Option Item

abbrev pub line_of : Option items.Item → Line
line_of l = option_map item_of l

-- Trees

abbrev pub AsmTree : Type 0
AsmTree = Tree Said

-- the branch of a letter, with what stands after it, and that of no letter
abbrev pub branch : Letter → AsmTree → AsmTree
branch Zero t = Left (Pair Skip t)
branch One t = Right (Left (Pair Skip t))
branch A t = Right (Right (Left (Pair Skip t)))
branch D t = Right (Right (Right (Left (Pair Skip t))))
branch M t = Right (Right (Right (Right (Left (Pair Skip t)))))

abbrev pub other : AsmTree → AsmTree
other t = Right (Right (Right (Right (Right t))))

abbrev pub operation_tree : Operator → Letter → AsmTree
operation_tree Plus y = Left (Pair (Leaf (Operator' Plus)) (Leaf (Letter' y)))
operation_tree Minus y = Left (Pair (Leaf (Operator' Minus)) (Leaf (Letter' y)))
operation_tree And y = Right (Pair (Leaf (Operator' And)) (Leaf (Letter' y)))
operation_tree Or y = Right (Pair (Leaf (Operator' Or)) (Leaf (Letter' y)))

abbrev pub unary_tree : Prefix → Letter → AsmTree
unary_tree prefix.Minus y = Left (Pair Skip (Leaf (Letter' y)))
unary_tree prefix.Not y = Right (Pair Skip (Leaf (Letter' y)))

abbrev pub behind_tree : Behind → AsmTree
behind_tree (behinds.Operation op y) = Left (operation_tree op y)
behind_tree (behinds.Shift left) = Right (Leaf (Shift' left))

-- a computation whose first letter something stands after
abbrev pub comp_of : Letter → Behind → Comp
comp_of x (behinds.Operation op y) = comp.Pair x op y
comp_of x (behinds.Shift left) = comp.Shifted x left

abbrev pub comp_tree : Comp → AsmTree
comp_tree (comp.Alone x) = branch x Absent
comp_tree (comp.Pair x op y) = branch x (Present (behind_tree (behinds.Operation op y)))
comp_tree (comp.Shifted x left) = branch x (Present (behind_tree (behinds.Shift left)))
comp_tree (comp.Under p y) = other (unary_tree p y)

-- a computation that may have had one register as its destination
abbrev pub bare_tree : Option Letter → Comp → AsmTree
bare_tree None (comp.Alone x) = branch x Absent
bare_tree None (comp.Pair x op y) = branch x (Present (Right (behind_tree (behinds.Operation op y))))
bare_tree None (comp.Shifted x left) = branch x (Present (Right (behind_tree (behinds.Shift left))))
bare_tree None (comp.Under p y) = other (unary_tree p y)
bare_tree (Some x) c = branch x (Present (Left (Pair Skip (comp_tree c))))

abbrev pub assigned_tree : Dest → Comp → AsmTree
assigned_tree (dest.Register d) c = Right (bare_tree d c)
assigned_tree (dest.Several bits) c = Left (Pair (Leaf (Several bits)) (Pair Skip (comp_tree c)))

abbrev pub jump_tree : Option ℕ → AsmTree
jump_tree None = Absent
jump_tree (Some bits) = Present (Pair Skip (Leaf (Jump bits)))

abbrev pub compute_tree : Compute → AsmTree
compute_tree c = Pair (assigned_tree c.dest c.comp) (jump_tree c.jump)

abbrev pub address_tree : Address → AsmTree
address_tree (number n) = Pair Skip (Left (Leaf (Number n)))
address_tree (symbol s) = Pair Skip (Right (Leaf (Name s.name s.place)))

abbrev pub item_tree : Item → AsmTree
item_tree (label s) = Left (Pair Skip (Pair (Leaf (Name s.name s.place)) Skip))
item_tree (address a) = Right (Left (address_tree a))
item_tree (compute c) = Right (Right (compute_tree c))

abbrev pub line_tree : Line → AsmTree
line_tree None = Left Skip
line_tree (Some i) = Right (Pair (item_tree i) Skip)

abbrev pub lines_tree : List Line → AsmTree
lines_tree ls = tree_of_list line_tree ls NoMore

abbrev pub text_tree : List Line → AsmTree
text_tree ls = Pair (lines_tree ls) Skip

-- the text spells the lines
abbrev pub Spells : List ℕ → List Line → Type 0
Spells text ls = Spelled (assembly (finish text)) whole tt (tokens_of text) (text_tree ls)

-- the text spells none, and this is its first fault
abbrev pub Refuses : List ℕ → Fault → Type 0
Refuses text f = Refused (assembly (finish text)) whole tt (tokens_of text) f
