-- The lines of a text are determined by its tree.
use Rattle.std.proofs.Common.{◌≡◌, ℕ, Bool, true, false, cond, List, [], ◌∷◌, Option, Some, None, refl, ap, sym, ◌∙◌}
use Rattle.grammar.specs.Rules.{Skip, Leaf, Pair, Left, Right, Absent, Present, More}
use Rattle.grammar.proofs.Wholes.{one_tree}
use Rattle.hack_asm.specs.declared.token.Letter.{Letter}
use Rattle.hack_asm.specs.declared.token.Letter.TheVariants.{Zero, One, A, D, M}
use Rattle.hack_asm.specs.declared.token.Operator.{Operator}
use Rattle.hack_asm.specs.declared.token.Operator.TheVariants.{Plus, Minus, And, Or}
use Rattle.hack_asm.specs.declared.lines.Prefix.TheVariants as prefix
use Rattle.hack_asm.specs.declared.lines.Comp.{Comp}
use Rattle.hack_asm.specs.declared.lines.Comp.TheVariants as comp
use Rattle.hack_asm.specs.declared.lines.Dest.{Dest}
use Rattle.hack_asm.specs.declared.lines.Dest.TheVariants as dest
use Rattle.hack_asm.specs.declared.lines.Compute.{Compute}
use Rattle.hack_asm.specs.Tokens.{tokens_of, finish}
use Rattle.hack_asm.specs.Grammar.{Said, Letter', Operator', Shift', Several, Jump, Number, Name, LineEnd, assembly, whole}
use Rattle.hack_asm.specs.Trees.{AsmTree, Symbol, Address, Item, Line, number, symbol, label, address, compute, branch, operation_tree, comp_tree, bare_tree, assigned_tree, jump_tree, compute_tree, address_tree, item_tree, line_tree, lines_tree, text_tree, Spells}

-- the parts of a tree

abbrev is_left : AsmTree → Bool
is_left (Left t) = true
is_left _ = false

abbrev into : AsmTree → AsmTree
into (Left t) = t
into (Right t) = t
into (Present t) = t
into _ = Skip

abbrev one : AsmTree → AsmTree
one (Pair x y) = x
one (More x y) = x
one _ = Skip

abbrev two : AsmTree → AsmTree
two (Pair x y) = y
two (More x y) = y
two _ = Skip

abbrev is_present : AsmTree → Bool
is_present (Present t) = true
is_present _ = false

abbrev is_more : AsmTree → Bool
is_more (More x y) = true
is_more _ = false

abbrev leaf : AsmTree → Said
leaf (Leaf v) = v
leaf _ = LineEnd

abbrev the_letter : Said → Letter
the_letter (Letter' x) = x
the_letter _ = Zero

abbrev the_operator : Said → Operator
the_operator (Operator' op) = op
the_operator _ = Plus

abbrev the_side : Said → Bool
the_side (Shift' left) = left
the_side _ = false

abbrev the_number : Said → ℕ
the_number (Number n) = n
the_number (Several n) = n
the_number (Jump n) = n
the_number _ = 0

abbrev the_symbol : Said → Symbol → Symbol
the_symbol (Name text at) s = record { name = text; place = at }
the_symbol _ s = s

-- the letter of a branch, what stands after it, and the branch of no letter

abbrev letter_from : AsmTree → Option Letter
letter_from t = cond (is_left t) (Some Zero) (cond (is_left (into t)) (Some One) (cond (is_left (into (into t))) (Some A) (cond (is_left (into (into (into t)))) (Some D) (cond (is_left (into (into (into (into t))))) (Some M) None))))

abbrev core : AsmTree → AsmTree
core t = cond (is_left t) (into t) (cond (is_left (into t)) (into (into t)) (cond (is_left (into (into t))) (into (into (into t))) (cond (is_left (into (into (into t)))) (into (into (into (into t)))) (into (into (into (into (into t))))))))

letter_back : (x : Letter) (t : AsmTree) → letter_from (branch x t) ≡ Some x
letter_back Zero t = refl
letter_back One t = refl
letter_back A t = refl
letter_back D t = refl
letter_back M t = refl

core_back : (x : Letter) (t : AsmTree) → core (branch x t) ≡ Pair Skip t
core_back Zero t = refl
core_back One t = refl
core_back A t = refl
core_back D t = refl
core_back M t = refl

abbrev pair_from : Letter → AsmTree → Comp
pair_from x t = comp.Pair x (the_operator (leaf (one (into t)))) (the_letter (leaf (two (into t))))

abbrev under_from : AsmTree → Comp
under_from t = comp.Under (cond (is_left t) prefix.Minus prefix.Not) (the_letter (leaf (two (into t))))

-- a computation with something after its letter
abbrev more_from : Letter → AsmTree → Comp
more_from x t = cond (is_left t) (pair_from x (into t)) (comp.Shifted x (the_side (leaf (into t))))

-- a computation, from its letter and its core
abbrev comp_by : Option Letter → AsmTree → Comp
comp_by (Some x) t = cond (is_present (two t)) (more_from x (into (two t))) (comp.Alone x)
comp_by None t = under_from t

abbrev comp_from : AsmTree → Comp
comp_from t = comp_by (letter_from t) (core t)

pair_back : (x : Letter) (op : Operator) (y : Letter) → pair_from x (operation_tree op y) ≡ comp.Pair x op y
pair_back x Plus y = refl
pair_back x Minus y = refl
pair_back x And y = refl
pair_back x Or y = refl

comp_back : (c : Comp) → comp_from (comp_tree c) ≡ c
comp_back (comp.Alone x) = λ i. comp_by (letter_back x Absent i) (core_back x Absent i)
comp_back (comp.Pair x op y) = (λ i. comp_by (letter_back x (Present (Left (operation_tree op y))) i) (core_back x (Present (Left (operation_tree op y))) i)) ∙ pair_back x op y
comp_back (comp.Shifted x left) = λ i. comp_by (letter_back x (Present (Right (Leaf (Shift' left)))) i) (core_back x (Present (Right (Leaf (Shift' left)))) i)
comp_back (comp.Under prefix.Minus y) = refl
comp_back (comp.Under prefix.Not y) = refl

-- after a first letter: an assignment, an operation, or nothing
abbrev bare_by : Option Letter → AsmTree → Option Letter × Comp
bare_by (Some x) t = cond (is_present (two t)) (cond (is_left (into (two t))) (Some x, comp_from (two (into (into (two t))))) (None, more_from x (into (into (two t))))) (None, comp.Alone x)
bare_by None t = (None, under_from t)

abbrev bare_from : AsmTree → Option Letter × Comp
bare_from t = bare_by (letter_from t) (core t)

bare_back : (d : Option Letter) (c : Comp) → bare_from (bare_tree d c) ≡ (d, c)
bare_back None (comp.Alone x) = λ i. bare_by (letter_back x Absent i) (core_back x Absent i)
bare_back None (comp.Pair x op y) =
    (λ i. bare_by (letter_back x (Present (Right (Left (operation_tree op y)))) i) (core_back x (Present (Right (Left (operation_tree op y)))) i)) ∙ (λ i. (None, pair_back x op y i))
bare_back None (comp.Shifted x left) = λ i. bare_by (letter_back x (Present (Right (Right (Leaf (Shift' left))))) i) (core_back x (Present (Right (Right (Leaf (Shift' left))))) i)
bare_back None (comp.Under prefix.Minus y) = refl
bare_back None (comp.Under prefix.Not y) = refl
bare_back (Some x) c =
    (λ i. bare_by (letter_back x (Present (Left (Pair Skip (comp_tree c)))) i) (core_back x (Present (Left (Pair Skip (comp_tree c)))) i)) ∙ (λ i. (Some x, comp_back c i))

abbrev dest_from : AsmTree → Dest
dest_from t = cond (is_left t) (dest.Several (the_number (leaf (one (into t))))) (dest.Register (bare_from (into t)).0)

abbrev value_from : AsmTree → Comp
value_from t = cond (is_left t) (comp_from (two (two (into t)))) (bare_from (into t)).1

dest_back : (d : Dest) (c : Comp) → dest_from (assigned_tree d c) ≡ d
dest_back (dest.Register d) c = ap (λ (p : Option Letter × Comp). dest.Register p.0) (bare_back d c)
dest_back (dest.Several n) c = refl

value_back : (d : Dest) (c : Comp) → value_from (assigned_tree d c) ≡ c
value_back (dest.Register d) c = ap (λ (p : Option Letter × Comp). p.1) (bare_back d c)
value_back (dest.Several n) c = comp_back c

abbrev jump_from : AsmTree → Option ℕ
jump_from t = cond (is_present t) (Some (the_number (leaf (two (into t))))) None

jump_back : (j : Option ℕ) → jump_from (jump_tree j) ≡ j
jump_back None = refl
jump_back (Some n) = refl

abbrev compute_from : AsmTree → Compute
compute_from t = record { dest = dest_from (one t); comp = value_from (one t); jump = jump_from (two t) }

compute_back : (c : Compute) → compute_from (compute_tree c) ≡ c
compute_back c = λ i. record { dest = dest_back c.dest c.comp i; comp = value_back c.dest c.comp i; jump = jump_back c.jump i }

abbrev symbol_from : AsmTree → Symbol
symbol_from t = the_symbol (leaf t) (record { name = []; place = record { line = 0; column = 0 } })

abbrev address_from : AsmTree → Address
address_from t = cond (is_left (two t)) (number (the_number (leaf (into (two t))))) (symbol (symbol_from (into (two t))))

address_back : (a : Address) → address_from (address_tree a) ≡ a
address_back (number n) = refl
address_back (symbol s) = refl

abbrev item_from : AsmTree → Item
item_from t = cond (is_left t) (label (symbol_from (one (two (into t))))) (cond (is_left (into t)) (address (address_from (into (into t)))) (compute (compute_from (into (into t)))))

item_back : (i : Item) → item_from (item_tree i) ≡ i
item_back (label s) = refl
item_back (address a) = ap address (address_back a)
item_back (compute c) = ap compute (compute_back c)

abbrev line_from : AsmTree → Line
line_from t = cond (is_left t) None (Some (item_from (one (into t))))

line_back : (l : Line) → line_from (line_tree l) ≡ l
line_back None = refl
line_back (Some i) = ap (λ (j : Item). Some j) (item_back i)

pub lines_are : (ls ms : List Line) → lines_tree ls ≡ lines_tree ms → ls ≡ ms
lines_are [] [] e = refl
lines_are [] (m ∷ ms) e = absurd cc
lines_are (l ∷ ls) [] e = absurd cc
lines_are (l ∷ ls) (m ∷ ms) e =
    let first = sym (line_back l) ∙ ap (λ (t : AsmTree). line_from (one t)) e ∙ line_back m in
    let rest = lines_are ls ms (ap two e) in
    λ i. first i ∷ rest i

pub spelled_once : (text : List ℕ) (ls ms : List Line) → Spells text ls → Spells text ms → ls ≡ ms
spelled_once text ls ms a b = lines_are ls ms (ap one (one_tree (assembly (finish text)) whole tt (tokens_of text) (text_tree ls) (text_tree ms) a b))
