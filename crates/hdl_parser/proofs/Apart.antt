-- Two chips with the same tree are the same chip.
use Rattle.std.proofs.Common.{◌≡◌, ℕ, true, false, List, [], ◌∷◌, Option, Some, None, refl, ap}
use Rattle.grammar.specs.Rules.{Tree, Node, Leaf, Pair, Left, Right, Present, NoMore, More, tree_of_list}
use Rattle.hdl_tree.specs.declared.tree.Pin.{Pin}
use Rattle.hdl_tree.specs.declared.tree.Subscript.{Subscript}
use Rattle.hdl_tree.specs.declared.tree.Subscript.TheVariants as sub
use Rattle.hdl_tree.specs.declared.tree.Selection.{Selection}
use Rattle.hdl_tree.specs.declared.tree.Source.{Source}
use Rattle.hdl_tree.specs.declared.tree.Source.TheVariants as from
use Rattle.hdl_tree.specs.declared.tree.Connection.{Connection}
use Rattle.hdl_tree.specs.declared.tree.Part.{Part}
use Rattle.hdl_tree.specs.declared.tree.Body.{Body}
use Rattle.hdl_tree.specs.declared.tree.Body.TheVariants as made_of
use Rattle.hdl_tree.specs.declared.tree.Chip.{Chip}
use Rattle.hdl_parser.specs.Grammar.{Said}
use Rattle.hdl_parser.specs.Trees.{name_leaf, number_said, next_tree, row_with, listing_tree, width_tree, pin_tree, last_tree, range_tree, subscript_tree, selection_tree, source_tree, connection_tree, part_tree, body_tree, chip_tree}
use Rattle.hdl_parser.specs.Spells.{whole_tree}

abbrev T : Type 0
T = Tree Said

first_is : {x y z w : T} → Pair x y ≡ Pair z w → x ≡ z
first_is e = cc

second_is : {x y z w : T} → Pair x y ≡ Pair z w → y ≡ w
second_is e = cc

head_is : {x y z w : T} → More x y ≡ More z w → x ≡ z
head_is e = cc

tail_is : {x y z w : T} → More x y ≡ More z w → y ≡ w
tail_is e = cc

inner_is : {x y : T} → Present x ≡ Present y → x ≡ y
inner_is e = cc

counted_is : {x y : T} → Node x ≡ Node y → x ≡ y
counted_is e = cc

left_is : {x y : T} → Left x ≡ Left y → x ≡ y
left_is e = cc

right_is : {x y : T} → Right x ≡ Right y → x ≡ y
right_is e = cc

name_apart : (m n : List ℕ) → name_leaf m ≡ name_leaf n → m ≡ n
name_apart m n e = cc

number_apart : (m n : ℕ) → Leaf (number_said m) ≡ Leaf (number_said n) → m ≡ n
number_apart m n e = cc

width_apart : (w v : Option ℕ) → width_tree w ≡ width_tree v → w ≡ v
width_apart None None e = refl
width_apart None (Some n) e = absurd cc
width_apart (Some m) None e = absurd cc
width_apart (Some m) (Some n) e = ap Some (number_apart m n (first_is (second_is (inner_is e))))

pin_apart : (p q : Pin) → pin_tree p ≡ pin_tree q → p ≡ q
pin_apart p q e =
    let n = name_apart p.name q.name (first_is e) in
    let w = width_apart p.width q.width (second_is e) in
    λ i. record { name = n i; width = w i }

module _ {X : Type 0} (tree : X → T) (apart : (x y : X) → tree x ≡ tree y → x ≡ y) where
  listed_apart : (xs ys : List X) → tree_of_list tree xs NoMore ≡ tree_of_list tree ys NoMore → xs ≡ ys
  listed_apart [] [] e = refl
  listed_apart [] (y ∷ ys) e = absurd cc
  listed_apart (x ∷ xs) [] e = absurd cc
  listed_apart (x ∷ xs) (y ∷ ys) e =
      let p = apart x y (head_is e) in
      let q = listed_apart xs ys (tail_is e) in
      λ i. p i ∷ q i

module _ {X : Type 0} (tree : X → T) (apart : (x y : X) → tree x ≡ tree y → x ≡ y) where
  next_apart : (x y : X) → next_tree tree x ≡ next_tree tree y → x ≡ y
  next_apart x y e = apart x y (second_is e)

  row_apart : (xs ys : List X) → row_with tree xs NoMore ≡ row_with tree ys NoMore → xs ≡ ys
  row_apart [] [] e = refl
  row_apart [] (y ∷ ys) e = absurd cc
  row_apart (x ∷ xs) [] e = absurd cc
  row_apart (x ∷ xs) (y ∷ ys) e =
      let p = apart x y (first_is e) in
      let q = listed_apart (next_tree tree) next_apart xs ys (second_is e) in
      λ i. p i ∷ q i

  listing_apart : (xs ys : List X) → listing_tree tree xs ≡ listing_tree tree ys → xs ≡ ys
  listing_apart [] [] e = refl
  listing_apart [] (y ∷ ys) e = absurd cc
  listing_apart (x ∷ xs) [] e = absurd cc
  listing_apart (x ∷ xs) (y ∷ ys) e = row_apart (x ∷ xs) (y ∷ ys) (first_is (second_is (inner_is e)))

range_apart : (s t : Subscript) → range_tree s ≡ range_tree t → s ≡ t
range_apart (sub.Bit i) (sub.Bit j) e = ap sub.Bit (number_apart i j (first_is e))
range_apart (sub.Bit i) (sub.Bits j k) e = absurd (let bad : last_tree None ≡ last_tree (Some k) = second_is e in let none : ⊥ = cc in none)
range_apart (sub.Bits i j) (sub.Bit k) e = absurd (let bad : last_tree (Some j) ≡ last_tree None = second_is e in let none : ⊥ = cc in none)
range_apart (sub.Bits i j) (sub.Bits k l) e =
    let p = number_apart i k (first_is e) in
    let q = number_apart j l (second_is (inner_is (second_is e))) in
    λ n. sub.Bits (p n) (q n)

subscript_apart : (s t : Option Subscript) → subscript_tree s ≡ subscript_tree t → s ≡ t
subscript_apart None None e = refl
subscript_apart None (Some t) e = absurd cc
subscript_apart (Some s) None e = absurd cc
subscript_apart (Some s) (Some t) e = ap Some (range_apart s t (counted_is (first_is (second_is (inner_is e)))))

selection_apart : (s t : Selection) → selection_tree s ≡ selection_tree t → s ≡ t
selection_apart s t e =
    let n = name_apart s.name t.name (first_is e) in
    let b = subscript_apart s.subscript t.subscript (second_is e) in
    λ i. record { name = n i; subscript = b i }

source_apart : (s t : Source) → source_tree s ≡ source_tree t → s ≡ t
source_apart (from.Net s) (from.Net t) e = ap from.Net (selection_apart s t (left_is e))
source_apart (from.Net s) (from.Constant b) e = absurd cc
source_apart (from.Constant b) (from.Net t) e = absurd cc
source_apart (from.Constant true) (from.Constant true) e = refl
source_apart (from.Constant true) (from.Constant false) e = absurd cc
source_apart (from.Constant false) (from.Constant true) e = absurd cc
source_apart (from.Constant false) (from.Constant false) e = refl

connection_apart : (c d : Connection) → connection_tree c ≡ connection_tree d → c ≡ d
connection_apart c d e =
    let p = selection_apart c.pin d.pin (first_is e) in
    let s = source_apart c.source d.source (second_is (second_is e)) in
    λ i. record { pin = p i; source = s i }

part_apart : (p q : Part) → part_tree p ≡ part_tree q → p ≡ q
part_apart p q e =
    let n = name_apart p.chip q.chip (first_is e) in
    let c = row_apart connection_tree connection_apart p.connections q.connections (first_is (second_is (second_is e))) in
    λ i. record { chip = n i; connections = c i }

body_apart : (b d : Body) → body_tree b ≡ body_tree d → b ≡ d
body_apart (made_of.Parts ps) (made_of.Parts qs) e = ap made_of.Parts (listed_apart part_tree part_apart ps qs (second_is (second_is (left_is e))))
body_apart (made_of.Parts ps) (made_of.Builtin n clocked) e = absurd cc
body_apart (made_of.Builtin n clocked) (made_of.Parts qs) e = absurd cc
body_apart (made_of.Builtin n clocked) (made_of.Builtin m ticked) e =
    let behind = second_is (right_is e) in
    let p = name_apart n m (first_is behind) in
    let q = listing_apart name_leaf name_apart clocked ticked (second_is (second_is behind)) in
    λ i. made_of.Builtin (p i) (q i)

chip_apart : (c d : Chip) → chip_tree c ≡ chip_tree d → c ≡ d
chip_apart c d e =
    let named = second_is e in
    let fed = second_is (second_is named) in
    let giving = second_is fed in
    let n = name_apart c.name d.name (first_is named) in
    let i = listing_apart pin_tree pin_apart c.inputs d.inputs (first_is fed) in
    let o = listing_apart pin_tree pin_apart c.outputs d.outputs (first_is giving) in
    let b = body_apart c.body d.body (first_is (second_is giving)) in
    λ j. record { name = n j; inputs = i j; outputs = o j; body = b j }

pub apart : (c d : Chip) → whole_tree c ≡ whole_tree d → c ≡ d
apart c d e = chip_apart c d (first_is e)
