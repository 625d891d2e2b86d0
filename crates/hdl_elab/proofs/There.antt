-- What the directory of an elaborated chip names is there.
use Rattle.std.proofs.Common.{◌≡◌, ℕ, zero, suc, ◌+◌, ◌<◌, ◌⊎◌, inl, inr, List, [], ◌∷◌, ◌++◌, get_or, length, length-append, map, Option, Some, None, refl, sym, ap, subst, ◌∙◌, arith}
use Rattle.std.specs.Prelude.{IfSome, slice_get}
use Rattle.std.specs.List.{All}
use Rattle.std.proofs.lemmas.Option.{slice_get-get_or, slice_get_within}
use Rattle.hdl_tree.specs.declared.tree.Pin.{Pin}
use Rattle.hdl_tree.specs.declared.tree.Part.{Part}
use Rattle.hdl_tree.specs.declared.library.Entry.{Entry}
use Rattle.hdl_tree.specs.declared.ends.End.{End}
use Rattle.hdl_tree.specs.declared.ends.End.TheVariants as ends
use Rattle.hdl_tree.specs.Chips.{Chips, end_of, find_chip, parts_of, pin_width}
use Rattle.hdl_tree.specs.Behaviour.{ChipWired, chip_at, chip_of}
use Rattle.hdl_check.specs.Tables.{BitOf, bits_of}
use Rattle.hdl_plans.proofs.Walks.{part_at}
use Rattle.netlist.specs.declared.node.Node.TheVariants as nodes
use Rattle.hdl_nodes.specs.Numbering.{EndStands}
use Rattle.hdl_flatten.specs.declared.flat.PinAt.{PinAt}
use Rattle.hdl_flatten.specs.declared.flat.PartAt.{PartAt}
use Rattle.hdl_flatten.specs.Flat.{block_at, nodes_at, pin_at}
use Rattle.hdl_flatten.specs.Flat as flat
use Rattle.hdl_flatten.specs.Trees.{PartIn, AreListed, none, next, all_bits, within}
use Rattle.hdl_elab.specs.declared.put.Elab.{Elab}
use Rattle.hdl_elab.specs.Elaborated.{IsElaborated}
use Rattle.hdl_elab.specs.Directory.{ThereLaw}
use Rattle.hdl_elab.proofs.Behaves.{bits_long, comes}
use Rattle.hdl_elab.proofs.Trees.{Stands, part_in, stands_left, stands_right}

-- ---- items of lists

all_by : {X : Type 0} (P : X → Type 0) (xs : List X) → ((k : ℕ) (x : X) → slice_get xs k ≡ Some x → P x) → All P xs
all_by P xs h = λ k d lt. h k (get_or xs k d) (slice_get-get_or xs k d lt)

pub joined : {X : Type 0} (xs ys : List X) (k : ℕ) (x : X) → slice_get (xs ++ ys) k ≡ Some x → (slice_get xs k ≡ Some x) ⊎ Stands ys x
joined [] ys k x e = inr (record { k = k; there = e })
joined (y ∷ xs) ys zero x e = inl e
joined (y ∷ xs) ys (suc k) x e = joined xs ys k x e

pub left_of : {X : Type 0} (xs ys : List X) (k : ℕ) (x : X) → k < length xs → slice_get (xs ++ ys) k ≡ Some x → slice_get xs k ≡ Some x
left_of [] ys k x lt e = absurd (omega arith)
left_of (y ∷ xs) ys zero x lt e = e
left_of (y ∷ xs) ys (suc k) x lt e = left_of xs ys k x (omega arith) e

long_map : {X Y : Type 0} (f : X → Y) (xs : List X) → length (map f xs) ≡ length xs
long_map f [] = refl
long_map f (x ∷ xs) = ap suc (long_map f xs)

-- ---- the bits of pins

pub bit_stands : (pins : List Pin) (k : ℕ) (p : Pin) → slice_get pins k ≡ Some p → (j : ℕ) (b : BitOf) → slice_get (bits_of p.name 0 (pin_width p)) j ≡ Some b → Stands (all_bits pins) b
bit_stands [] k p there j b e = absurd cc
bit_stands (q ∷ pins) zero p there j b e =
    let same : q ≡ p = cc in
    record { k = j; there = stands_left (bits_of q.name 0 (pin_width q)) (all_bits pins) j b (ap (λ (x : Pin). slice_get (bits_of x.name 0 (pin_width x)) j) same ∙ e) }
bit_stands (q ∷ pins) (suc k) p there j b e = stands_right (bits_of q.name 0 (pin_width q)) (all_bits pins) b (bit_stands pins k p there j b e)

module _ (chips : Chips) (top : Entry) (e : Elab) (is : IsElaborated chips top e) where
  pins_named : (k : ℕ) (declared : Pin) (pin : PinAt) → slice_get (top.chip.inputs ++ top.chip.outputs) k ≡ Some declared → slice_get e.pins k ≡ Some pin → (pin.name ≡ declared.name) × (length pin.nodes ≡ pin_width declared)
  pins_named k declared pin at there =
      let p = comes (pin_at (is.at [])) (top.chip.inputs ++ top.chip.outputs) e.pins k pin is.pins there in
      let one : Some p.item ≡ Some declared = sym p.there ∙ at in
      let same : p.item ≡ declared = cc in
      let whole : pin_at (is.at []) declared ≡ pin = ap (pin_at (is.at [])) (sym same) ∙ p.is in (
        ap (λ (x : PinAt). x.name) (sym whole),
        ap (λ (x : PinAt). length x.nodes) (sym whole) ∙ long_map (λ (b : BitOf). is.at [] b.name b.bit) (bits_of declared.name 0 (pin_width declared)) ∙ bits_long declared.name 0 (pin_width declared),
      )

  inputs_set : (k : ℕ) (pin : PinAt) → k < length top.chip.inputs → slice_get e.pins k ≡ Some pin → All (λ node. slice_get e.net.nodes node ≡ Some nodes.Pin) pin.nodes
  inputs_set k pin lt there =
      let p = comes (pin_at (is.at [])) (top.chip.inputs ++ top.chip.outputs) e.pins k pin is.pins there in
      let at = left_of top.chip.inputs top.chip.outputs k p.item lt p.there in
      subst (λ (x : PinAt). All (λ node. slice_get e.net.nodes node ≡ Some nodes.Pin) x.nodes) p.is
      (all_by (λ node. slice_get e.net.nodes node ≡ Some nodes.Pin) (pin_at (is.at []) p.item).nodes (λ j node here.
      let b = comes (λ (x : BitOf). is.at [] x.name x.bit) (bits_of p.item.name 0 (pin_width p.item)) (pin_at (is.at []) p.item).nodes j node refl here in
      let s = bit_stands top.chip.inputs k p.item at j b.item b.there in
      subst (λ (n : ℕ). slice_get e.net.nodes n ≡ Some nodes.Pin) b.is (is.inputs s.k b.item s.there)))

-- ---- the chip of a part of the tree stands at its path

pub record IsWithin (chips : Chips) (i : ℕ) (parts : List Part) (p : PartIn) : Type 0 where
  pub j : ℕ
  pub rest : List ℕ
  pub part : Part
  pub inner : Entry
  pub path : p.path ≡ (i + j) ∷ rest
  pub there : slice_get parts j ≡ Some part
  pub found : find_chip chips part.chip ≡ Some inner
  pub at : chip_at chips inner rest ≡ Some p.chip

pub at_within : (chips : Chips) (top : Entry) (p : PartIn) → IsWithin chips 0 (parts_of chips top) p → chip_at chips top p.path ≡ Some p.chip
at_within chips top p w =
    let number : 0 + w.j ≡ w.j = omega arith in
    let inner : chip_of chips (slice_get (parts_of chips top) w.j) ≡ Some w.inner = ap (chip_of chips) w.there ∙ w.found in
    ap (chip_at chips top) (w.path ∙ ap (λ (n : ℕ). n ∷ w.rest) number) ∙ part_at chips top w.j w.rest w.inner p.chip inner w.at

module _ (chips : Chips) where
  pub listed_at : (i : ℕ) (parts : List Part) (listed : List PartIn) → AreListed chips i parts listed → (k : ℕ) (p : PartIn) → slice_get listed k ≡ Some p → IsWithin chips i parts p
  listed_at i parts listed none k p e = absurd cc
  listed_at i parts listed (next {part = q} {parts = ps} {chip = c} {inner = x} {others = y} f inside behind) zero p e =
      let same : part_in (i ∷ []) c ≡ p = cc in
      let number : i ≡ i + 0 = omega arith in
      record {
        j = 0;
        rest = [];
        part = q;
        inner = c;
        path = ap (λ (z : PartIn). z.path) (sym same) ∙ ap (λ (n : ℕ). n ∷ []) number;
        there = refl;
        found = f;
        at = ap (λ (z : PartIn). Some z.chip) same;
      }
  listed_at i parts listed (next {part = q} {parts = ps} {chip = c} {inner = x} {others = y} f inside behind) (suc k) p e = by (listed_at 0 (parts_of chips c) x inside) (listed_at (suc i) ps y behind) (joined (within i x) y k p e)
    where
      number : i ≡ i + 0
      number = omega arith

      by : ((m : ℕ) (z : PartIn) → slice_get x m ≡ Some z → IsWithin chips 0 (parts_of chips c) z) → ((m : ℕ) (z : PartIn) → slice_get y m ≡ Some z → IsWithin chips (suc i) ps z) → (slice_get (within i x) k ≡ Some p) ⊎ Stands y p → IsWithin chips i (q ∷ ps) p
      by inner_at others_at (inl h) =
          let z = comes (λ (z : PartIn). part_in (i ∷ z.path) z.chip) x (within i x) k p refl h in
          record {
            j = 0;
            rest = z.item.path;
            part = q;
            inner = c;
            path = ap (λ (w : PartIn). w.path) (sym z.is) ∙ ap (λ (n : ℕ). n ∷ z.item.path) number;
            there = refl;
            found = f;
            at = at_within chips c z.item (inner_at k z.item z.there) ∙ ap (λ (w : PartIn). Some w.chip) z.is;
          }
      by inner_at others_at (inr s) =
          let w = others_at s.k p s.there in
          let next_number : suc i + w.j ≡ i + suc w.j = omega arith in
          record {
            j = suc w.j;
            rest = w.rest;
            part = w.part;
            inner = w.inner;
            path = w.path ∙ ap (λ (n : ℕ). n ∷ w.rest) next_number;
            there = w.there;
            found = w.found;
            at = w.at;
          }

-- ---- blocks

module _ (chips : Chips) (top : Entry) (e : Elab) (is : IsElaborated chips top e) where
  stands : (path : List ℕ) (chip : Entry) (kind : End) → chip_at chips top path ≡ Some chip → end_of chips.memories chip ≡ Some kind → EndStands e.net is.low (is.block path) kind (is.at path)
  stands path chip kind at is_end =
      subst (λ (o : Option End). ChipWired is.low is.high chips chip o (is.at path) (λ i. is.at (path ++ i ∷ [])) (λ k. EndStands e.net is.low (is.block path) k (is.at path))) is_end
      (is.numbering.wired path chip at)

  block_there : (path : List ℕ) (chip : Entry) → chip_at chips top path ≡ Some chip → (o : Option End) → end_of chips.memories chip ≡ o → IfSome (block_at o (is.block path)) (λ b. b < length e.net.blocks)
  block_there path chip at None is_end = tt
  block_there path chip at (Some ends.Nand) is_end = tt
  block_there path chip at (Some ends.Dff) is_end = tt
  block_there path chip at (Some ends.Keyboard) is_end = tt
  block_there path chip at (Some ends.Rom) is_end = slice_get_within e.net.blocks (is.block path) _ (stands path chip ends.Rom at is_end).there
  block_there path chip at (Some (ends.Block bits)) is_end = slice_get_within e.net.blocks (is.block path) _ (stands path chip (ends.Block bits) at is_end).there

  blocks_there : All (λ p. IfSome p.block (λ b. b < length e.net.blocks)) e.parts
  blocks_there = all_by (λ (p : PartAt). IfSome p.block (λ b. b < length e.net.blocks)) e.parts (λ k part there.
      let p = comes (flat.part_at chips is.at is.block) is.tree e.parts k part is.parts there in
      let at = at_within chips top p.item (listed_at chips 0 (parts_of chips top) is.tree is.listed k p.item p.there) in
      subst (λ (x : PartAt). IfSome x.block (λ b. b < length e.net.blocks)) p.is (block_there p.item.path p.item.chip at (end_of chips.memories p.item.chip) refl))

pub all_there : ThereLaw
all_there chips top e is = record {
  number = ap (λ (ps : List PinAt). length ps) is.pins ∙ long_map (pin_at (is.at [])) (top.chip.inputs ++ top.chip.outputs) ∙ length-append top.chip.inputs top.chip.outputs;
  named = pins_named chips top e is;
  inputs = inputs_set chips top e is;
  pins = is.pins_there;
  parts = is.parts_there;
  blocks = blocks_there chips top e is;
}
