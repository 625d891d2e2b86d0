-- The values of the netlist of an elaborated chip are a behaviour, which the directory shows.
use Rattle.std.proofs.Common.{◌≡◌, ℕ, zero, suc, ◌+◌, ◌⊎◌, inl, inr, Bool, List, [], ◌∷◌, ◌++◌, length, map, length-append, Option, Some, None, refl, sym, ap, ◌∙◌, arith}
use Rattle.std.specs.Prelude.{slice_get}
use Rattle.std.specs.Option.{option_map}
use Rattle.std.proofs.lemmas.Option.{slice_get-map}
use Rattle.hdl_tree.specs.declared.tree.Pin.{Pin}
use Rattle.hdl_tree.specs.declared.library.Entry.{Entry}
use Rattle.hdl_tree.specs.Chips.{Chips, pin_width}
use Rattle.hdl_tree.specs.Behaviour.{Wires}
use Rattle.hdl_check.specs.Tables.{BitOf, bits_of}
use Rattle.hdl_nodes.proofs.Numbered.{behaviour}
use Rattle.hdl_flatten.specs.declared.flat.PinAt.{PinAt}
use Rattle.hdl_flatten.specs.declared.flat.PartAt.{PartAt}
use Rattle.hdl_flatten.specs.Trees.{PartIn, all_bits}
use Rattle.hdl_flatten.specs.Flat.{nodes_at, pin_at, part_at}
use Rattle.hdl_elab.specs.declared.put.Elab.{Elab}
use Rattle.hdl_elab.specs.Elaborated.{IsElaborated}
use Rattle.hdl_elab.specs.Behaviour.{BehaviourLaw}

-- ---- items of lists

pub record Comes {X Y : Type 0} (f : X → Y) (xs : List X) (k : ℕ) (y : Y) : Type 0 where
  pub item : X
  pub there : slice_get xs k ≡ Some item
  pub is : f item ≡ y

comes_by : {X Y : Type 0} (f : X → Y) (xs : List X) (k : ℕ) (y : Y) (o : Option X) → slice_get xs k ≡ o → option_map f o ≡ Some y → Comes f xs k y
comes_by f xs k y None e h = absurd cc
comes_by f xs k y (Some x) e h = record { item = x; there = e; is = cc }

-- what an item of a mapped list comes from
pub comes : {X Y : Type 0} (f : X → Y) (xs : List X) (ys : List Y) (k : ℕ) (y : Y) → ys ≡ map f xs → slice_get ys k ≡ Some y → Comes f xs k y
comes f xs ys k y same there = comes_by f xs k y (slice_get xs k) refl (sym (slice_get-map f xs k) ∙ ap (λ l. slice_get l k) (sym same) ∙ there)

last_or : {X : Type 0} (xs : List X) (x y : X) (k : ℕ) → slice_get (xs ++ x ∷ []) k ≡ Some y → (slice_get xs k ≡ Some y) ⊎ ((k ≡ length xs) × (x ≡ y))
last_or [] x y zero e = inr (refl, cc)
last_or [] x y (suc k) e = absurd cc
last_or (z ∷ zs) x y zero e = inl e
last_or (z ∷ zs) x y (suc k) e = by (last_or zs x y k e)
  where
    by : (slice_get zs k ≡ Some y) ⊎ ((k ≡ length zs) × (x ≡ y)) → (slice_get zs k ≡ Some y) ⊎ ((suc k ≡ suc (length zs)) × (x ≡ y))
    by (inl h) = inl h
    by (inr h) = inr (ap suc h.0, h.1)

pub bits_long : (name : List ℕ) (from n : ℕ) → length (bits_of name from n) ≡ n
bits_long name from zero = refl
bits_long name from (suc n) = omega (arith, length-append (bits_of name from n) (record { name = name; bit = from + n } ∷ []), bits_long name from n)

-- bit k of this many bits of one name
pub bit_is : (name : List ℕ) (from n k : ℕ) (b : BitOf) → slice_get (bits_of name from n) k ≡ Some b → b ≡ record { name = name; bit = from + k }
bit_is name from zero k b e = absurd cc
bit_is name from (suc n) k b e = by (bit_is name from n k b) (last_or (bits_of name from n) (record { name = name; bit = from + n }) b k e)
  where
    by : (slice_get (bits_of name from n) k ≡ Some b → b ≡ record { name = name; bit = from + k }) → (slice_get (bits_of name from n) k ≡ Some b) ⊎ ((k ≡ length (bits_of name from n)) × (record { name = name; bit = from + n } ≡ b)) → b ≡ record { name = name; bit = from + k }
    by go (inl h) = go h
    by go (inr h) =
        let number : from + n ≡ from + k = omega (arith, h.0, bits_long name from n) in
        sym h.1 ∙ ap (λ (m : ℕ). record { name = name; bit = m }) number

-- ---- the directory

-- node `bit` of a pin is that of its bit
pub pin_node : (at : Wires ℕ) (p : Pin) (bit node : ℕ) → slice_get (nodes_at at (bits_of p.name 0 (pin_width p))) bit ≡ Some node → at p.name bit ≡ node
pin_node at p bit node e =
    let c = comes (λ (b : BitOf). at b.name b.bit) (bits_of p.name 0 (pin_width p)) (nodes_at at (bits_of p.name 0 (pin_width p))) bit node refl e in
    let zero_plus : 0 + bit ≡ bit = omega arith in
    let same = bit_is p.name 0 (pin_width p) bit c.item c.there in
    sym (ap (at p.name) zero_plus) ∙ sym (ap (λ (b : BitOf). at b.name b.bit) same) ∙ c.is

part_node : (at : Wires ℕ) (bits : List BitOf) (j node : ℕ) (b : BitOf) → slice_get bits j ≡ Some b → slice_get (nodes_at at bits) j ≡ Some node → at b.name b.bit ≡ node
part_node at bits j node b there e =
    let c = comes (λ (x : BitOf). at x.name x.bit) bits (nodes_at at bits) j node refl e in
    let one : Some c.item ≡ Some b = sym c.there ∙ there in
    let same : c.item ≡ b = cc in
    sym (ap (λ (x : BitOf). at x.name x.bit) same) ∙ c.is

module _ (chips : Chips) (top : Entry) (e : Elab) (is : IsElaborated chips top e) (v : ℕ → ℕ → Bool) where
  pins_shown : (k bit node c : ℕ) (pin : PinAt) → slice_get e.pins k ≡ Some pin → slice_get pin.nodes bit ≡ Some node → v (is.at [] pin.name bit) c ≡ v node c
  pins_shown k bit node c pin there here =
      let p = comes (pin_at (is.at [])) (top.chip.inputs ++ top.chip.outputs) e.pins k pin is.pins there in
      let named : p.item.name ≡ pin.name = ap (λ (x : PinAt). x.name) p.is in
      let listed = ap (λ (x : PinAt). slice_get x.nodes bit) p.is ∙ here in
      ap (λ (x : ℕ). v x c) (ap (λ (x : List ℕ). is.at [] x bit) (sym named) ∙ pin_node (is.at []) p.item bit node listed)

  parts_shown : (k j node c : ℕ) (part : PartIn) (listed : PartAt) (b : BitOf) → slice_get is.tree k ≡ Some part → slice_get e.parts k ≡ Some listed → slice_get (all_bits part.chip.chip.outputs) j ≡ Some b → slice_get listed.outs j ≡ Some node → v (is.at part.path b.name b.bit) c ≡ v node c
  parts_shown k j node c part listed b tree there bit here =
      let p = comes (part_at chips is.at is.block) is.tree e.parts k listed is.parts there in
      let one : Some p.item ≡ Some part = sym p.there ∙ tree in
      let same : p.item ≡ part = cc in
      let outs = ap (λ (x : PartIn). slice_get (part_at chips is.at is.block x).outs j) (sym same) ∙ ap (λ (x : PartAt). slice_get x.outs j) p.is ∙ here in
      ap (λ (x : ℕ). v x c) (part_node (is.at part.path) (all_bits part.chip.chip.outputs) j node b bit outs)

pub behaves : BehaviourLaw
behaves world chips top e is inputs n v hears are = record {
  wires = λ path name bit c. v (is.at path name bit) c;
  behaves = behaviour world e.net inputs n v is.low is.high chips top is.block is.at is.numbering hears are;
  tree = is.tree;
  listed = is.listed;
  shows = record { pins = pins_shown chips top e is v; parts = parts_shown chips top e is v };
}
