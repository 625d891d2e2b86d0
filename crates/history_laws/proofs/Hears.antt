-- What the directory tells of the outside is what comes in at the ends of the chip.
use Rattle.std.proofs.Common.{◌≡◌, ℕ, ◌<◌, codes, List, [], ◌∷◌, ◌++◌, length, Option, Some, None, refl, sym, ap, subst, ◌∙◌, arith}
use Rattle.std.specs.Prelude.{slice_get, slice_index}
use Rattle.std.specs.Option.{option_map}
use Rattle.std.proofs.lemmas.Option.{slice_get-map, slice_get_within}
use Rattle.hdl_tree.specs.declared.tree.Pin.{Pin}
use Rattle.hdl_tree.specs.declared.library.Entry.{Entry}
use Rattle.hdl_tree.specs.declared.ends.End.{End}
use Rattle.hdl_tree.specs.declared.ends.End.TheVariants as ends
use Rattle.hdl_tree.specs.Chips.{Chips, end_of, find_chip, parts_of, parts_of_body, parts_unless, pin_width}
use Rattle.hdl_tree.specs.Behaviour.{Wires, ChipWired, chip_at, chip_of}
use Rattle.hdl_check.specs.Tables.{BitOf, bits_of}
use Rattle.hdl_plans.proofs.Walks.{at_part}
use Rattle.netlist.specs.declared.node.Block.{Block}
use Rattle.netlist.specs.Value.{Inputs}
use Rattle.hdl_nodes.specs.Numbering.{EndStands}
use Rattle.hdl_nodes.proofs.Numbers.{number_same}
use Rattle.hdl_flatten.specs.declared.flat.PinAt.{PinAt}
use Rattle.hdl_flatten.specs.declared.flat.PartAt.{PartAt}
use Rattle.hdl_flatten.specs.Ends.{EndsHavePins, HasPins, end_outputs, named_pins}
use Rattle.hdl_flatten.specs.Trees.{IsTree, PartIn, all_bits}
use Rattle.hdl_flatten.specs.Flat.{block_at, nodes_at, part_at, pin_at}
use Rattle.hdl_elab.specs.declared.put.Elab.{Elab}
use Rattle.hdl_elab.specs.Elaborated.{IsElaborated}
use Rattle.hdl_elab.proofs.Trees.{one_tree, in_tree}
use Rattle.hdl_elab.proofs.Orderly.{named_at}
use Rattle.hdl_elab.proofs.Hearing.{index_is}
use Rattle.hdl_elab.proofs.There.{at_within, listed_at}
use Rattle.history_laws.specs.Environment.{Environment}
use Rattle.history_laws.specs.Told.{EndIsTold, IsTold}
use Rattle.history_laws.proofs.Acts.{EndHears}

-- ---- the output of an end with sixteen bits

pub record OnePin (pins : List Pin) (name : List ℕ) (w : ℕ) : Type 0 where
  pub pin : Pin
  pub is : pins ≡ pin ∷ []
  pub named : pin.name ≡ name
  pub wide : pin_width pin ≡ w

pub one_pin : (pins : List Pin) (name : List ℕ) (w : ℕ) → named_pins pins ≡ (name, w) ∷ [] → OnePin pins name w
one_pin [] name w h = absurd cc
one_pin (p ∷ []) name w h =
    let ports : (p.name, pin_width p) ≡ (name, w) = cc in
    record { pin = p; is = refl; named = ap (λ (x : List ℕ × ℕ). x.0) ports; wide = ap (λ (x : List ℕ × ℕ). x.1) ports }
one_pin (p ∷ q ∷ ps) name w h = absurd cc

-- the nodes of its bits in the directory
pub pin_nodes : (at : Wires ℕ) (pins : List Pin) → named_pins pins ≡ (codes "out", 16) ∷ [] → (k : ℕ) → k < 16 → slice_index (nodes_at at (all_bits pins)) k ≡ at (codes "out") k
pin_nodes at pins h k lt =
    let p = one_pin pins (codes "out") 16 h in
    let none : bits_of (codes "out") 0 16 ++ [] ≡ bits_of (codes "out") 0 16 = refl in
    let bits : all_bits pins ≡ bits_of (codes "out") 0 16 = ap all_bits p.is ∙ ap (λ (m : List ℕ). bits_of m 0 (pin_width p.pin) ++ []) p.named ∙ ap (λ (w : ℕ). bits_of (codes "out") 0 w ++ []) p.wide ∙ none in
    ap (λ (bs : List BitOf). slice_index (nodes_at at bs) k) bits ∙ index_is at (codes "out") 16 k lt

pin_index : (at : Wires ℕ) (p : Pin) → p.name ≡ codes "out" → pin_width p ≡ 16 → (k : ℕ) → k < 16 → slice_index (pin_at at p).nodes k ≡ at (codes "out") k
pin_index at p named wide k lt = index_is at p.name (pin_width p) k (omega (arith, lt, wide)) ∙ ap (λ (m : List ℕ). at m k) named

-- ---- what an end is told

-- the end has a block
abbrev pub HasBlock : End → Type 0
HasBlock ends.Nand = ⊥
HasBlock ends.Dff = ⊥
HasBlock ends.Keyboard = ⊥
HasBlock ends.Rom = Unit {0}
HasBlock (ends.Block bits) = Unit {0}

-- the same nodes and the same block
hears_by : (outside : Environment) (inputs : Inputs) (n : ℕ) (path outs : List ℕ) (block : Option ℕ) (b : ℕ) (at : Wires ℕ) (e : End) → (e ≡ ends.Keyboard → (k : ℕ) → k < 16 → slice_index outs k ≡ at (codes "out") k) → (HasBlock e → block_at (Some e) b ≡ block) → EndIsTold outside inputs n path outs block e → EndHears outside inputs n path b e at
hears_by outside inputs n path outs block b at ends.Nand same is h = tt
hears_by outside inputs n path outs block b at ends.Dff same is h = tt
hears_by outside inputs n path outs block b at ends.Keyboard same is h = λ c lt. number_same 16 (λ k. inputs.pin c (at (codes "out") k)) (λ k. inputs.pin c (slice_index outs k)) (λ k below. ap (inputs.pin c) (sym (same refl k below))) ∙ h c lt
hears_by outside inputs n path outs block b at ends.Rom same is h = h b (sym (is tt))
hears_by outside inputs n path outs block b at (ends.Block bits) same is h = h b (sym (is tt))

pub told_by : (outside : Environment) (inputs : Inputs) (n : ℕ) (path outs : List ℕ) (block : Option ℕ) (b : ℕ) (at : Wires ℕ) (e : End) → (e ≡ ends.Keyboard → (k : ℕ) → k < 16 → slice_index outs k ≡ at (codes "out") k) → (HasBlock e → block_at (Some e) b ≡ block) → EndHears outside inputs n path b e at → EndIsTold outside inputs n path outs block e
told_by outside inputs n path outs block b at ends.Nand same is h = tt
told_by outside inputs n path outs block b at ends.Dff same is h = tt
told_by outside inputs n path outs block b at ends.Keyboard same is h = λ c lt. number_same 16 (λ k. inputs.pin c (slice_index outs k)) (λ k. inputs.pin c (at (codes "out") k)) (λ k below. ap (inputs.pin c) (same refl k below)) ∙ h c lt
told_by outside inputs n path outs block b at ends.Rom same is h = λ b' f a lt. let one : b ≡ b' = (let two : Some b ≡ Some b' = is tt ∙ f in cc) in subst (λ (x : ℕ). (inputs.loaded x a ≡ outside.rom path a) × (outside.rom path a < 65536)) one (h a lt)
told_by outside inputs n path outs block b at (ends.Block bits) same is h = λ b' f a lt. let one : b ≡ b' = (let two : Some b ≡ Some b' = is tt ∙ f in cc) in subst (λ (x : ℕ). (inputs.loaded x a ≡ outside.words path a) × (outside.words path a < 65536)) one (h a lt)

-- ---- a chip that is an end itself

only_top : (chips : Chips) (top : Entry) (kind : End) → end_of chips.memories top ≡ Some kind → (path : List ℕ) (c : Entry) → chip_at chips top path ≡ Some c → path ≡ []
only_top chips top kind is [] c at = refl
only_top chips top kind is (i ∷ path) c at =
    let p = at_part chips top i path c at in
    let none = ap (λ (o : Option End). chip_of chips (slice_get (parts_unless o (parts_of_body top.chip.body)) i)) is in
    let both : Some p.inner ≡ None = sym p.found ∙ none in
    absurd cc

block_is : (o : Option End) (b n : ℕ) → block_at o b ≡ Some n → b ≡ n
block_is (Some ends.Rom) b n h = cc
block_is (Some (ends.Block bits)) b n h = cc
block_is (Some ends.Nand) b n h = absurd cc
block_is (Some ends.Dff) b n h = absurd cc
block_is (Some ends.Keyboard) b n h = absurd cc
block_is None b n h = absurd cc

first_behind : (ins : List Pin) (p : Pin) (outs : List Pin) → slice_get (ins ++ (p ∷ outs)) (length ins) ≡ Some p
first_behind [] p outs = refl
first_behind (q ∷ ins) p outs = first_behind ins p outs

module _ (chips : Chips) (top : Entry) (e : Elab) (is : IsElaborated chips top e) where
  pub stands_in : (path : List ℕ) (chip : Entry) (kind : End) → chip_at chips top path ≡ Some chip → end_of chips.memories chip ≡ Some kind → EndStands e.net is.low (is.block path) kind (is.at path)
  stands_in path chip kind there is_end =
      subst (λ (o : Option End). ChipWired is.low is.high chips chip o (is.at path) (λ i. is.at (path ++ i ∷ [])) (λ k. EndStands e.net is.low (is.block path) k (is.at path))) is_end
      (is.numbering.wired path chip there)

  only_block : (kind : End) → end_of chips.memories top ≡ Some kind → (block : Block) → slice_get e.net.blocks (is.block []) ≡ Some block → is.block [] ≡ 0
  only_block kind is_end block there =
      let lt = slice_get_within e.net.blocks (is.block []) block there in
      let first = is.blocks_used 0 (omega (arith, lt)) in
      let here = only_top chips top kind is_end first.path first.chip first.there in
      ap is.block (sym here) ∙ block_is (end_of chips.memories first.chip) (is.block first.path) 0 first.its

  -- by the kind of end: it has block 0, if any
  block_zero : (kind : End) → end_of chips.memories top ≡ Some kind → HasBlock kind → block_at (Some kind) (is.block []) ≡ Some 0
  block_zero ends.Nand is_end h = absurd h
  block_zero ends.Dff is_end h = absurd h
  block_zero ends.Keyboard is_end h = absurd h
  block_zero ends.Rom is_end h = ap (λ (b : ℕ). Some b) (only_block ends.Rom is_end _ (stands_in [] top ends.Rom refl is_end).there)
  block_zero (ends.Block bits) is_end h = ap (λ (b : ℕ). Some b) (only_block (ends.Block bits) is_end _ (stands_in [] top (ends.Block bits) refl is_end).there)

  -- its output pin in the directory
  pub record OutPin : Type 0 where
    pub pin : PinAt
    pub there : slice_get e.pins (length top.chip.inputs) ≡ Some pin
    pub nodes : (k : ℕ) → k < 16 → slice_index pin.nodes k ≡ is.at [] (codes "out") k

  out_pin : named_pins top.chip.outputs ≡ (codes "out", 16) ∷ [] → OutPin
  out_pin h =
      let p = one_pin top.chip.outputs (codes "out") 16 h in
      record {
        pin = pin_at (is.at []) p.pin;
        there = ap (λ (ps : List PinAt). slice_get ps (length top.chip.inputs)) is.pins
            ∙ slice_get-map (pin_at (is.at [])) (top.chip.inputs ++ top.chip.outputs) (length top.chip.inputs)
            ∙ ap (option_map (pin_at (is.at []))) (ap (λ (ps : List Pin). slice_get (top.chip.inputs ++ ps) (length top.chip.inputs)) p.is ∙ first_behind top.chip.inputs p.pin []);
        nodes = pin_index (is.at []) p.pin p.named p.wide;
      }

  -- ---- all ends

  module _ (name : List ℕ) (pins : EndsHavePins chips) (found : find_chip chips name ≡ Some top) (tree : List PartIn) (listed : IsTree chips top tree) (outside : Environment) (inputs : Inputs) (n : ℕ) where
    abbrev pub AllHear : Type 0
    AllHear = (path : List ℕ) (chip : Entry) (kind : End) → chip_at chips top path ≡ Some chip → end_of chips.memories chip ≡ Some kind → EndHears outside inputs n path (is.block path) kind (is.at path)

    -- a part of the tree, as the directory lists it
    abbrev listed_as : PartIn → PartAt
    listed_as = part_at chips is.at is.block

    pub is_listed : (k : ℕ) (p : PartIn) → slice_get tree k ≡ Some p → slice_get e.parts k ≡ Some (listed_as p)
    is_listed k p there =
        ap (λ (x : List PartAt). slice_get x k) is.parts ∙ slice_get-map listed_as is.tree k ∙ ap (λ (x : List PartIn). option_map listed_as (slice_get x k)) (one_tree chips top is.tree tree is.listed listed) ∙ ap (option_map listed_as) there

    sixteen : (chip : Entry) (kind : End) → kind ≡ ends.Keyboard → HasPins chip kind → named_pins chip.chip.outputs ≡ (codes "out", 16) ∷ []
    sixteen chip kind q h = subst (λ (k : End). named_pins chip.chip.outputs ≡ end_outputs k) q h.outputs

    part_nodes : (path : List ℕ) (chip : Entry) (kind : End) → HasPins chip kind → kind ≡ ends.Keyboard → (k : ℕ) → k < 16 → slice_index (listed_as (record { path = path; chip = chip })).outs k ≡ is.at path (codes "out") k
    part_nodes path chip kind h q k lt = pin_nodes (is.at path) chip.chip.outputs (sixteen chip kind q h) k lt

    part_block : (path : List ℕ) (chip : Entry) (kind : End) → end_of chips.memories chip ≡ Some kind → block_at (Some kind) (is.block path) ≡ (listed_as (record { path = path; chip = chip })).block
    part_block path chip kind is_end = ap (λ (o : Option End). block_at o (is.block path)) (sym is_end)

    hears_top : IsTold outside inputs n chips top tree e → (kind : End) → end_of chips.memories top ≡ Some kind → HasPins top kind → EndHears outside inputs n [] (is.block []) kind (is.at [])
    hears_top told ends.Nand is_end h = tt
    hears_top told ends.Dff is_end h = tt
    hears_top told ends.Keyboard is_end h =
        let o = out_pin h.outputs in
        hears_by outside inputs n [] o.pin.nodes (Some 0) (is.block []) (is.at []) ends.Keyboard (λ q. o.nodes) (λ x. absurd x) (told.alone o.pin ends.Keyboard o.there is_end)
    hears_top told ends.Rom is_end h =
        let o = out_pin h.outputs in
        hears_by outside inputs n [] o.pin.nodes (Some 0) (is.block []) (is.at []) ends.Rom (λ q. o.nodes) (block_zero ends.Rom is_end) (told.alone o.pin ends.Rom o.there is_end)
    hears_top told (ends.Block bits) is_end h =
        let o = out_pin h.outputs in
        hears_by outside inputs n [] o.pin.nodes (Some 0) (is.block []) (is.at []) (ends.Block bits) (λ q. o.nodes) (block_zero (ends.Block bits) is_end) (told.alone o.pin (ends.Block bits) o.there is_end)

    pub all_hear : IsTold outside inputs n chips top tree e → AllHear
    all_hear told path chip kind at is_end = by path at
      where
        by : (p : List ℕ) → chip_at chips top p ≡ Some chip → EndHears outside inputs n p (is.block p) kind (is.at p)
        by [] at_top =
            let same : top ≡ chip = cc in
            let own = ap (λ (x : Entry). end_of chips.memories x) same ∙ is_end in
            hears_top told kind own (pins name top kind found own)
        by (l ∷ r) at_part =
            let s = in_tree chips top chip tree l r listed at_part in
            let m = named_at chips (l ∷ r) top chip (record { name = name; found = found }) at_part in
            let p : PartIn = record { path = l ∷ r; chip = chip } in
            hears_by outside inputs n (l ∷ r) (listed_as p).outs (listed_as p).block (is.block (l ∷ r)) (is.at (l ∷ r)) kind
            (part_nodes (l ∷ r) chip kind (pins m.name chip kind m.found is_end)) (λ x. part_block (l ∷ r) chip kind is_end)
            (told.parts s.k p (listed_as p) kind s.there (is_listed s.k p s.there) is_end)

    -- a part of the tree stands at its path
    pub part_stands : (k : ℕ) (p : PartIn) → slice_get tree k ≡ Some p → chip_at chips top p.path ≡ Some p.chip
    part_stands k p there = at_within chips top p (listed_at chips 0 (parts_of chips top) tree listed k p there)

    told_top : AllHear → (pin : PinAt) (kind : End) → slice_get e.pins (length top.chip.inputs) ≡ Some pin → end_of chips.memories top ≡ Some kind → HasPins top kind → EndHears outside inputs n [] (is.block []) kind (is.at []) → EndIsTold outside inputs n [] pin.nodes (Some 0) kind
    told_top all pin ends.Nand there is_end h x = tt
    told_top all pin ends.Dff there is_end h x = tt
    told_top all pin ends.Keyboard there is_end h x =
        let o = out_pin h.outputs in
        let two : Some o.pin ≡ Some pin = sym o.there ∙ there in
        let same : o.pin ≡ pin = cc in
        told_by outside inputs n [] pin.nodes (Some 0) (is.block []) (is.at []) ends.Keyboard (λ q k lt. ap (λ (y : PinAt). slice_index y.nodes k) (sym same) ∙ o.nodes k lt) (λ y. absurd y) x
    told_top all pin ends.Rom there is_end h x = told_by outside inputs n [] pin.nodes (Some 0) (is.block []) (is.at []) ends.Rom (λ q. let no : ⊥ = cc in absurd no) (block_zero ends.Rom is_end) x
    told_top all pin (ends.Block bits) there is_end h x = told_by outside inputs n [] pin.nodes (Some 0) (is.block []) (is.at []) (ends.Block bits) (λ q. let no : ⊥ = cc in absurd no) (block_zero (ends.Block bits) is_end) x

    pub told_all : AllHear → IsTold outside inputs n chips top tree e
    told_all all = record {
      parts = λ k part given kind there here is_end.
          let at = part_stands k part there in
          let m = named_at chips part.path top part.chip (record { name = name; found = found }) at in
          let two : Some (listed_as part) ≡ Some given = sym (is_listed k part there) ∙ here in
          let same : listed_as part ≡ given = cc in
          subst (λ (x : PartAt). EndIsTold outside inputs n part.path x.outs x.block kind) same
          (told_by outside inputs n part.path (listed_as part).outs (listed_as part).block (is.block part.path) (is.at part.path) kind
          (part_nodes part.path part.chip kind (pins m.name part.chip kind m.found is_end)) (λ x. part_block part.path part.chip kind is_end)
          (all part.path part.chip kind at is_end));
      alone = λ pin kind there is_end. told_top all pin kind there is_end (pins name top kind found is_end) (all [] top kind refl is_end);
    }
