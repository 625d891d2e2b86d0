-- A chip that is an end itself.
use Rattle.std.proofs.Common.{◌≡◌, ℕ, ◌<◌, codes, List, [], ◌∷◌, ◌++◌, map, Option, Some, None, refl, sym, ap, subst, ◌∙◌, arith}
use Rattle.std.specs.Prelude.{slice_get, slice_index}
use Rattle.std.proofs.lemmas.Option.{slice_get_within}
use Rattle.hdl_tree.specs.declared.tree.Pin.{Pin}
use Rattle.hdl_tree.specs.declared.library.Entry.{Entry}
use Rattle.hdl_tree.specs.declared.ends.End.{End}
use Rattle.hdl_tree.specs.declared.ends.End.TheVariants as ends
use Rattle.hdl_tree.specs.Chips.{Chips, end_of, parts_of_body, parts_unless, pin_width}
use Rattle.hdl_tree.specs.Behaviour.{World, ChipWired, chip_at, chip_of}
use Rattle.hdl_plans.proofs.Walks.{at_part}
use Rattle.netlist.specs.declared.node.Block.{Block}
use Rattle.netlist.specs.Value.{Inputs}
use Rattle.hdl_nodes.specs.Numbering.{EndHears, EndStands}
use Rattle.hdl_nodes.proofs.Numbers.{number_same}
use Rattle.hdl_flatten.specs.declared.flat.PinAt.{PinAt}
use Rattle.hdl_flatten.specs.Ends.{named_pins, HasPins}
use Rattle.hdl_flatten.specs.Flat.{block_at, pin_at}
use Rattle.hdl_elab.specs.declared.put.Elab.{Elab}
use Rattle.hdl_elab.specs.Elaborated.{IsElaborated}
use Rattle.hdl_elab.specs.Hearing.{EndAloneHears, EndAloneLaw}
use Rattle.hdl_elab.specs.Behaviour.{HearsWorld}
use Rattle.hdl_elab.proofs.Behaves.{behaves}
use Rattle.hdl_elab.proofs.Hearing.{index_is}

-- ---- no chip stands in it

only_top : (chips : Chips) (top : Entry) (kind : End) → end_of chips.memories top ≡ Some kind → (path : List ℕ) (c : Entry) → chip_at chips top path ≡ Some c → path ≡ []
only_top chips top kind is [] c at = refl
only_top chips top kind is (i ∷ path) c at =
    let p = at_part chips top i path c at in
    let none = ap (λ (o : Option End). chip_of chips (slice_get (parts_unless o (parts_of_body top.chip.body)) i)) is in
    let both : Some p.inner ≡ None = sym p.found ∙ none in
    absurd cc

-- ---- its pin

one_pin : (pins : List Pin) (name : List ℕ) (w : ℕ) → named_pins pins ≡ (name, w) ∷ [] → (p : Pin) × (pins ≡ p ∷ []) × (p.name ≡ name) × (pin_width p ≡ w)
one_pin [] name w h = absurd cc
one_pin (p ∷ []) name w h =
    let ports : (p.name, pin_width p) ≡ (name, w) = cc in
    (p, refl, ap (λ (x : List ℕ × ℕ). x.0) ports, ap (λ (x : List ℕ × ℕ). x.1) ports)
one_pin (p ∷ q ∷ ps) name w h = absurd cc

no_pins : (pins : List Pin) → named_pins pins ≡ [] → pins ≡ []
no_pins [] h = refl
no_pins (p ∷ ps) h = absurd cc

block_is : (o : Option End) (b n : ℕ) → block_at o b ≡ Some n → b ≡ n
block_is (Some ends.Rom) b n h = cc
block_is (Some (ends.Block bits)) b n h = cc
block_is (Some ends.Nand) b n h = absurd cc
block_is (Some ends.Dff) b n h = absurd cc
block_is (Some ends.Keyboard) b n h = absurd cc
block_is None b n h = absurd cc

module _ (chips : Chips) (top : Entry) (kind : End) (e : Elab) (is : IsElaborated chips top e) (is_end : end_of chips.memories top ≡ Some kind) where
  stands : EndStands e.net is.low (is.block []) kind (is.at [])
  stands =
      subst (λ (o : Option End). ChipWired is.low is.high chips top o (is.at []) (λ i. is.at ([] ++ i ∷ [])) (λ k. EndStands e.net is.low (is.block []) k (is.at []))) is_end
      (is.numbering.wired [] top refl)

  only_block : (block : Block) → slice_get e.net.blocks (is.block []) ≡ Some block → is.block [] ≡ 0
  only_block block there =
      let lt = slice_get_within e.net.blocks (is.block []) block there in
      let first = is.blocks_used 0 (omega (arith, lt)) in
      let here = only_top chips top kind is_end first.path first.chip first.there in
      ap is.block (sym here) ∙ block_is (end_of chips.memories first.chip) (is.block first.path) 0 first.its

  out_index : named_pins top.chip.inputs ≡ [] → named_pins top.chip.outputs ≡ (codes "out", 16) ∷ [] → (pin : PinAt) × (slice_get e.pins 0 ≡ Some pin) × ((k : ℕ) → k < 16 → slice_index pin.nodes k ≡ is.at [] (codes "out") k)
  out_index ins outs =
      let p = one_pin top.chip.outputs (codes "out") 16 outs in
      let pins = is.pins ∙ ap (λ (ps : List Pin). map (pin_at (is.at [])) (ps ++ top.chip.outputs)) (no_pins top.chip.inputs ins) ∙ ap (λ (ps : List Pin). map (pin_at (is.at [])) ps) p.1 in
      (pin_at (is.at []) p.0, ap (λ (ps : List PinAt). slice_get ps 0) pins, λ k lt. index_is (is.at []) p.0.name (pin_width p.0) k (omega (arith, lt, p.3)) ∙ ap (λ (m : List ℕ). is.at [] m k) p.2)

alone_by : (world : World) (inputs : Inputs) (n : ℕ) (chips : Chips) (top : Entry) (e : Elab) (is : IsElaborated chips top e) (kind : End) → end_of chips.memories top ≡ Some kind → HasPins top kind → EndAloneHears world inputs n kind e → EndHears world inputs n (is.block []) kind (is.at [])
alone_by world inputs n chips top e is ends.Nand is_end pins h = tt
alone_by world inputs n chips top e is ends.Dff is_end pins h = tt
alone_by world inputs n chips top e is ends.Keyboard is_end pins h =
    let o = out_index chips top ends.Keyboard e is is_end pins.inputs pins.outputs in
    λ c lt. number_same 16 (λ k. inputs.pin c (is.at [] (codes "out") k)) (λ k. inputs.pin c (slice_index o.0.nodes k)) (λ k below. ap (inputs.pin c) (sym (o.2 k below))) ∙ h o.0 o.1 c lt
alone_by world inputs n chips top e is ends.Rom is_end pins h =
    let s = stands chips top ends.Rom e is is_end in
    subst (λ (b : ℕ). EndHears world inputs n b ends.Rom (is.at [])) (sym (only_block chips top ends.Rom e is is_end _ s.there)) h
alone_by world inputs n chips top e is (ends.Block bits) is_end pins h =
    let s = stands chips top (ends.Block bits) e is is_end in
    subst (λ (b : ℕ). EndHears world inputs n b (ends.Block bits) (is.at [])) (sym (only_block chips top (ends.Block bits) e is is_end _ s.there)) h

hears_all : (world : World) (inputs : Inputs) (n : ℕ) (chips : Chips) (top : Entry) (e : Elab) (is : IsElaborated chips top e) (kind : End) → end_of chips.memories top ≡ Some kind → EndHears world inputs n (is.block []) kind (is.at []) → HearsWorld world inputs n chips top e is
hears_all world inputs n chips top e is kind is_end h path chip k at is_k = by path at
  where
    by : (p : List ℕ) → chip_at chips top p ≡ Some chip → EndHears world inputs n (is.block p) k (is.at p)
    by [] at_top =
        let same : top ≡ chip = cc in
        let both : Some kind ≡ Some k = sym is_end ∙ ap (end_of chips.memories) same ∙ is_k in
        let one : kind ≡ k = cc in
        subst (λ (x : End). EndHears world inputs n (is.block []) x (is.at [])) one h
    by (l ∷ r) at_part = let none = only_top chips top kind is_end (l ∷ r) chip at_part in absurd cc

pub alone : EndAloneLaw
alone world chips name top kind e is pins found is_end inputs n v hears are =
    let h = alone_by world inputs n chips top e is kind is_end (pins name top kind found is_end) hears in
    behaves world chips top e is inputs n v (hears_all world inputs n chips top e is kind is_end h) are
