-- What the ends of the directory are given is what the world gives to the ends in the chip.
use Rattle.std.proofs.Common.{◌≡◌, ℕ, ◌+◌, ◌<◌, codes, List, [], ◌∷◌, ◌++◌, Option, Some, None, refl, sym, ap, ◌∙◌, arith}
use Rattle.std.specs.Prelude.{slice_get, slice_index}
use Rattle.std.specs.Option.{option_map}
use Rattle.std.proofs.lemmas.Option.{slice_get-map, get_or_from_slice_get}
use Rattle.hdl_tree.specs.declared.tree.Pin.{Pin}
use Rattle.hdl_tree.specs.declared.library.Entry.{Entry}
use Rattle.hdl_tree.specs.declared.ends.End.{End}
use Rattle.hdl_tree.specs.declared.ends.End.TheVariants as ends
use Rattle.hdl_tree.specs.Chips.{Chips, end_of, pin_width}
use Rattle.hdl_tree.specs.Behaviour.{Wires, World, chip_at}
use Rattle.hdl_check.specs.Tables.{BitOf, bits_of}
use Rattle.hdl_plans.proofs.Walks.{at_part}
use Rattle.netlist.specs.Value.{Inputs}
use Rattle.hdl_nodes.specs.Numbering.{EndHears}
use Rattle.hdl_nodes.proofs.Numbers.{number_same}
use Rattle.hdl_flatten.specs.declared.flat.PartAt.{PartAt}
use Rattle.hdl_flatten.specs.Ends.{named_pins, HasPins}
use Rattle.hdl_flatten.specs.Trees.{PartIn, all_bits}
use Rattle.hdl_flatten.specs.Flat.{nodes_at, block_at, part_at}
use Rattle.hdl_elab.specs.Hearing.{ListedHears, HearingLaw, DirectoryLaw}
use Rattle.hdl_elab.proofs.Trees.{one_tree, in_tree}
use Rattle.hdl_elab.proofs.Orderly.{named_at}
use Rattle.hdl_elab.proofs.Places.{item_at}
use Rattle.hdl_elab.proofs.Behaves.{bits_long, bit_is, behaves}

-- ---- the output bits of ends

bits_named : List (List ℕ × ℕ) → List BitOf
bits_named [] = []
bits_named (p ∷ ps) = bits_of p.0 0 p.1 ++ bits_named ps

all_named : (pins : List Pin) → all_bits pins ≡ bits_named (named_pins pins)
unfolding bits_named
all_named [] = refl
all_named (p ∷ ps) = ap (λ (rest : List BitOf). bits_of p.name 0 (pin_width p) ++ rest) (all_named ps)

sixteen : bits_named ((codes "out", 16) ∷ []) ≡ bits_of (codes "out") 0 16
unfolding bits_named
sixteen = refl

pub index_is : (at : Wires ℕ) (name : List ℕ) (n k : ℕ) → k < n → slice_index (nodes_at at (bits_of name 0 n)) k ≡ at name k
index_is at name n k lt =
    let long = bits_long name 0 n in
    let b = item_at (bits_of name 0 n) k (omega (arith, long)) in
    let same = bit_is name 0 n k b.item b.there in
    let zero_plus : 0 + k ≡ k = omega arith in
    let there = slice_get-map (λ (x : BitOf). at x.name x.bit) (bits_of name 0 n) k ∙ ap (option_map (λ (x : BitOf). at x.name x.bit)) b.there in
    get_or_from_slice_get (nodes_at at (bits_of name 0 n)) k (at b.item.name b.item.bit) 0 there ∙ ap (λ (x : BitOf). at x.name x.bit) same ∙ ap (at name) zero_plus

out_nodes : (chips : Chips) (at : List ℕ → Wires ℕ) (block : List ℕ → ℕ) (path : List ℕ) (chip : Entry) → named_pins chip.chip.outputs ≡ (codes "out", 16) ∷ [] → (k : ℕ) → k < 16 → at path (codes "out") k ≡ slice_index (part_at chips at block (record { path = path; chip = chip })).outs k
out_nodes chips at block path chip pins k lt =
    let same = all_named chip.chip.outputs ∙ ap bits_named pins ∙ sixteen in
    sym (index_is (at path) (codes "out") 16 k lt) ∙ sym (ap (λ (bits : List BitOf). slice_index (nodes_at (at path) bits) k) same)

-- ---- what ends are given

module _ (world : World) (inputs : Inputs) (n : ℕ) (chips : Chips) (at : List ℕ → Wires ℕ) (block : List ℕ → ℕ) (path : List ℕ) (chip : Entry) where
  abbrev listed_here : PartAt
  listed_here = part_at chips at block (record { path = path; chip = chip })

  hears_by : (e : End) → HasPins chip e → end_of chips.memories chip ≡ Some e → ListedHears world inputs n e listed_here → EndHears world inputs n (block path) e (at path)
  hears_by ends.Nand pins is h = tt
  hears_by ends.Dff pins is h = tt
  hears_by ends.Keyboard pins is h = λ c lt.
      number_same 16 (λ k. inputs.pin c (at path (codes "out") k)) (λ k. inputs.pin c (slice_index listed_here.outs k)) (λ k below. ap (inputs.pin c) (out_nodes chips at block path chip pins.outputs k below)) ∙ h c lt
  hears_by ends.Rom pins is h = h (block path) (ap (λ (o : Option End). block_at o (block path)) is)
  hears_by (ends.Block bits) pins is h = h (block path) (ap (λ (o : Option End). block_at o (block path)) is)

pub hearing : HearingLaw
hearing world chips name top e is inputs n tree pins found no_end listed hears path chip kind at is_end = by path at
  where
    by : (p : List ℕ) → chip_at chips top p ≡ Some chip → EndHears world inputs n (is.block p) kind (is.at p)
    by [] at_top =
        let same : top ≡ chip = cc in
        let both : None ≡ Some kind = sym no_end ∙ ap (end_of chips.memories) same ∙ is_end in
        absurd cc
    by (l ∷ r) at_part =
        let s = in_tree chips top chip tree l r listed at_part in
        let one = one_tree chips top is.tree tree is.listed listed in
        let listed_there = ap (λ (x : List PartAt). slice_get x s.k) is.parts ∙ slice_get-map (part_at chips is.at is.block) is.tree s.k ∙ ap (λ (x : List PartIn). option_map (part_at chips is.at is.block) (slice_get x s.k)) one ∙ ap (option_map (part_at chips is.at is.block)) s.there in
        let named_pins = named_at chips (l ∷ r) top chip (record { name = name; found = found }) at_part in
        hears_by world inputs n chips is.at is.block (l ∷ r) chip kind (pins named_pins.name chip kind named_pins.found is_end) is_end
        (hears s.k (record { path = l ∷ r; chip = chip }) (part_at chips is.at is.block (record { path = l ∷ r; chip = chip })) kind s.there listed_there is_end)

pub directory : DirectoryLaw
directory world chips name top e is pins found no_end tree listed inputs n v hears are = behaves world chips top e is inputs n v (hearing world chips name top e is inputs n tree pins found no_end listed hears) are
