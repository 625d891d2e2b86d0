-- What a part does, from what the chip around it does.
use Rattle.std.proofs.Common.{◌≡◌, ℕ, ◌<◌, Bool, false, true, List, [], ◌∷◌, Option, Some, None, sym, ap, ◌∙◌, refl, add-zero, zero-add}
use Rattle.std.specs.Prelude.{slice_get}
use Rattle.hdl_tree.specs.declared.tree.Part.{Part}
use Rattle.hdl_tree.specs.declared.library.Entry.{Entry}
use Rattle.hdl_tree.specs.declared.ends.End.{End}
use Rattle.hdl_tree.specs.declared.tree.Subscript.TheVariants.{Bit}
use Rattle.hdl_tree.specs.Chips.{Chips, end_of, find_chip, parts_of, parts_of_body, parts_unless}
use Rattle.hdl_tree.specs.Behaviour.{Wires, Histories, World, ChipWired, Works, PartWired, EndWorks, Joins, width_of}
use Rattle.hdl_tree.proofs.Parts.{inner_is, chip_at_part}
use Rattle.chip_basic.specs.Hdl.{connect}

-- all of a part works where the chip around it does
works_inside : (world : World) (c : ℕ) (library : Chips) (chip : Entry) (wires : List ℕ → Histories) → Works world c library chip wires → (i : ℕ) (part : Part) (inner : Entry) → slice_get (parts_of library chip) i ≡ Some part → find_chip library part.chip ≡ Some inner → Works world c library inner (λ path. wires (i ∷ path))
works_inside world c library chip wires h i part inner e f path x g =
    h (i ∷ path) x (chip_at_part library chip i inner path (inner_is library chip i part inner e f) ∙ g)

at_parts : (works : End → Type 0) (library : Chips) (chip : Entry) (end : Option End) (wires : Wires Bool) (inside : ℕ → Wires Bool) → ChipWired false true library chip end wires inside works → (i : ℕ) (part : Part) (inner : Entry) → slice_get (parts_unless end (parts_of_body chip.chip.body)) i ≡ Some part → find_chip library part.chip ≡ Some inner → PartWired false true inner part wires (inside i)
at_parts works library chip None wires inside h i part inner e f = h.part i part inner e f
at_parts works library chip (Some x) wires inside h i part inner e f = Prim.cc

-- a part, its connections and all that is in it
pub record PartOf (world : World) (c : ℕ) (library : Chips) (wires : List ℕ → Histories) (i : ℕ) (part : Part) (inner : Entry) : Type 0 where
  pub outside : PartWired false true inner part (λ name bit. wires [] name bit c) (λ name bit. wires (i ∷ []) name bit c)
  pub inside : Works world c library inner (λ path. wires (i ∷ path))

-- part i of a chip that works
pub part_of : (world : World) (c : ℕ) (library : Chips) (chip : Entry) (wires : List ℕ → Histories) → Works world c library chip wires → (i : ℕ) (part : Part) (inner : Entry) → slice_get (parts_of library chip) i ≡ Some part → find_chip library part.chip ≡ Some inner → PartOf world c library wires i part inner
part_of world c library chip wires h i part inner e f = record {
  outside = at_parts (λ x. EndWorks world c x (wires [])) library chip (end_of library.memories chip) (λ name bit. wires [] name bit c) (λ j name bit. wires (j ∷ []) name bit c) (h [] chip refl) i part inner e f;
  inside = works_inside world c library chip wires h i part inner e f;
}

-- a pin of one bit that is joined to bit i of a net
pub bit_joined : (c : ℕ) (inner : Entry) (outside inside : Histories) (pin net : List ℕ) (i : ℕ) → Joins false true inner (λ name bit. outside name bit c) (λ name bit. inside name bit c) (connect pin None net (Some (Bit i))) → 0 < width_of inner pin → inside pin 0 c ≡ outside net i c
bit_joined c inner outside inside pin net i j h = j 0 h ∙ ap (λ x. outside net x c) (add-zero i)

-- a pin that is joined to the whole of a net
pub whole_joined : (c : ℕ) (inner : Entry) (outside inside : Histories) (pin net : List ℕ) → Joins false true inner (λ name bit. outside name bit c) (λ name bit. inside name bit c) (connect pin None net None) → (k : ℕ) → k < width_of inner pin → inside pin k c ≡ outside net k c
whole_joined c inner outside inside pin net j k h = ap (λ x. inside pin x c) (sym (zero-add k)) ∙ j k h ∙ ap (λ x. outside net x c) (zero-add k)
