-- What a part does, from what the chip around it does.
use Rattle.std.proofs.Common.{◌≡◌, ℕ, false, true, List, [], ◌∷◌, Option, Some, None, refl, ap, ◌∙◌}
use Rattle.std.specs.Prelude.{slice_get}
use Rattle.hdl_tree.specs.declared.tree.Part.{Part}
use Rattle.hdl_tree.specs.declared.library.Entry.{Entry}
use Rattle.hdl_tree.specs.declared.ends.End.{End}
use Rattle.hdl_tree.specs.declared.ends.End.TheVariants as ends
use Rattle.hdl_tree.specs.Chips.{Chips, end_of, find_chip, parts_of, parts_of_body, parts_unless}
use Rattle.hdl_tree.specs.Behaviour.{Wires, Histories, World, chip_of, inner_chip, chip_at, ChipWired, Wired, Works, PartWired, EndWorks}

pub inner_is : (library : Chips) (chip : Entry) (i : ℕ) (part : Part) (inner : Entry) → slice_get (parts_of library chip) i ≡ Some part → find_chip library part.chip ≡ Some inner → inner_chip library chip i ≡ Some inner
inner_is library chip i part inner e f = ap (chip_of library) e ∙ f

pub chip_at_part : (library : Chips) (chip : Entry) (i : ℕ) (inner : Entry) (path : List ℕ) → inner_chip library chip i ≡ Some inner → chip_at library chip (i ∷ path) ≡ chip_at library inner path
chip_at_part library chip i inner path e =
    ap (λ (x : Option Entry). elim x as (λ _. Option Entry) [ None ↦ None | Some y ↦ chip_at library y path ]) e
