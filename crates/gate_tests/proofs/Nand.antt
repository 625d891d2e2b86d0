-- Nand under the name of Nand is a shipped chip.
use Rattle.std.proofs.Common.{◌≡◌, Some, refl, ap, ◌∙◌}
use Rattle.std.specs.Prelude.{slice_get}
use Rattle.hdl_tree.specs.declared.library.Entry.{Entry}
use Rattle.hdl_tree.specs.declared.tree.Chip.{Chip}
use Rattle.chip_basic.specs.Hdl.{shipped_entry}
use Rattle.chip_basic.specs.Trees.{nand_tree}
use Rattle.hack_cpu.specs.Library.{shipped_chips}
use Rattle.hack_cpu.specs.Libraries.{IsShippedAs}

first_is : slice_get shipped_chips 0 ≡ Some (shipped_entry nand_tree)
unfolding shipped_chips
first_is = refl

pub nand_shipped : (entry : Entry) → entry.chip ≡ nand_tree → entry.shipped ≡ Some entry.chip.name → IsShippedAs entry
nand_shipped entry chip own = record {
  place = 0;
  original = shipped_entry nand_tree;
  there = first_is;
  chip = chip;
  shipped = own ∙ ap (λ (c : Chip). Some c.name) chip;
}
