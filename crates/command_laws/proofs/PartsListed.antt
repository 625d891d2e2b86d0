-- The parts of the Computer can be listed: each chip of a library whose texts are clean has a tree.
use Rattle.std.proofs.Common.{◌≡◌, ◌<◌, ℕ, zero, suc, List, [], ◌∷◌, Some, slice_get, codes, refl, arith}
use Rattle.hdl_tree.specs.declared.tree.Part.{Part}
use Rattle.hdl_tree.specs.declared.library.Entry.{Entry}
use Rattle.hdl_tree.specs.declared.ends.Memories.TheVariants.{Blocks}
use Rattle.hdl_tree.specs.Chips.{Chips, find_chip, parts_of}
use Rattle.hdl_flatten.specs.Trees.{AreListed, IsTree, PartIn, next, none}
use Rattle.hdl_behaviours.specs.Clean.{AreClean, place_of}
use Rattle.hdl_behaviours.proofs.Clean.{earlier, find_in}
use Rattle.hack_cpu.proofs.HasAll.{has_all}
use Rattle.hack_cpu.proofs.Shown.{clean}
use Rattle.gate_computer.specs.Computer.{chips, computer}
use Rattle.gate_computer.specs.Parts.{AreComputerParts}

module _ (library : Chips) (are : AreClean library) where
  abbrev HasTree : Entry → Type 0
  HasTree chip = (tree : List PartIn) × IsTree library chip tree

  -- the chip of a part, with its tree
  record Grown (part : Part) : Type 0 where
    chip : Entry
    found : find_chip library part.chip ≡ Some chip
    inner : HasTree chip

  all_listed : (parts : List Part) (n : ℕ) → ((i : ℕ) (part : Part) → slice_get parts i ≡ Some part → Grown part) → (tree : List PartIn) × AreListed library n parts tree
  all_listed [] n each = ([], none)
  all_listed (p ∷ parts) n each =
      let g = each 0 p refl in
      let rest = all_listed parts (suc n) (λ i part e. each (suc i) part e) in
      (_, next g.found g.inner.1 rest.1)

  -- the chips of its parts stand before a chip
  tree_below : (k i : ℕ) (chip : Entry) → slice_get library.entries i ≡ Some chip → place_of library.entries chip.name < k → HasTree chip
  tree_below zero i chip there low = absurd (omega (arith, low))
  tree_below (suc k) i chip there low = all_listed (parts_of library chip) 0 (λ j part e.
      let before = earlier library chip j part (are i chip there) e in
      let inner = find_in library.entries part.chip before.inner before.found in
      let near = before.before in
      record { chip = before.inner; found = before.found; inner = tree_below k inner.place before.inner inner.there (omega (arith, near, low)) })

  pub tree_found : (name : List ℕ) (chip : Entry) → find_chip library name ≡ Some chip → HasTree chip
  tree_found name chip found =
      let here = find_in library.entries name chip found in tree_below (suc (place_of library.entries chip.name)) here.place chip here.there (omega arith)

pub computer_parts : (places : List PartIn) × AreComputerParts places
computer_parts = tree_found chips (clean Blocks) (codes "Computer") computer (has_all Blocks).computer
