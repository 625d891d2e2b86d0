-- What chips are made of in the end: Nand gates, flip-flops, and what comes from outside. (The book, chapters 1 to 5, and appendix 2.)
use Rattle.std.specs.Prelude.{◌≡◌, ℕ, List, [], ◌∷◌, Some, None, slice_get}
use Rattle.hdl_tree.specs.declared.tree.Part.{Part}
use Rattle.hdl_tree.specs.declared.tree.Body.TheVariants.{Parts}
use Rattle.hdl_tree.specs.declared.library.Entry.{Entry}
use Rattle.hdl_tree.specs.declared.ends.End.{End}
use Rattle.hdl_tree.specs.declared.ends.End.TheVariants as ends
use Rattle.hdl_tree.specs.declared.ends.Memories.{Memories}
use Rattle.hdl_tree.specs.declared.ends.Memories.TheVariants.{Blocks}
use Rattle.hdl_tree.specs.Chips.{Chips, end_of, find_chip}
use Rattle.hdl_check.specs.Locations.{IsFaultless}
use Rattle.hdl_check.specs.Whole.{chips_in}
use Rattle.hack_cpu.specs.Library.{shipped_chips}

-- A Nand gate, a flip-flop, the keyboard or the ROM; and where the memories of the library are blocks, such a block.
abbrev pub IsGround : Memories → End → Type 0
IsGround memories ends.Nand = Unit {0}
IsGround memories ends.Dff = Unit {0}
IsGround memories ends.Keyboard = Unit {0}
IsGround memories ends.Rom = Unit {0}
IsGround memories (ends.Block bits) = memories ≡ Blocks

-- the chip of each part is in the library
abbrev pub AreThere : Chips → List Part → Type 0
AreThere chips parts = (i : ℕ) (part : Part) → slice_get parts i ≡ Some part → (inner : Entry) × (find_chip chips part.chip ≡ Some inner)

-- The chip is such an end; or its text is made of parts, whose chips are there and come down to such ends too.
pub data ComesDown (chips : Chips) : Entry → Type 0 where
  is_end : {chip : Entry} (e : End) → end_of chips.memories chip ≡ Some e → IsGround chips.memories e → ComesDown chips chip
  of_parts : {chip : Entry} (parts : List Part) → end_of chips.memories chip ≡ None → chip.chip.body ≡ Parts parts → AreThere chips parts
      → ((i : ℕ) (part : Part) (inner : Entry) → slice_get parts i ≡ Some part → find_chip chips part.chip ≡ Some inner → ComesDown chips inner) → ComesDown chips chip

-- Each chip without faults comes down to such ends, so each shipped one, with blocks and with memories of gates.
pub record DownLaw : Type 0 where
  pub faultless : (chips : Chips) (chip : Entry) → IsFaultless chips (chip.name ∷ []) chip
      → ComesDown chips chip
  pub shipped : (memories : Memories) (i : ℕ) (entry : Entry)
      → slice_get shipped_chips i ≡ Some entry → ComesDown (chips_in shipped_chips memories) entry
