-- Libraries of shipped chips and of chips from texts. (The book, chapters 1 to 5, and appendix 2.)
use Rattle.std.specs.Prelude.{◌≡◌, ℕ, List, [], ◌∷◌, ◌++◌, ◌⊎◌, None, Some, slice_get}
use Rattle.hdl_tree.specs.declared.library.Entry.{Entry}
use Rattle.hdl_tree.specs.declared.ends.Memories.{Memories}
use Rattle.hdl_tree.specs.Chips.{find_entry}
use Rattle.hdl_check.specs.Whole.{AreDistinct, chips_in}
use Rattle.hdl_flatten.specs.Ends.{EndsHavePins}
use Rattle.hack_cpu.specs.Library.{shipped_chips}

-- the chip is a shipped one, under any name
pub record IsShippedAs (entry : Entry) : Type 0 where
  pub place : ℕ
  pub original : Entry
  pub there : slice_get shipped_chips place ≡ Some original
  pub chip : entry.chip ≡ original.chip
  pub shipped : entry.shipped ≡ original.shipped

-- Each chip comes from a text, with parts, or is a shipped one, and no two have the same name.
pub record IsLibrary (entries : List Entry) : Type 0 where
  pub distinct : AreDistinct entries
  pub known : (k : ℕ) (entry : Entry) → slice_get entries k ≡ Some entry
      → (entry.shipped ≡ None) ⊎ IsShippedAs entry

-- No chips are such a library, and so are the shipped ones. So is one with one more chip from a text, or with one more shipped chip, under a name
-- that no other has. So a chip from a text may have the name of a shipped one, which then is left out. The ends in such a library have their pins.
pub record LibrariesLaw : Type 0 where
  pub empty : IsLibrary []
  pub shipped : IsLibrary shipped_chips
  pub more : (entries : List Entry) (entry : Entry) → IsLibrary entries
      → find_entry entries entry.name ≡ None → (entry.shipped ≡ None) ⊎ IsShippedAs entry
      → IsLibrary (entries ++ entry ∷ [])
  pub ends : (entries : List Entry) (memories : Memories) → IsLibrary entries
      → EndsHavePins (chips_in entries memories)
