-- What elaboration asks of the Computer. (The book, chapters 1 to 5, and appendix 2.)
use Rattle.std.specs.Prelude.{ℕ, List, IsSome, codes}
use Rattle.hdl_tree.specs.declared.library.Entry.{Entry}
use Rattle.hdl_tree.specs.declared.ends.Memories.{Memories}
use Rattle.hdl_tree.specs.Chips.{find_entry}
use Rattle.hdl_check.specs.Whole.{AreDistinct, TopIsFaultless, chips_in}
use Rattle.hdl_flatten.specs.Ends.{EndsHavePins}
use Rattle.hdl_flatten.specs.Flat.{NeedsFew}
use Rattle.hdl_elab.specs.Sound.{TopHasNoLoop}
use Rattle.hack_cpu.specs.Library.{shipped_chips}

-- the chip of this name is there, needs few nodes, and it has no fault and no loop
pub record CanBeNet (entries : List Entry) (memories : Memories) (name : List ℕ) : Type 0 where
  pub distinct : AreDistinct entries
  pub there : IsSome (find_entry entries name)
  pub faultless : TopIsFaultless (chips_in entries memories) name
  pub ends : EndsHavePins (chips_in entries memories)
  pub few : NeedsFew (chips_in entries memories) name
  pub no_loop : TopHasNoLoop (chips_in entries memories) name

-- The Computer among the shipped chips is such a chip, with its memories as blocks and with memories of gates.
abbrev pub BuildableLaw : Type 0
BuildableLaw = (memories : Memories) → CanBeNet shipped_chips memories (codes "Computer")
