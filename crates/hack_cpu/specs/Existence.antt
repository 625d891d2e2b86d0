-- Each shipped chip has a behaviour, and so has the Computer with an image and keys. (The book, chapters 1 to 5.)
use Rattle.std.specs.Prelude.{◌≡◌, ℕ, ◌<◌, false, List, [], Some}
use Rattle.std.specs.List.{All}
use Rattle.hdl_tree.specs.declared.library.Entry.{Entry}
use Rattle.hdl_tree.specs.declared.ends.Memories.{Memories}
use Rattle.hdl_tree.specs.Chips.{find_chip}
use Rattle.hdl_tree.specs.Behaviour.{Histories, World, IsBehaviour}
use Rattle.hdl_check.specs.Whole.{chips_in}
use Rattle.hdl_behaviours.specs.Existence.{AreWords, HasBehaviour}
use Rattle.chip_basic.specs.Hdl.{shipped_entry}
use Rattle.chip_basic.specs.Laws.{bit}
use Rattle.hack_cpu.specs.Trees.{computer_tree}
use Rattle.hack_cpu.specs.Library.{shipped_chips}
use Rattle.hack_cpu.specs.Computer.{of_blocks, outside}

-- With blocks and with memories of gates, each shipped chip has a behaviour over any number of cycles. So it is whatever comes in at its
-- inputs, from the keyboard and from the ROM.
abbrev pub ExistenceLaw : Type 0
ExistenceLaw =
    (memories : Memories) (name : List ℕ) (entry : Entry) → find_chip (chips_in shipped_chips memories) name ≡ Some entry →
    (world : World) → AreWords world → (n : ℕ) (input : Histories) → HasBehaviour world (chips_in shipped_chips memories) entry n input

-- a behaviour of the Computer over n cycles, with an image and keys and without a reset
pub record ComputerRuns (image : List ℕ) (keys : ℕ → ℕ) (n : ℕ) : Type 0 where
  pub wires : List ℕ → Histories
  pub behaves : IsBehaviour (outside image keys) (of_blocks shipped_chips)
      (shipped_entry computer_tree) n wires
  pub no_reset : (c : ℕ) → bit (wires []) "reset" c ≡ false

-- There is one for each image of words and all keys, so that the law of the Computer speaks of something.
abbrev pub RunsLaw : Type 0
RunsLaw = (image : List ℕ) (keys : ℕ → ℕ) (n : ℕ) → All (λ w. w < 65536) image → ((c : ℕ) → keys c < 65536) → ComputerRuns image keys n
