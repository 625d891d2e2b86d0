-- One cycle of the Computer is one step of the instruction machine, whether its memories are blocks or made of gates.
-- (The book, chapters 3 to 5.)
use Rattle.std.specs.Prelude.{◌≡◌, ℕ, ◌<◌, false, List, []}
use Rattle.hack_isa.specs.Machine.{machine_at}
use Rattle.hdl_tree.specs.Chips.{Chips}
use Rattle.hdl_tree.specs.Behaviour.{Histories, IsBehaviour}
use Rattle.chip_basic.specs.Hdl.{shipped_entry}
use Rattle.chip_basic.specs.Laws.{bit}
use Rattle.hack_cpu.specs.Computer.{Shows, outside}
use Rattle.hack_cpu.specs.Trees.{HasComputerChips, computer_tree}

-- Take any behaviour of the Computer in a library that has its chips as they are shipped, with an image and keys and
-- without a reset. A, D, the pc and the words 0 to 24575 at cycle c are those of the instruction machine after c steps.
-- A word of memory is what the pins of RAM16K and Screen say of it.
abbrev pub WholeCycleLaw : Type 0
WholeCycleLaw = (image : List ℕ) (keys : ℕ → ℕ) (library : Chips) (n : ℕ) (wires : List ℕ → Histories) → HasComputerChips library
    → IsBehaviour (outside image keys) library (shipped_entry computer_tree) n wires → ((c : ℕ) → c < n → bit (wires []) "reset" c ≡ false)
    → (c : ℕ) → c < n → Shows wires c (machine_at image keys c)
