-- The Computer made of gates, with an image and keys: its behaviours, and what is seen of one. (The book, chapter 5.)
use Rattle.std.specs.Prelude.{◌≡◌, ℕ, ◌<◌, false, List, []}
use Rattle.hack_isa.specs.Machine.{Machine}
use Rattle.simulation.specs.Trace.{Trace, trace_of}
use Rattle.image_map.specs.Computer.{endless_loop, hack_system}
use Rattle.image_map.specs.Map.{Map}
use Rattle.hdl_tree.specs.declared.library.Entry.{Entry}
use Rattle.hdl_tree.specs.Chips.{Chips}
use Rattle.hdl_tree.specs.Behaviour.{Histories, IsBehaviour}
use Rattle.chip_basic.specs.Hdl.{shipped_entry}
use Rattle.chip_basic.specs.Laws.{bit}
use Rattle.hack_cpu.specs.Trees.{computer_tree}
use Rattle.hack_cpu.specs.Library.{shipped_chips}
use Rattle.hack_cpu.specs.Computer.{of_blocks, outside, a_at, d_at, pc_at, word_at}

-- all shipped chips; the memories are blocks
abbrev pub chips : Chips
chips = of_blocks shipped_chips

abbrev pub computer : Entry
computer = shipped_entry computer_tree

-- A behaviour of the Computer over n cycles: the image is in its ROM, 0 past it, the keyboard holds a key in each cycle, and reset is 0.
pub record IsComputer (image : List ℕ) (keys : ℕ → ℕ) (n : ℕ) (wires : List ℕ → Histories) : Type 0 where
  pub behaves : IsBehaviour (outside image keys) chips computer n wires
  pub no_reset : (c : ℕ) → c < n → bit (wires []) "reset" c ≡ false

-- ---- what is seen of a behaviour

-- what A, D, the pins pc and the words of main memory and screen show in a cycle, as a state of the instruction machine
abbrev pub state_at : (List ℕ → Histories) → ℕ → Machine
state_at wires c = record { a = a_at wires c; d = d_at wires c; pc = pc_at wires c; memory = word_at wires c }

-- What a map counts of it. A step counts in a cycle whose pc is a commit. A key is heard in a cycle whose instruction, the image's at the pc, reads M
-- while A is the keyboard's address. The point of a cycle is that of its pc.
abbrev pub trace_shown : List ℕ → Map → (ℕ → ℕ) → (List ℕ → Histories) → Trace
trace_shown image map keys wires = trace_of (hack_system image map endless_loop) keys (state_at wires)
