-- What Memory does, in the words of its own pins: the memory map. (The book, chapter 5.)
use Rattle.std.specs.Prelude.{◌≡◌, ℕ, ◌-◌, ◌<◌, nat_lt, if◌then◌else◌, List, [], ◌∷◌}
use Rattle.hdl_tree.specs.Chips.{Chips}
use Rattle.hdl_tree.specs.Behaviour.{Histories, World, IsBehaviour}
use Rattle.chip_basic.specs.Hdl.{shipped_entry}
use Rattle.chip_basic.specs.Laws.{bits, word}
use Rattle.hack_cpu.specs.Computer.{block_word}
use Rattle.hack_cpu.specs.Trees.{HasComputerChips, memory_tree}

-- At an address below 24,576 Memory gives the word that was last loaded there in a cycle before, or 0; from there on it
-- gives the key that is held.
abbrev pub MemoryWorks : World → Histories → ℕ → Type 0
MemoryWorks world w c = word w "out" c ≡ (let a = bits 15 w "address" c in if nat_lt a 24576 then block_word 15 w c a else world.key c)

-- The words below 16,384 are those of RAM16K, and the others those of Screen, which are its parts 3 and 4.
abbrev pub IsMapped : (List ℕ → Histories) → ℕ → ℕ → Type 0
IsMapped wires c a = block_word 15 (wires []) c a ≡ (if nat_lt a 16384 then block_word 14 (wires (3 ∷ [])) c a else block_word 13 (wires (4 ∷ [])) c (a - 16384))

-- in each cycle of each behaviour of Memory, whether its memories are blocks or made of gates
pub record MemoryLaw : Type 0 where
  pub works : (world : World) (library : Chips) (n : ℕ) (wires : List ℕ → Histories)
      → HasComputerChips library
      → IsBehaviour world library (shipped_entry memory_tree) n wires → (c : ℕ) → c < n → MemoryWorks world (wires []) c
  pub map : (world : World) (library : Chips) (n : ℕ) (wires : List ℕ → Histories)
      → HasComputerChips library
      → IsBehaviour world library (shipped_entry memory_tree) n wires → (c : ℕ) → c < n → (a : ℕ) → a < 24576 → IsMapped wires c a
