-- One cycle of the Computer is one step of the instruction machine. (The book, chapters 4 and 5.)
use Rattle.std.specs.Prelude.{◌≡◌, ℕ, ◌-◌, ◌<◌, nat_lt, false, if◌then◌else◌, List, [], ◌∷◌, slice_index}
use Rattle.hack_isa.specs.Machine.{Machine, machine_at}
use Rattle.hdl_tree.specs.declared.library.Entry.{Entry}
use Rattle.hdl_tree.specs.declared.ends.Memories.TheVariants.{Blocks}
use Rattle.hdl_tree.specs.Memory.{word_held}
use Rattle.hdl_tree.specs.Chips.{Chips}
use Rattle.hdl_tree.specs.Behaviour.{Histories, World, IsBehaviour}
use Rattle.chip_basic.specs.Hdl.{shipped_entry}
use Rattle.chip_basic.specs.Laws.{bit, bits, word}
use Rattle.hack_cpu.specs.Trees.{HasComputerChips, computer_tree}

-- a library whose memories are blocks
abbrev pub of_blocks : List Entry → Chips
of_blocks entries = record { entries = entries; memories = Blocks }

-- what comes from outside: the image in the ROM, 0 past it, and the key of each cycle
abbrev pub outside : List ℕ → (ℕ → ℕ) → World
outside image keys = record { key = keys; rom = slice_index image }

-- ---- what is seen of a behaviour of the Computer, at the start of a cycle

-- the word at a place of a block of 2 ^ n words, by the histories of the block's pins
abbrev pub block_word : ℕ → Histories → ℕ → ℕ → ℕ
block_word n w c a = word_held (bit w "load") (bits n w "address") (word w "in") (λ x. 0) c a

-- A and D: the registers are the parts 3 and 6 of the CPU, which is part 0
abbrev pub a_at : (List ℕ → Histories) → ℕ → ℕ
a_at wires c = word (wires (0 ∷ 3 ∷ [])) "out" c

abbrev pub d_at : (List ℕ → Histories) → ℕ → ℕ
d_at wires c = word (wires (0 ∷ 6 ∷ [])) "out" c

-- the pins pc of the CPU
abbrev pub pc_at : (List ℕ → Histories) → ℕ → ℕ
pc_at wires c = bits 15 (wires (0 ∷ [])) "pc" c

-- a word of main memory or of the screen, which are the parts 3 and 4 of Memory, part 2
abbrev pub word_at : (List ℕ → Histories) → ℕ → ℕ → ℕ
word_at wires c x = if nat_lt x 16384 then block_word 14 (wires (2 ∷ 3 ∷ [])) c x else block_word 13 (wires (2 ∷ 4 ∷ [])) c (x - 16384)

-- in a cycle the behaviour shows this state of the instruction machine
pub record Shows (wires : List ℕ → Histories) (c : ℕ) (s : Machine) : Type 0 where
  pub a : a_at wires c ≡ s.a
  pub d : d_at wires c ≡ s.d
  pub pc : pc_at wires c ≡ s.pc
  pub memory : (x : ℕ) → x < 24576 → word_at wires c x ≡ s.memory x

-- ---- the law

-- In every behaviour of the Computer whose memories are blocks, with an image and keys and without a reset: A, D, the pc and the words 0 to 24575 at
-- cycle c are those of the instruction machine after c steps.
abbrev pub CycleLaw : Type 0
CycleLaw = (image : List ℕ) (keys : ℕ → ℕ) (entries : List Entry) (n : ℕ) (wires : List ℕ → Histories) → HasComputerChips (of_blocks entries) → IsBehaviour (outside image keys) (of_blocks entries) (shipped_entry computer_tree) n wires →
    ((c : ℕ) → c < n → bit (wires []) "reset" c ≡ false) → (c : ℕ) → c < n → Shows wires c (machine_at image keys c)
