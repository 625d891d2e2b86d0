-- What the chips that keep words do, over every history of their inputs. (The book, chapter 3.)
use Rattle.std.specs.Prelude.{◌≡◌, ℕ, ◌<◌, true, false, cond, List, [], ◌∷◌}
use Rattle.word16.specs.Words.{word_add}
use Rattle.hdl_tree.specs.declared.tree.Chip.{Chip}
use Rattle.hdl_tree.specs.declared.library.Entry.{Entry}
use Rattle.hdl_tree.specs.declared.ends.Memories.TheVariants.{Gates}
use Rattle.hdl_tree.specs.Writable.{all, chip_can}
use Rattle.hdl_tree.specs.Memory.{before}
use Rattle.hdl_tree.specs.Chips.{Chips}
use Rattle.hdl_tree.specs.Behaviour.{Histories, World, IsBehaviour, BlockWorks}
use Rattle.chip_basic.specs.Hdl.{shipped_entry}
use Rattle.chip_basic.specs.Laws.{Always, bit, word}
use Rattle.chip_memory.specs.Trees.{HasMemoryChips, dff_tree, bit_tree, register_tree, a_register_tree, d_register_tree, pc_tree, ram8_tree, ram64_tree, ram512_tree, ram4k_tree, ram16k_tree, screen_tree}

-- ---- registers

-- the bit is 0 in the first cycle; the next one is in where load is 1, else the bit itself
abbrev pub BitLaw : Type 0
BitLaw = Always HasMemoryChips bit_tree (λ w c. bit w "out" c ≡ before false c (λ d. cond (bit w "load" d) (bit w "in" d) (bit w "out" d)))

-- the same of a word
abbrev pub Registers : Histories → ℕ → Type 0
Registers w c = word w "out" c ≡ before 0 c (λ d. cond (bit w "load" d) (word w "in" d) (word w "out" d))

abbrev pub RegisterLaw : Type 0
RegisterLaw = Always HasMemoryChips register_tree Registers

abbrev pub ARegisterLaw : Type 0
ARegisterLaw = Always HasMemoryChips a_register_tree Registers

abbrev pub DRegisterLaw : Type 0
DRegisterLaw = Always HasMemoryChips d_register_tree Registers

-- the count is 0 in the first cycle; the next one is 0 if reset, else in if load, else the sum with 1 if inc, else the count itself
abbrev pub PcLaw : Type 0
PcLaw = Always HasMemoryChips pc_tree (λ w c. word w "out" c ≡ before 0 c (λ d. cond (bit w "reset" d) 0 (cond (bit w "load" d) (word w "in" d) (cond (bit w "inc" d) (word_add (word w "out" d) 1) (word w "out" d)))))

-- ---- memories

-- a library whose memories are made of gates
abbrev pub of_gates : List Entry → Chips
of_gates entries = record { entries = entries; memories = Gates }

-- In each cycle of every behaviour of the chip of gates, its pins are those of a block of 2 ^ bits words, all 0 at the start. Its out is the
-- word at the address, which is the last one that was loaded there in a cycle before.
abbrev pub IsBlock : ℕ → Chip → Type 0
IsBlock bits chip = (world : World) (entries : List Entry) (n : ℕ) (wires : List ℕ → Histories) → HasMemoryChips (of_gates entries) → IsBehaviour world (of_gates entries) (shipped_entry chip) n wires → (c : ℕ) → c < n → BlockWorks c bits (wires [])

abbrev pub Ram8Law : Type 0
Ram8Law = IsBlock 3 ram8_tree

abbrev pub Ram64Law : Type 0
Ram64Law = IsBlock 6 ram64_tree

abbrev pub Ram512Law : Type 0
Ram512Law = IsBlock 9 ram512_tree

abbrev pub Ram4kLaw : Type 0
Ram4kLaw = IsBlock 12 ram4k_tree

abbrev pub Ram16kLaw : Type 0
Ram16kLaw = IsBlock 14 ram16k_tree

abbrev pub ScreenLaw : Type 0
ScreenLaw = IsBlock 13 screen_tree

-- ---- texts

-- each of these chips keeps the rules of texts, so that its printed form spells it
abbrev pub MemoryTextsLaw : Type 0
MemoryTextsLaw = all chip_can (dff_tree ∷ bit_tree ∷ register_tree ∷ a_register_tree ∷ d_register_tree ∷ pc_tree ∷ ram8_tree ∷ ram64_tree ∷ ram512_tree ∷ ram4k_tree ∷ ram16k_tree ∷ screen_tree ∷ []) ≡ true
