-- All shipped chips. (The book, chapters 1 to 5.)
use Rattle.std.specs.Prelude.{◌≡◌, true, List, [], ◌∷◌, ◌++◌}
use Rattle.hdl_tree.specs.declared.library.Entry.{Entry}
use Rattle.hdl_tree.specs.declared.ends.Memories.{Memories}
use Rattle.hdl_tree.specs.Writable.{all, chip_can}
use Rattle.chip_basic.specs.Hdl.{shipped_entry}
use Rattle.chip_basic.specs.Trees.{nand_tree, not_tree, and_tree, or_tree, xor_tree, mux_tree, dmux_tree, not16_tree, and16_tree, or16_tree, mux16_tree, or8way_tree, mux4way16_tree, mux8way16_tree, dmux4way_tree, dmux8way_tree}
use Rattle.chip_alu.specs.Trees.{half_adder_tree, full_adder_tree, add16_tree, inc16_tree, alu_tree, shift_tree}
use Rattle.chip_memory.specs.Trees.{dff_tree, bit_tree, register_tree, a_register_tree, d_register_tree, pc_tree, ram8_tree, ram64_tree, ram512_tree, ram4k_tree, ram16k_tree, screen_tree}
use Rattle.hack_cpu.specs.Trees.{HasComputerChips, rom_tree, keyboard_tree, cpu_tree, memory_tree, computer_tree}

abbrev pub basic_chips : List Entry
basic_chips = shipped_entry nand_tree ∷ shipped_entry not_tree ∷ shipped_entry and_tree ∷ shipped_entry or_tree ∷ shipped_entry xor_tree ∷ shipped_entry mux_tree ∷ shipped_entry dmux_tree ∷ shipped_entry not16_tree ∷ shipped_entry and16_tree ∷ shipped_entry or16_tree ∷ shipped_entry mux16_tree ∷ shipped_entry or8way_tree ∷ shipped_entry mux4way16_tree ∷ shipped_entry mux8way16_tree ∷ shipped_entry dmux4way_tree ∷ shipped_entry dmux8way_tree ∷ []

abbrev pub computing_chips : List Entry
computing_chips = shipped_entry half_adder_tree ∷ shipped_entry full_adder_tree ∷ shipped_entry add16_tree ∷ shipped_entry inc16_tree ∷ shipped_entry alu_tree ∷ shipped_entry shift_tree ∷ []

abbrev pub memory_chips : List Entry
memory_chips = shipped_entry dff_tree ∷ shipped_entry bit_tree ∷ shipped_entry register_tree ∷ shipped_entry a_register_tree ∷ shipped_entry d_register_tree ∷ shipped_entry pc_tree ∷ shipped_entry ram8_tree ∷ shipped_entry ram64_tree ∷ shipped_entry ram512_tree ∷ shipped_entry ram4k_tree ∷ shipped_entry ram16k_tree ∷ shipped_entry screen_tree ∷ []

abbrev pub computer_chips : List Entry
computer_chips = shipped_entry rom_tree ∷ shipped_entry keyboard_tree ∷ shipped_entry cpu_tree ∷ shipped_entry memory_tree ∷ shipped_entry computer_tree ∷ []

-- the library: all shipped chips, each under its own name
unfoldable pub shipped_chips : List Entry
shipped_chips = basic_chips ++ (computing_chips ++ (memory_chips ++ computer_chips))

-- the library of shipped chips, with blocks or with memories of gates, has all chips that the laws ask for, under their names
abbrev pub LibraryLaw : Type 0
LibraryLaw = (memories : Memories) → HasComputerChips (record { entries = shipped_chips; memories = memories })

-- each of the chips of the computer keeps the rules of texts, so that its printed form spells it
abbrev pub ComputerTextsLaw : Type 0
ComputerTextsLaw = all chip_can (rom_tree ∷ keyboard_tree ∷ cpu_tree ∷ memory_tree ∷ computer_tree ∷ []) ≡ true

-- each shipped chip keeps the rules of texts, so that its printed form spells it
abbrev pub TextsLaw : Type 0
TextsLaw = all (λ entry. chip_can entry.chip) shipped_chips ≡ true
