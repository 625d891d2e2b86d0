-- The two memories in Memory work as blocks do, be they blocks or of gates.
use Rattle.std.proofs.Common.{◌≡◌, ℕ, ◌<◌, List, [], ◌∷◌, refl}
use Rattle.hdl_tree.specs.declared.library.Entry.{Entry}
use Rattle.hdl_tree.specs.declared.ends.Memories.{Memories}
use Rattle.hdl_tree.specs.declared.ends.Memories.TheVariants.{Blocks, Gates}
use Rattle.hdl_tree.specs.Chips.{Chips, end_of}
use Rattle.hdl_tree.specs.Behaviour.{Histories, World, IsBehaviour, BlockWorks}
use Rattle.chip_basic.specs.Hdl.{shipped_entry}
use Rattle.chip_basic.proofs.Inside.{PartOf, part_of}
use Rattle.chip_memory.specs.Trees.{ram16k_tree, screen_tree}
use Rattle.chip_memory.proofs.Rams.{ram16k_works, screen_works}
use Rattle.hack_cpu.specs.Trees.{HasComputerChips, memory_tree}
use Rattle.hack_cpu.proofs.Memory.{ram_piece, screen_piece}

module _ (world : World) (entries : List Entry) (n : ℕ) (w : List ℕ → Histories) where
  main : (b : Memories) → HasComputerChips (record { entries = entries; memories = b }) → IsBehaviour world (record { entries = entries; memories = b }) (shipped_entry memory_tree) n w → (c : ℕ) → c < n → PartOf world c (record { entries = entries; memories = b }) w 3 ram_piece (shipped_entry ram16k_tree)
  unfolding end_of memory_tree
  main b has h c lt = part_of world c (record { entries = entries; memories = b }) (shipped_entry memory_tree) w (h c lt) 3 ram_piece (shipped_entry ram16k_tree) refl has.memories.ram16k

  upper : (b : Memories) → HasComputerChips (record { entries = entries; memories = b }) → IsBehaviour world (record { entries = entries; memories = b }) (shipped_entry memory_tree) n w → (c : ℕ) → c < n → PartOf world c (record { entries = entries; memories = b }) w 4 screen_piece (shipped_entry screen_tree)
  unfolding end_of memory_tree
  upper b has h c lt = part_of world c (record { entries = entries; memories = b }) (shipped_entry memory_tree) w (h c lt) 4 screen_piece (shipped_entry screen_tree) refl has.memories.screen

  main_works : (b : Memories) → HasComputerChips (record { entries = entries; memories = b }) → IsBehaviour world (record { entries = entries; memories = b }) (shipped_entry memory_tree) n w → (c : ℕ) → c < n → BlockWorks c 14 (w (3 ∷ []))
  unfolding end_of ram16k_tree
  main_works Blocks has h c lt = (main Blocks has h c lt).inside [] (shipped_entry ram16k_tree) refl
  main_works Gates has h c lt = ram16k_works world entries n has.memories (λ path. w (3 ∷ path)) (λ d less. (main Gates has h d less).inside) c lt

  upper_works : (b : Memories) → HasComputerChips (record { entries = entries; memories = b }) → IsBehaviour world (record { entries = entries; memories = b }) (shipped_entry memory_tree) n w → (c : ℕ) → c < n → BlockWorks c 13 (w (4 ∷ []))
  unfolding end_of screen_tree
  upper_works Blocks has h c lt = (upper Blocks has h c lt).inside [] (shipped_entry screen_tree) refl
  upper_works Gates has h c lt = screen_works world entries n has.memories (λ path. w (4 ∷ path)) (λ d less. (upper Gates has h d less).inside) c lt

module _ (world : World) (library : Chips) (has : HasComputerChips library) (n : ℕ) (w : List ℕ → Histories) (h : IsBehaviour world library (shipped_entry memory_tree) n w) where
  pub main_block : (c : ℕ) → c < n → BlockWorks c 14 (w (3 ∷ []))
  main_block = main_works world library.entries n w library.memories has h

  pub upper_block : (c : ℕ) → c < n → BlockWorks c 13 (w (4 ∷ []))
  upper_block = upper_works world library.entries n w library.memories has h
