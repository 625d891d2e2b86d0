-- Which part of the Computer is which, by name. (The book, chapter 5.)
use Prim.Native.String.{String}
use Rattle.std.specs.Prelude.{◌≡◌, ℕ, [], ◌∷◌, codes}
use Rattle.hdl_tree.specs.declared.tree.Chip.{Chip}
use Rattle.hdl_tree.specs.Chips.{parts_of_body}
use Rattle.hack_cpu.specs.Cpu.{places}
use Rattle.hack_cpu.specs.Trees.{computer_tree, cpu_tree, memory_tree}

-- exactly one part of the chip is of this name, and it has this number
abbrev pub IsPart : Chip → String → ℕ → Type 0
IsPart chip name i = places (codes name) 0 (parts_of_body chip.body) ≡ i ∷ []

-- The numbers in the paths of the Computer's parts are these names'.
pub record PlacesLaw : Type 0 where
  pub cpu : IsPart computer_tree "CPU" 0
  pub rom : IsPart computer_tree "ROM32K" 1
  pub memory : IsPart computer_tree "Memory" 2
  pub a_register : IsPart cpu_tree "ARegister" 3
  pub d_register : IsPart cpu_tree "DRegister" 6
  pub pc : IsPart cpu_tree "PC" 17
  pub main : IsPart memory_tree "RAM16K" 3
  pub screen : IsPart memory_tree "Screen" 4
  pub keyboard : IsPart memory_tree "Keyboard" 5
