-- Which outputs of a shipped chip may depend on which of its inputs within the cycle. (The book, chapters 1 to 5.)
use Prim.Native.String.{String}
use Rattle.std.specs.Prelude.{◌≡◌, ℕ, List, [], ◌∷◌, ◌++◌, Some, map, slice_get, codes}
use Rattle.hdl_tree.specs.declared.tree.Chip.{Chip}
use Rattle.hdl_tree.specs.declared.tree.Pin.{Pin}
use Rattle.hdl_tree.specs.declared.library.Entry.{Entry}
use Rattle.hdl_tree.specs.declared.ends.Memories.{Memories}
use Rattle.hdl_check.specs.Whole.{chips_in}
use Rattle.hdl_check.specs.Locations.{IsFaultless}
use Rattle.hdl_behaviours.specs.Levels.{Pairs, pairs_of}
use Rattle.hdl_behaviours.specs.Laws.{IsLoopless}
use Rattle.chip_basic.specs.Trees.{nand_tree, not_tree, and_tree, or_tree, xor_tree, mux_tree, dmux_tree, not16_tree, and16_tree, or16_tree, mux16_tree, or8way_tree, mux4way16_tree, mux8way16_tree, dmux4way_tree, dmux8way_tree}
use Rattle.chip_alu.specs.Trees.{half_adder_tree, full_adder_tree, add16_tree, inc16_tree, alu_tree, shift_tree}
use Rattle.hack_cpu.specs.Library.{shipped_chips}

-- each of the outputs with each of the inputs
abbrev pub pairs_with : List Pin → Pin → Pairs
pairs_with [] output = []
pairs_with (input ∷ inputs) output = (input.name, output.name) ∷ pairs_with inputs output

abbrev pub all_pairs : List Pin → List Pin → Pairs
all_pairs inputs [] = []
all_pairs inputs (output ∷ outputs) = pairs_with inputs output ++ all_pairs inputs outputs

-- a chip that keeps nothing: each output may depend on each input
abbrev pub keeps_nothing : Chip → List ℕ × Pairs
keeps_nothing chip = (chip.name, all_pairs chip.inputs chip.outputs)

abbrev pub on : String → String → List ℕ × List ℕ
on output input = (codes input, codes output)

-- a memory gives the word at the address at once
abbrev pub by_address : String → List ℕ × Pairs
by_address name = (codes name, on "out" "address" ∷ [])

-- chips that are not listed have no such output: DFF, Bit, the registers, PC, Keyboard and Computer
unfoldable pub dependencies : List (List ℕ × Pairs)
dependencies =
    map keeps_nothing (nand_tree ∷ not_tree ∷ and_tree ∷ or_tree ∷ xor_tree ∷ mux_tree ∷ dmux_tree ∷ not16_tree ∷ and16_tree ∷ or16_tree ∷ mux16_tree ∷ or8way_tree ∷ mux4way16_tree ∷ mux8way16_tree ∷ dmux4way_tree ∷ dmux8way_tree ∷ half_adder_tree ∷ full_adder_tree ∷ add16_tree ∷ inc16_tree ∷ alu_tree ∷ shift_tree ∷ [])
    ++ (by_address "RAM8" ∷ by_address "RAM64" ∷ by_address "RAM512" ∷ by_address "RAM4K" ∷ by_address "RAM16K" ∷ by_address "Screen" ∷ by_address "ROM32K" ∷ by_address "Memory"
    ∷ (codes "CPU", on "outM" "inM" ∷ on "outM" "instruction" ∷ on "writeM" "instruction" ∷ []) ∷ [])

-- With blocks and with memories of gates, no shipped chip has a fault.
abbrev pub FaultlessLaw : Type 0
FaultlessLaw = (memories : Memories) (i : ℕ) (entry : Entry) → slice_get shipped_chips i ≡ Some entry → IsFaultless (chips_in shipped_chips memories) (entry.name ∷ []) entry

-- With blocks and with memories of gates, no shipped chip has a loop, and no output depends on an input but as the table says.
abbrev pub LooplessLaw : Type 0
LooplessLaw = (memories : Memories) (i : ℕ) (entry : Entry) → slice_get shipped_chips i ≡ Some entry → IsLoopless (chips_in shipped_chips memories) (pairs_of dependencies) entry
