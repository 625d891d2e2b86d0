-- The trees of all shipped chips, opened so that they compute.
use Rattle.hdl_tree.specs.Chips.{end_of}
use Rattle.chip_basic.specs.Trees.{nand_tree, not_tree, and_tree, or_tree, xor_tree, mux_tree, dmux_tree, not16_tree, and16_tree, or16_tree, mux16_tree, or8way_tree, mux4way16_tree, mux8way16_tree, dmux4way_tree, dmux8way_tree}
use Rattle.chip_alu.specs.Trees.{half_adder_tree, full_adder_tree, add16_tree, inc16_tree, alu_tree, shift_tree}
use Rattle.chip_memory.specs.Trees.{dff_tree, bit_tree, register_tree, a_register_tree, d_register_tree, pc_tree, ram8_tree, ram64_tree, ram512_tree, ram4k_tree, ram16k_tree, screen_tree}
use Rattle.hack_cpu.specs.Trees.{rom_tree, keyboard_tree, cpu_tree, memory_tree, computer_tree}
use Rattle.hack_cpu.specs.Library.{shipped_chips}
use Rattle.hack_cpu.specs.Dependencies.{dependencies}

unfoldable pub opened : Unit {0}
unfolding end_of shipped_chips dependencies nand_tree not_tree and_tree or_tree xor_tree mux_tree dmux_tree not16_tree and16_tree or16_tree mux16_tree or8way_tree mux4way16_tree mux8way16_tree dmux4way_tree dmux8way_tree half_adder_tree full_adder_tree add16_tree inc16_tree alu_tree shift_tree dff_tree bit_tree register_tree a_register_tree d_register_tree pc_tree ram8_tree ram64_tree ram512_tree ram4k_tree ram16k_tree screen_tree rom_tree keyboard_tree cpu_tree memory_tree computer_tree
opened = tt
