-- The library of shipped chips has all that the laws ask for.
use Rattle.std.proofs.Common.{refl}
use Rattle.hdl_tree.specs.declared.ends.Memories.{Memories}
use Rattle.chip_basic.specs.Trees.{nand_tree, not_tree, and_tree, or_tree, xor_tree, mux_tree, dmux_tree, not16_tree, and16_tree, or16_tree, mux16_tree, or8way_tree, mux4way16_tree, mux8way16_tree, dmux4way_tree, dmux8way_tree}
use Rattle.chip_alu.specs.Trees.{half_adder_tree, full_adder_tree, add16_tree, inc16_tree, alu_tree, shift_tree}
use Rattle.chip_memory.specs.Trees.{dff_tree, bit_tree, register_tree, a_register_tree, d_register_tree, pc_tree, ram8_tree, ram64_tree, ram512_tree, ram4k_tree, ram16k_tree, screen_tree}
use Rattle.hack_cpu.specs.Trees.{HasComputerChips, rom_tree, keyboard_tree, cpu_tree, memory_tree, computer_tree}
use Rattle.hack_cpu.specs.Library.{shipped_chips}

pub has_all : (memories : Memories) → HasComputerChips (record { entries = shipped_chips; memories = memories })
unfolding shipped_chips nand_tree not_tree and_tree or_tree xor_tree mux_tree dmux_tree not16_tree and16_tree or16_tree mux16_tree or8way_tree mux4way16_tree mux8way16_tree dmux4way_tree dmux8way_tree half_adder_tree full_adder_tree add16_tree inc16_tree alu_tree shift_tree dff_tree bit_tree register_tree a_register_tree d_register_tree pc_tree ram8_tree ram64_tree ram512_tree ram4k_tree ram16k_tree screen_tree rom_tree keyboard_tree cpu_tree memory_tree computer_tree
has_all memories = record {
  memories = record {
    computing = record {
      basic = record { nand = refl; not = refl; and = refl; or = refl; xor = refl; mux = refl; dmux = refl; not16 = refl; and16 = refl; or16 = refl; mux16 = refl; or8way = refl; mux4way16 = refl; mux8way16 = refl; dmux4way = refl; dmux8way = refl };
      half_adder = refl;
      full_adder = refl;
      add16 = refl;
      inc16 = refl;
      alu = refl;
      shift = refl;
    };
    dff = refl;
    bit = refl;
    register = refl;
    a_register = refl;
    d_register = refl;
    pc = refl;
    ram8 = refl;
    ram64 = refl;
    ram512 = refl;
    ram4k = refl;
    ram16k = refl;
    screen = refl;
  };
  rom = refl;
  keyboard = refl;
  cpu = refl;
  memory = refl;
  computer = refl;
}
