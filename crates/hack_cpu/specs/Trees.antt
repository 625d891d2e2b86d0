-- The CPU, Memory and the Computer. (The book, chapter 5.)
use Rattle.std.specs.Prelude.{◌≡◌, true, List, [], ◌∷◌, ◌++◌, Some, codes}
use Rattle.hdl_tree.specs.declared.tree.Part.{Part}
use Rattle.hdl_tree.specs.declared.tree.Chip.{Chip}
use Rattle.hdl_tree.specs.Chips.{Chips, find_chip}
use Rattle.chip_basic.specs.Hdl.{pin, bus, wire, wire_bit, wire_bits, bits_wire, constant, part, chip, builtin, shipped_entry}
use Rattle.chip_memory.specs.Trees.{HasMemoryChips}

-- the instruction memory and the keyboard, which are built in
unfoldable pub rom_tree : Chip
rom_tree = builtin "ROM32K" (bus "address" 15 ∷ []) (bus "out" 16 ∷ [])

unfoldable pub keyboard_tree : Chip
keyboard_tree = builtin "Keyboard" [] (bus "out" 16 ∷ [])

-- ---- the CPU

-- The registers A and D, and the inputs of the ALU. Without its top bit an instruction is loaded into A. Else A and D are loaded with the result
-- where its bits 5 and 4 ask; where its bit 12 is 1, M stands for A.
abbrev pub cpu_registers : List Part
cpu_registers =
    part "Not" (wire_bit "in" "instruction" 15 ∷ wire "out" "loadsNumber" ∷ [])
    ∷ part "Mux16" (wire "a" "result" ∷ wire "b" "instruction" ∷ wire "sel" "loadsNumber" ∷ wire "out" "nextA" ∷ [])
    ∷ part "Or" (wire "a" "loadsNumber" ∷ wire_bit "b" "instruction" 5 ∷ wire "out" "loadA" ∷ [])
    ∷ part "ARegister" (wire "in" "nextA" ∷ wire "load" "loadA" ∷ wire "out" "valueA" ∷ bits_wire "out" 0 14 "addressM" ∷ [])
    ∷ part "Mux16" (wire "a" "valueA" ∷ wire "b" "inM" ∷ wire_bit "sel" "instruction" 12 ∷ wire "out" "valueAOrM" ∷ [])
    ∷ part "And" (wire_bit "a" "instruction" 15 ∷ wire_bit "b" "instruction" 4 ∷ wire "out" "loadD" ∷ [])
    ∷ part "DRegister" (wire "in" "result" ∷ wire "load" "loadD" ∷ wire "out" "valueD" ∷ [])
    ∷ []

-- what the ALU gives, and whether the result is written to M
abbrev pub cpu_result : List Part
cpu_result =
    part "ALU" (wire "x" "valueD" ∷ wire "y" "valueAOrM" ∷ wire_bit "zx" "instruction" 11 ∷ wire_bit "nx" "instruction" 10 ∷ wire_bit "zy" "instruction" 9 ∷ wire_bit "ny" "instruction" 8 ∷ wire_bit "f" "instruction" 7 ∷ wire_bit "no" "instruction" 6 ∷ wire "out" "computed" ∷ [])
    ∷ part "And" (wire_bit "a" "instruction" 15 ∷ wire_bit "b" "instruction" 3 ∷ wire "out" "writeM" ∷ [])
    ∷ []

-- the jump: on less, equal, greater than 0, as the bits 2, 1 and 0 ask
abbrev pub cpu_jump : List Part
cpu_jump =
    part "Or" (wire "a" "isZero" ∷ wire "b" "isNegative" ∷ wire "out" "isNotPositive" ∷ [])
    ∷ part "Not" (wire "in" "isNotPositive" ∷ wire "out" "isPositive" ∷ [])
    ∷ part "And" (wire "a" "isNegative" ∷ wire_bit "b" "instruction" 2 ∷ wire "out" "jumpOnNegative" ∷ [])
    ∷ part "And" (wire "a" "isZero" ∷ wire_bit "b" "instruction" 1 ∷ wire "out" "jumpOnZero" ∷ [])
    ∷ part "And" (wire "a" "isPositive" ∷ wire_bit "b" "instruction" 0 ∷ wire "out" "jumpOnPositive" ∷ [])
    ∷ part "Or" (wire "a" "jumpOnZero" ∷ wire "b" "jumpOnPositive" ∷ wire "out" "jumpOnOther" ∷ [])
    ∷ part "Or" (wire "a" "jumpOnNegative" ∷ wire "b" "jumpOnOther" ∷ wire "out" "jumpIsAsked" ∷ [])
    ∷ part "And" (wire "a" "jumpIsAsked" ∷ wire_bit "b" "instruction" 15 ∷ wire "out" "jump" ∷ [])
    ∷ part "PC" (wire "in" "valueA" ∷ wire "load" "jump" ∷ constant "inc" true ∷ wire "reset" "reset" ∷ bits_wire "out" 0 14 "pc" ∷ [])
    ∷ []

-- The shift, which the book's CPU has not: of D where bit 10 is 1, else of A or M. The result is that of the shift where bits 15, 14 and 13 are 1, 0
-- and 1, and else that of the ALU. Whether it is 0 or negative depends on the result.
abbrev pub cpu_shift : List Part
cpu_shift =
    part "Not" (wire_bit "in" "instruction" 14 ∷ wire "out" "noBit14" ∷ [])
    ∷ part "And" (wire "a" "noBit14" ∷ wire_bit "b" "instruction" 13 ∷ wire "out" "bit13Alone" ∷ [])
    ∷ part "And" (wire_bit "a" "instruction" 15 ∷ wire "b" "bit13Alone" ∷ wire "out" "isShift" ∷ [])
    ∷ part "Mux16" (wire "a" "valueAOrM" ∷ wire "b" "valueD" ∷ wire_bit "sel" "instruction" 10 ∷ wire "out" "shiftOperand" ∷ [])
    ∷ part "Shift" (wire "in" "shiftOperand" ∷ wire_bit "left" "instruction" 11 ∷ wire "out" "shifted" ∷ [])
    ∷ part "Mux16" (wire "a" "computed" ∷ wire "b" "shifted" ∷ wire "sel" "isShift" ∷ wire "out" "result" ∷ wire "out" "outM" ∷ bits_wire "out" 0 7 "lowHalf" ∷ bits_wire "out" 8 15 "highHalf" ∷ bits_wire "out" 15 15 "isNegative" ∷ [])
    ∷ part "Or8Way" (wire "in" "lowHalf" ∷ wire "out" "someLow" ∷ [])
    ∷ part "Or8Way" (wire "in" "highHalf" ∷ wire "out" "someHigh" ∷ [])
    ∷ part "Or" (wire "a" "someLow" ∷ wire "b" "someHigh" ∷ wire "out" "some" ∷ [])
    ∷ part "Not" (wire "in" "some" ∷ wire "out" "isZero" ∷ [])
    ∷ []

unfoldable pub cpu_tree : Chip
cpu_tree = chip "CPU" (bus "inM" 16 ∷ bus "instruction" 16 ∷ pin "reset" ∷ []) (bus "outM" 16 ∷ pin "writeM" ∷ bus "addressM" 15 ∷ bus "pc" 15 ∷ []) (cpu_registers ++ (cpu_result ++ (cpu_jump ++ cpu_shift)))

-- ---- Memory and the Computer

-- main memory from 0 on, the screen from 16,384 on, and the keyboard from 24,576 on
unfoldable pub memory_tree : Chip
memory_tree = chip "Memory" (bus "in" 16 ∷ pin "load" ∷ bus "address" 15 ∷ []) (bus "out" 16 ∷ []) (
    part "DMux" (wire "in" "load" ∷ wire_bit "sel" "address" 14 ∷ wire "a" "loadMain" ∷ wire "b" "loadUpper" ∷ [])
    ∷ part "Not" (wire_bit "in" "address" 13 ∷ wire "out" "isBelowKeyboard" ∷ [])
    ∷ part "And" (wire "a" "loadUpper" ∷ wire "b" "isBelowKeyboard" ∷ wire "out" "loadScreen" ∷ [])
    ∷ part "RAM16K" (wire "in" "in" ∷ wire "load" "loadMain" ∷ wire_bits "address" "address" 0 13 ∷ wire "out" "mainWord" ∷ [])
    ∷ part "Screen" (wire "in" "in" ∷ wire "load" "loadScreen" ∷ wire_bits "address" "address" 0 12 ∷ wire "out" "screenWord" ∷ [])
    ∷ part "Keyboard" (wire "out" "key" ∷ [])
    ∷ part "Mux16" (wire "a" "screenWord" ∷ wire "b" "key" ∷ wire_bit "sel" "address" 13 ∷ wire "out" "upperWord" ∷ [])
    ∷ part "Mux16" (wire "a" "mainWord" ∷ wire "b" "upperWord" ∷ wire_bit "sel" "address" 14 ∷ wire "out" "out" ∷ [])
    ∷ [])

unfoldable pub computer_tree : Chip
computer_tree = chip "Computer" (pin "reset" ∷ []) [] (
    part "CPU" (wire "inM" "wordFromMemory" ∷ wire "instruction" "instruction" ∷ wire "reset" "reset" ∷ wire "outM" "wordToMemory" ∷ wire "writeM" "write" ∷ wire "addressM" "address" ∷ wire "pc" "pc" ∷ [])
    ∷ part "ROM32K" (wire "address" "pc" ∷ wire "out" "instruction" ∷ [])
    ∷ part "Memory" (wire "in" "wordToMemory" ∷ wire "load" "write" ∷ wire "address" "address" ∷ wire "out" "wordFromMemory" ∷ [])
    ∷ [])

-- ---- what a library has

-- the library has these chips too, under their names, each as it is shipped
pub record HasComputerChips (library : Chips) : Type 0 where
  pub memories : HasMemoryChips library
  pub rom : find_chip library (codes "ROM32K") ≡ Some (shipped_entry rom_tree)
  pub keyboard : find_chip library (codes "Keyboard") ≡ Some (shipped_entry keyboard_tree)
  pub cpu : find_chip library (codes "CPU") ≡ Some (shipped_entry cpu_tree)
  pub memory : find_chip library (codes "Memory") ≡ Some (shipped_entry memory_tree)
  pub computer : find_chip library (codes "Computer") ≡ Some (shipped_entry computer_tree)
