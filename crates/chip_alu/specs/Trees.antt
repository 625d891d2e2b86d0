-- The chips from HalfAdder to the ALU. (The book, chapter 2.)
use Rattle.std.specs.Prelude.{◌≡◌, ℕ, suc, true, false, List, [], ◌∷◌, ◌++◌, Some, codes}
use Rattle.hdl_tree.specs.declared.tree.Part.{Part}
use Rattle.hdl_tree.specs.declared.tree.Chip.{Chip}
use Rattle.hdl_tree.specs.Chips.{Chips, find_chip}
use Rattle.chip_basic.specs.Hdl.{pin, bus, wire, wire_to, wire_bit, bit_wire, bits_wire, bit_wire_bit, bits_wire_bits, constant, bit_constant, part, chip, each, numbered_name, shipped_entry}
use Rattle.chip_basic.specs.Trees.{HasBasicChips}

-- ---- adders

unfoldable pub half_adder_tree : Chip
half_adder_tree = chip "HalfAdder" (pin "a" ∷ pin "b" ∷ []) (pin "sum" ∷ pin "carry" ∷ []) (
    part "Xor" (wire "a" "a" ∷ wire "b" "b" ∷ wire "out" "sum" ∷ [])
    ∷ part "And" (wire "a" "a" ∷ wire "b" "b" ∷ wire "out" "carry" ∷ [])
    ∷ [])

unfoldable pub full_adder_tree : Chip
full_adder_tree = chip "FullAdder" (pin "a" ∷ pin "b" ∷ pin "c" ∷ []) (pin "sum" ∷ pin "carry" ∷ []) (
    part "HalfAdder" (wire "a" "a" ∷ wire "b" "b" ∷ wire "sum" "sumOfTwo" ∷ wire "carry" "carryOfTwo" ∷ [])
    ∷ part "HalfAdder" (wire "a" "sumOfTwo" ∷ wire "b" "c" ∷ wire "sum" "sum" ∷ wire "carry" "carryOfThird" ∷ [])
    ∷ part "Or" (wire "a" "carryOfTwo" ∷ wire "b" "carryOfThird" ∷ wire "out" "carry" ∷ [])
    ∷ [])

-- `FullAdder(a=a[i], b=b[i], c=carry(i), sum=out[i], carry=carry(i+1));`: the net carry(i) carries into bit i
abbrev pub add_bit : ℕ → Part
add_bit i = part "FullAdder" (wire_bit "a" "a" i ∷ wire_bit "b" "b" i ∷ wire_to "c" (numbered_name "carry" i) ∷ wire_bit "sum" "out" i ∷ wire_to "carry" (numbered_name "carry" (suc i)) ∷ [])

-- nothing carries into bit 0; what bit 15 carries is let go
unfoldable pub add16_tree : Chip
add16_tree = chip "Add16" (bus "a" 16 ∷ bus "b" 16 ∷ []) (bus "out" 16 ∷ []) (
    part "HalfAdder" (wire_bit "a" "a" 0 ∷ wire_bit "b" "b" 0 ∷ wire_bit "sum" "out" 0 ∷ wire "carry" "carry1" ∷ [])
    ∷ each 15 (λ i. add_bit (suc i)))

unfoldable pub inc16_tree : Chip
inc16_tree = chip "Inc16" (bus "in" 16 ∷ []) (bus "out" 16 ∷ []) (
    part "Add16" (wire "a" "in" ∷ bit_constant "b" 0 true ∷ wire "out" "out" ∷ [])
    ∷ [])

-- ---- the ALU

-- the inputs, set to 0 and turned over as their bits ask
abbrev pub alu_inputs : List Part
alu_inputs =
    part "Mux16" (wire "a" "x" ∷ constant "b" false ∷ wire "sel" "zx" ∷ wire "out" "zeroedX" ∷ [])
    ∷ part "Not16" (wire "in" "zeroedX" ∷ wire "out" "notX" ∷ [])
    ∷ part "Mux16" (wire "a" "zeroedX" ∷ wire "b" "notX" ∷ wire "sel" "nx" ∷ wire "out" "readyX" ∷ [])
    ∷ part "Mux16" (wire "a" "y" ∷ constant "b" false ∷ wire "sel" "zy" ∷ wire "out" "zeroedY" ∷ [])
    ∷ part "Not16" (wire "in" "zeroedY" ∷ wire "out" "notY" ∷ [])
    ∷ part "Mux16" (wire "a" "zeroedY" ∷ wire "b" "notY" ∷ wire "sel" "ny" ∷ wire "out" "readyY" ∷ [])
    ∷ []

-- the sum or the common bits, turned over where asked
abbrev pub alu_output : List Part
alu_output =
    part "Add16" (wire "a" "readyX" ∷ wire "b" "readyY" ∷ wire "out" "sum" ∷ [])
    ∷ part "And16" (wire "a" "readyX" ∷ wire "b" "readyY" ∷ wire "out" "both" ∷ [])
    ∷ part "Mux16" (wire "a" "both" ∷ wire "b" "sum" ∷ wire "sel" "f" ∷ wire "out" "result" ∷ [])
    ∷ part "Not16" (wire "in" "result" ∷ wire "out" "notResult" ∷ [])
    ∷ part "Mux16" (wire "a" "result" ∷ wire "b" "notResult" ∷ wire "sel" "no" ∷ wire "out" "out" ∷ bits_wire "out" 0 7 "lowHalf" ∷ bits_wire "out" 8 15 "highHalf" ∷ bit_wire "out" 15 "ng" ∷ [])
    ∷ []

-- whether the output is 0
abbrev pub alu_test : List Part
alu_test =
    part "Or8Way" (wire "in" "lowHalf" ∷ wire "out" "someLow" ∷ [])
    ∷ part "Or8Way" (wire "in" "highHalf" ∷ wire "out" "someHigh" ∷ [])
    ∷ part "Or" (wire "a" "someLow" ∷ wire "b" "someHigh" ∷ wire "out" "some" ∷ [])
    ∷ part "Not" (wire "in" "some" ∷ wire "out" "zr" ∷ [])
    ∷ []

unfoldable pub alu_tree : Chip
alu_tree = chip "ALU" (bus "x" 16 ∷ bus "y" 16 ∷ pin "zx" ∷ pin "nx" ∷ pin "zy" ∷ pin "ny" ∷ pin "f" ∷ pin "no" ∷ []) (bus "out" 16 ∷ pin "zr" ∷ pin "ng" ∷ []) (alu_inputs ++ (alu_output ++ alu_test))

-- ---- shifts

-- One place to the left, where a 0 comes in below, or to the right, where the top bit stays too. (It is no chip of the book.)
unfoldable pub shift_tree : Chip
shift_tree = chip "Shift" (bus "in" 16 ∷ pin "left" ∷ []) (bus "out" 16 ∷ []) (
    part "Mux16" (bits_wire_bits "a" 0 14 "in" 1 15 ∷ bit_wire_bit "a" 15 "in" 15 ∷ bit_constant "b" 0 false ∷ bits_wire_bits "b" 1 15 "in" 0 14 ∷ wire "sel" "left" ∷ wire "out" "out" ∷ [])
    ∷ [])

-- ---- what a library has

-- the library has these chips too, under their names, each as it is shipped
pub record HasAluChips (library : Chips) : Type 0 where
  pub basic : HasBasicChips library
  pub half_adder : find_chip library (codes "HalfAdder") ≡ Some (shipped_entry half_adder_tree)
  pub full_adder : find_chip library (codes "FullAdder") ≡ Some (shipped_entry full_adder_tree)
  pub add16 : find_chip library (codes "Add16") ≡ Some (shipped_entry add16_tree)
  pub inc16 : find_chip library (codes "Inc16") ≡ Some (shipped_entry inc16_tree)
  pub alu : find_chip library (codes "ALU") ≡ Some (shipped_entry alu_tree)
  pub shift : find_chip library (codes "Shift") ≡ Some (shipped_entry shift_tree)
