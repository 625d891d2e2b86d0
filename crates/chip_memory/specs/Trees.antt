-- The chips that keep words: from Bit to RAM16K, and Screen. (The book, chapter 3.)
use Prim.Native.String.{String}
use Rattle.std.specs.Prelude.{◌≡◌, ℕ, ◌+◌, ◌-◌, true, false, List, [], ◌∷◌, ◌++◌, Some, codes}
use Rattle.hdl_tree.specs.declared.tree.Part.{Part}
use Rattle.hdl_tree.specs.declared.tree.Body.TheVariants.{Parts}
use Rattle.hdl_tree.specs.declared.tree.Chip.{Chip}
use Rattle.hdl_tree.specs.Chips.{Chips, find_chip}
use Rattle.chip_basic.specs.Hdl.{pin, bus, wire, wire_to, wire_bit, wire_bits, constant, part, part_named, chip, chip_named, builtin, each, numbered_name, ways, shipped_entry}
use Rattle.chip_alu.specs.Trees.{HasAluChips}

-- the flip-flop, which is built in
unfoldable pub dff_tree : Chip
dff_tree = builtin "DFF" (pin "in" ∷ []) (pin "out" ∷ [])

-- ---- registers

unfoldable pub bit_tree : Chip
bit_tree = chip "Bit" (pin "in" ∷ pin "load" ∷ []) (pin "out" ∷ []) (
    part "Mux" (wire "a" "now" ∷ wire "b" "in" ∷ wire "sel" "load" ∷ wire "out" "next" ∷ [])
    ∷ part "DFF" (wire "in" "next" ∷ wire "out" "now" ∷ wire "out" "out" ∷ [])
    ∷ [])

-- `Bit(in=in[i], load=load, out=out[i]);`
abbrev pub register_bit : ℕ → Part
register_bit i = part "Bit" (wire_bit "in" "in" i ∷ wire "load" "load" ∷ wire_bit "out" "out" i ∷ [])

-- sixteen bits that are loaded together
abbrev pub register_named : List ℕ → Chip
register_named name = chip_named name (bus "in" 16 ∷ pin "load" ∷ []) (bus "out" 16 ∷ []) (Parts (each 16 register_bit))

unfoldable pub register_tree : Chip
register_tree = register_named (codes "Register")

unfoldable pub a_register_tree : Chip
a_register_tree = register_named (codes "ARegister")

unfoldable pub d_register_tree : Chip
d_register_tree = register_named (codes "DRegister")

unfoldable pub pc_tree : Chip
pc_tree = chip "PC" (bus "in" 16 ∷ pin "load" ∷ pin "inc" ∷ pin "reset" ∷ []) (bus "out" 16 ∷ []) (
    part "Inc16" (wire "in" "now" ∷ wire "out" "nowPlusOne" ∷ [])
    ∷ part "Mux16" (wire "a" "now" ∷ wire "b" "nowPlusOne" ∷ wire "sel" "inc" ∷ wire "out" "counted" ∷ [])
    ∷ part "Mux16" (wire "a" "counted" ∷ wire "b" "in" ∷ wire "sel" "load" ∷ wire "out" "loaded" ∷ [])
    ∷ part "Mux16" (wire "a" "loaded" ∷ constant "b" false ∷ wire "sel" "reset" ∷ wire "out" "next" ∷ [])
    ∷ part "Register" (wire "in" "next" ∷ constant "load" true ∷ wire "out" "now" ∷ wire "out" "out" ∷ [])
    ∷ [])

-- ---- memories

-- a memory of 2 ^ bits words
abbrev pub memory_named : List ℕ → ℕ → List Part → Chip
memory_named name bits parts = chip_named name (bus "in" 16 ∷ pin "load" ∷ bus "address" bits ∷ []) (bus "out" 16 ∷ []) (Parts parts)

abbrev pub memory : String → ℕ → List Part → Chip
memory name bits parts = memory_named (codes name) bits parts

-- `Register(in=in, load=load(i), out=word(i));`
abbrev pub word_part : ℕ → Part
word_part i = part "Register" (wire "in" "in" ∷ wire_to "load" (numbered_name "load" i) ∷ wire_to "out" (numbered_name "word" i) ∷ [])

unfoldable pub ram8_tree : Chip
ram8_tree = memory "RAM8" 3 (
    part "DMux8Way" (wire "in" "load" ∷ wire "sel" "address" ∷ ways 8 "load")
    ∷ (each 8 word_part ++ part "Mux8Way16" (ways 8 "word" ++ wire "sel" "address" ∷ wire "out" "out" ∷ []) ∷ []))

-- a smaller memory, with the lowest bits of the address: `name(in=in, load=load(i), address=address[0..bits-1], out=word(i));`
abbrev pub smaller : List ℕ → ℕ → ℕ → Part
smaller name bits i = part_named name (wire "in" "in" ∷ wire_to "load" (numbered_name "load" i) ∷ wire_bits "address" "address" 0 (bits - 1) ∷ wire_to "out" (numbered_name "word" i) ∷ [])

-- eight smaller memories, one of which the three upper bits of the address choose
abbrev pub eight_of : List ℕ → ℕ → List Part
eight_of name bits =
    part "DMux8Way" (wire "in" "load" ∷ wire_bits "sel" "address" bits (bits + 2) ∷ ways 8 "load")
    ∷ (each 8 (smaller name bits) ++ part "Mux8Way16" (ways 8 "word" ++ wire_bits "sel" "address" bits (bits + 2) ∷ wire "out" "out" ∷ []) ∷ [])

unfoldable pub ram64_tree : Chip
ram64_tree = memory "RAM64" 6 (eight_of (codes "RAM8") 3)

unfoldable pub ram512_tree : Chip
ram512_tree = memory "RAM512" 9 (eight_of (codes "RAM64") 6)

unfoldable pub ram4k_tree : Chip
ram4k_tree = memory "RAM4K" 12 (eight_of (codes "RAM512") 9)

unfoldable pub ram16k_tree : Chip
ram16k_tree = memory "RAM16K" 14 (
    part "DMux4Way" (wire "in" "load" ∷ wire_bits "sel" "address" 12 13 ∷ ways 4 "load")
    ∷ (each 4 (smaller (codes "RAM4K") 12) ++ part "Mux4Way16" (ways 4 "word" ++ wire_bits "sel" "address" 12 13 ∷ wire "out" "out" ∷ []) ∷ []))

unfoldable pub screen_tree : Chip
screen_tree = memory "Screen" 13 (
    part "DMux" (wire "in" "load" ∷ wire_bit "sel" "address" 12 ∷ ways 2 "load")
    ∷ (each 2 (smaller (codes "RAM4K") 12) ++ part "Mux16" (ways 2 "word" ++ wire_bit "sel" "address" 12 ∷ wire "out" "out" ∷ []) ∷ []))

-- ---- what a library has

-- the library has these chips too, under their names, each as it is shipped
pub record HasMemoryChips (library : Chips) : Type 0 where
  pub computing : HasAluChips library
  pub dff : find_chip library (codes "DFF") ≡ Some (shipped_entry dff_tree)
  pub bit : find_chip library (codes "Bit") ≡ Some (shipped_entry bit_tree)
  pub register : find_chip library (codes "Register") ≡ Some (shipped_entry register_tree)
  pub a_register : find_chip library (codes "ARegister") ≡ Some (shipped_entry a_register_tree)
  pub d_register : find_chip library (codes "DRegister") ≡ Some (shipped_entry d_register_tree)
  pub pc : find_chip library (codes "PC") ≡ Some (shipped_entry pc_tree)
  pub ram8 : find_chip library (codes "RAM8") ≡ Some (shipped_entry ram8_tree)
  pub ram64 : find_chip library (codes "RAM64") ≡ Some (shipped_entry ram64_tree)
  pub ram512 : find_chip library (codes "RAM512") ≡ Some (shipped_entry ram512_tree)
  pub ram4k : find_chip library (codes "RAM4K") ≡ Some (shipped_entry ram4k_tree)
  pub ram16k : find_chip library (codes "RAM16K") ≡ Some (shipped_entry ram16k_tree)
  pub screen : find_chip library (codes "Screen") ≡ Some (shipped_entry screen_tree)
