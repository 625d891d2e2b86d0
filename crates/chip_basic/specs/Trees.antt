-- The chips from Not to DMux8Way. (The book, chapter 1.)
use Rattle.std.specs.Prelude.{◌≡◌, ℕ, [], ◌∷◌, Some, codes}
use Rattle.hdl_tree.specs.declared.tree.Part.{Part}
use Rattle.hdl_tree.specs.declared.tree.Chip.{Chip}
use Rattle.hdl_tree.specs.Chips.{Chips, find_chip}
use Rattle.chip_basic.specs.Hdl.{pin, bus, wire, wire_bit, wire_bits, part, chip, builtin, each, shipped_entry}

-- Nand, of which all is made
unfoldable pub nand_tree : Chip
nand_tree = builtin "Nand" (pin "a" ∷ pin "b" ∷ []) (pin "out" ∷ [])

-- ---- single bits

unfoldable pub not_tree : Chip
not_tree = chip "Not" (pin "in" ∷ []) (pin "out" ∷ []) (
    part "Nand" (wire "a" "in" ∷ wire "b" "in" ∷ wire "out" "out" ∷ [])
    ∷ [])

unfoldable pub and_tree : Chip
and_tree = chip "And" (pin "a" ∷ pin "b" ∷ []) (pin "out" ∷ []) (
    part "Nand" (wire "a" "a" ∷ wire "b" "b" ∷ wire "out" "notBoth" ∷ [])
    ∷ part "Not" (wire "in" "notBoth" ∷ wire "out" "out" ∷ [])
    ∷ [])

unfoldable pub or_tree : Chip
or_tree = chip "Or" (pin "a" ∷ pin "b" ∷ []) (pin "out" ∷ []) (
    part "Not" (wire "in" "a" ∷ wire "out" "notA" ∷ [])
    ∷ part "Not" (wire "in" "b" ∷ wire "out" "notB" ∷ [])
    ∷ part "Nand" (wire "a" "notA" ∷ wire "b" "notB" ∷ wire "out" "out" ∷ [])
    ∷ [])

unfoldable pub xor_tree : Chip
xor_tree = chip "Xor" (pin "a" ∷ pin "b" ∷ []) (pin "out" ∷ []) (
    part "Nand" (wire "a" "a" ∷ wire "b" "b" ∷ wire "out" "notBoth" ∷ [])
    ∷ part "Nand" (wire "a" "a" ∷ wire "b" "notBoth" ∷ wire "out" "notOnlyA" ∷ [])
    ∷ part "Nand" (wire "a" "notBoth" ∷ wire "b" "b" ∷ wire "out" "notOnlyB" ∷ [])
    ∷ part "Nand" (wire "a" "notOnlyA" ∷ wire "b" "notOnlyB" ∷ wire "out" "out" ∷ [])
    ∷ [])

unfoldable pub mux_tree : Chip
mux_tree = chip "Mux" (pin "a" ∷ pin "b" ∷ pin "sel" ∷ []) (pin "out" ∷ []) (
    part "Not" (wire "in" "sel" ∷ wire "out" "notSel" ∷ [])
    ∷ part "Nand" (wire "a" "a" ∷ wire "b" "notSel" ∷ wire "out" "notFromA" ∷ [])
    ∷ part "Nand" (wire "a" "b" ∷ wire "b" "sel" ∷ wire "out" "notFromB" ∷ [])
    ∷ part "Nand" (wire "a" "notFromA" ∷ wire "b" "notFromB" ∷ wire "out" "out" ∷ [])
    ∷ [])

unfoldable pub dmux_tree : Chip
dmux_tree = chip "DMux" (pin "in" ∷ pin "sel" ∷ []) (pin "a" ∷ pin "b" ∷ []) (
    part "Not" (wire "in" "sel" ∷ wire "out" "notSel" ∷ [])
    ∷ part "And" (wire "a" "in" ∷ wire "b" "notSel" ∷ wire "out" "a" ∷ [])
    ∷ part "And" (wire "a" "in" ∷ wire "b" "sel" ∷ wire "out" "b" ∷ [])
    ∷ [])

-- ---- words of sixteen bits

-- `Not(in=in[i], out=out[i]);`
abbrev pub not_bit : ℕ → Part
not_bit i = part "Not" (wire_bit "in" "in" i ∷ wire_bit "out" "out" i ∷ [])

unfoldable pub not16_tree : Chip
not16_tree = chip "Not16" (bus "in" 16 ∷ []) (bus "out" 16 ∷ []) (each 16 not_bit)

-- `And(a=a[i], b=b[i], out=out[i]);`
abbrev pub and_bit : ℕ → Part
and_bit i = part "And" (wire_bit "a" "a" i ∷ wire_bit "b" "b" i ∷ wire_bit "out" "out" i ∷ [])

unfoldable pub and16_tree : Chip
and16_tree = chip "And16" (bus "a" 16 ∷ bus "b" 16 ∷ []) (bus "out" 16 ∷ []) (each 16 and_bit)

-- `Or(a=a[i], b=b[i], out=out[i]);`
abbrev pub or_bit : ℕ → Part
or_bit i = part "Or" (wire_bit "a" "a" i ∷ wire_bit "b" "b" i ∷ wire_bit "out" "out" i ∷ [])

unfoldable pub or16_tree : Chip
or16_tree = chip "Or16" (bus "a" 16 ∷ bus "b" 16 ∷ []) (bus "out" 16 ∷ []) (each 16 or_bit)

-- `Mux(a=a[i], b=b[i], sel=sel, out=out[i]);`
abbrev pub mux_bit : ℕ → Part
mux_bit i = part "Mux" (wire_bit "a" "a" i ∷ wire_bit "b" "b" i ∷ wire "sel" "sel" ∷ wire_bit "out" "out" i ∷ [])

unfoldable pub mux16_tree : Chip
mux16_tree = chip "Mux16" (bus "a" 16 ∷ bus "b" 16 ∷ pin "sel" ∷ []) (bus "out" 16 ∷ []) (each 16 mux_bit)

-- ---- many ways

unfoldable pub or8way_tree : Chip
or8way_tree = chip "Or8Way" (bus "in" 8 ∷ []) (pin "out" ∷ []) (
    part "Or" (wire_bit "a" "in" 0 ∷ wire_bit "b" "in" 1 ∷ wire "out" "some01" ∷ [])
    ∷ part "Or" (wire_bit "a" "in" 2 ∷ wire_bit "b" "in" 3 ∷ wire "out" "some23" ∷ [])
    ∷ part "Or" (wire_bit "a" "in" 4 ∷ wire_bit "b" "in" 5 ∷ wire "out" "some45" ∷ [])
    ∷ part "Or" (wire_bit "a" "in" 6 ∷ wire_bit "b" "in" 7 ∷ wire "out" "some67" ∷ [])
    ∷ part "Or" (wire "a" "some01" ∷ wire "b" "some23" ∷ wire "out" "some0to3" ∷ [])
    ∷ part "Or" (wire "a" "some45" ∷ wire "b" "some67" ∷ wire "out" "some4to7" ∷ [])
    ∷ part "Or" (wire "a" "some0to3" ∷ wire "b" "some4to7" ∷ wire "out" "out" ∷ [])
    ∷ [])

unfoldable pub mux4way16_tree : Chip
mux4way16_tree = chip "Mux4Way16" (bus "a" 16 ∷ bus "b" 16 ∷ bus "c" 16 ∷ bus "d" 16 ∷ bus "sel" 2 ∷ []) (bus "out" 16 ∷ []) (
    part "Mux16" (wire "a" "a" ∷ wire "b" "b" ∷ wire_bit "sel" "sel" 0 ∷ wire "out" "aOrB" ∷ [])
    ∷ part "Mux16" (wire "a" "c" ∷ wire "b" "d" ∷ wire_bit "sel" "sel" 0 ∷ wire "out" "cOrD" ∷ [])
    ∷ part "Mux16" (wire "a" "aOrB" ∷ wire "b" "cOrD" ∷ wire_bit "sel" "sel" 1 ∷ wire "out" "out" ∷ [])
    ∷ [])

unfoldable pub mux8way16_tree : Chip
mux8way16_tree = chip "Mux8Way16" (bus "a" 16 ∷ bus "b" 16 ∷ bus "c" 16 ∷ bus "d" 16 ∷ bus "e" 16 ∷ bus "f" 16 ∷ bus "g" 16 ∷ bus "h" 16 ∷ bus "sel" 3 ∷ []) (bus "out" 16 ∷ []) (
    part "Mux4Way16" (wire "a" "a" ∷ wire "b" "b" ∷ wire "c" "c" ∷ wire "d" "d" ∷ wire_bits "sel" "sel" 0 1 ∷ wire "out" "aToD" ∷ [])
    ∷ part "Mux4Way16" (wire "a" "e" ∷ wire "b" "f" ∷ wire "c" "g" ∷ wire "d" "h" ∷ wire_bits "sel" "sel" 0 1 ∷ wire "out" "eToH" ∷ [])
    ∷ part "Mux16" (wire "a" "aToD" ∷ wire "b" "eToH" ∷ wire_bit "sel" "sel" 2 ∷ wire "out" "out" ∷ [])
    ∷ [])

unfoldable pub dmux4way_tree : Chip
dmux4way_tree = chip "DMux4Way" (pin "in" ∷ bus "sel" 2 ∷ []) (pin "a" ∷ pin "b" ∷ pin "c" ∷ pin "d" ∷ []) (
    part "DMux" (wire "in" "in" ∷ wire_bit "sel" "sel" 1 ∷ wire "a" "toAB" ∷ wire "b" "toCD" ∷ [])
    ∷ part "DMux" (wire "in" "toAB" ∷ wire_bit "sel" "sel" 0 ∷ wire "a" "a" ∷ wire "b" "b" ∷ [])
    ∷ part "DMux" (wire "in" "toCD" ∷ wire_bit "sel" "sel" 0 ∷ wire "a" "c" ∷ wire "b" "d" ∷ [])
    ∷ [])

unfoldable pub dmux8way_tree : Chip
dmux8way_tree = chip "DMux8Way" (pin "in" ∷ bus "sel" 3 ∷ []) (pin "a" ∷ pin "b" ∷ pin "c" ∷ pin "d" ∷ pin "e" ∷ pin "f" ∷ pin "g" ∷ pin "h" ∷ []) (
    part "DMux" (wire "in" "in" ∷ wire_bit "sel" "sel" 2 ∷ wire "a" "toAD" ∷ wire "b" "toEH" ∷ [])
    ∷ part "DMux4Way" (wire "in" "toAD" ∷ wire_bits "sel" "sel" 0 1 ∷ wire "a" "a" ∷ wire "b" "b" ∷ wire "c" "c" ∷ wire "d" "d" ∷ [])
    ∷ part "DMux4Way" (wire "in" "toEH" ∷ wire_bits "sel" "sel" 0 1 ∷ wire "a" "e" ∷ wire "b" "f" ∷ wire "c" "g" ∷ wire "d" "h" ∷ [])
    ∷ [])

-- ---- what a library has

-- the library has these chips under their names, each as it is shipped
pub record HasBasicChips (library : Chips) : Type 0 where
  pub nand : find_chip library (codes "Nand") ≡ Some (shipped_entry nand_tree)
  pub not : find_chip library (codes "Not") ≡ Some (shipped_entry not_tree)
  pub and : find_chip library (codes "And") ≡ Some (shipped_entry and_tree)
  pub or : find_chip library (codes "Or") ≡ Some (shipped_entry or_tree)
  pub xor : find_chip library (codes "Xor") ≡ Some (shipped_entry xor_tree)
  pub mux : find_chip library (codes "Mux") ≡ Some (shipped_entry mux_tree)
  pub dmux : find_chip library (codes "DMux") ≡ Some (shipped_entry dmux_tree)
  pub not16 : find_chip library (codes "Not16") ≡ Some (shipped_entry not16_tree)
  pub and16 : find_chip library (codes "And16") ≡ Some (shipped_entry and16_tree)
  pub or16 : find_chip library (codes "Or16") ≡ Some (shipped_entry or16_tree)
  pub mux16 : find_chip library (codes "Mux16") ≡ Some (shipped_entry mux16_tree)
  pub or8way : find_chip library (codes "Or8Way") ≡ Some (shipped_entry or8way_tree)
  pub mux4way16 : find_chip library (codes "Mux4Way16") ≡ Some (shipped_entry mux4way16_tree)
  pub mux8way16 : find_chip library (codes "Mux8Way16") ≡ Some (shipped_entry mux8way16_tree)
  pub dmux4way : find_chip library (codes "DMux4Way") ≡ Some (shipped_entry dmux4way_tree)
  pub dmux8way : find_chip library (codes "DMux8Way") ≡ Some (shipped_entry dmux8way_tree)
