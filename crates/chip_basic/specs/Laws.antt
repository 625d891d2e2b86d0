-- What the chips from Not to DMux8Way do: each is its function, in every behaviour of its tree. (The book, chapter 1.)
use Prim.Native.String.{String}
use Rattle.std.specs.Prelude.{◌≡◌, ℕ, zero, suc, ◌<◌, Bool, true, false, not, cond, ◌==◌, bit_and, bit_or, ◌&&◌, ◌||◌, List, [], ◌∷◌, codes}
use Rattle.word16.specs.Words.{word_not}
use Rattle.hdl_tree.specs.declared.tree.Chip.{Chip}
use Rattle.hdl_tree.specs.Writable.{all, chip_can}
use Rattle.hdl_tree.specs.Memory.{number}
use Rattle.hdl_tree.specs.Chips.{Chips}
use Rattle.hdl_tree.specs.Behaviour.{Histories, World, IsBehaviour}
use Rattle.chip_basic.specs.Hdl.{letter, shipped_entry}
use Rattle.chip_basic.specs.Trees.{HasBasicChips, nand_tree, not_tree, and_tree, or_tree, xor_tree, mux_tree, dmux_tree, not16_tree, and16_tree, or16_tree, mux16_tree, or8way_tree, mux4way16_tree, mux8way16_tree, dmux4way_tree, dmux8way_tree}

-- in each cycle of every behaviour of the chip, in every library that has the chips that it is made of
abbrev pub Always : (Chips → Type 0) → Chip → (Histories → ℕ → Type 0) → Type 0
Always HasParts chip P = (world : World) (library : Chips) (n : ℕ) (wires : List ℕ → Histories) → HasParts library → IsBehaviour world library (shipped_entry chip) n wires → (c : ℕ) → c < n → P (wires []) c

-- ---- bits and words of pins

-- the bit of a pin of one bit
abbrev pub bit : Histories → String → ℕ → Bool
bit w name c = w (codes name) 0 c

-- the number that the n bits of a pin spell
abbrev pub bits : ℕ → Histories → String → ℕ → ℕ
bits n w name c = number n (λ k. w (codes name) k c)

-- the word of a pin of sixteen bits
abbrev pub word : Histories → String → ℕ → ℕ
word w name c = bits 16 w name c

-- ---- single bits

abbrev pub NotLaw : Type 0
NotLaw = Always HasBasicChips not_tree (λ w c. bit w "out" c ≡ not (bit w "in" c))

abbrev pub AndLaw : Type 0
AndLaw = Always HasBasicChips and_tree (λ w c. bit w "out" c ≡ (bit w "a" c && bit w "b" c))

abbrev pub OrLaw : Type 0
OrLaw = Always HasBasicChips or_tree (λ w c. bit w "out" c ≡ (bit w "a" c || bit w "b" c))

-- one of the two, and not both
abbrev pub xor : Bool → Bool → Bool
xor x y = cond x (not y) y

abbrev pub XorLaw : Type 0
XorLaw = Always HasBasicChips xor_tree (λ w c. bit w "out" c ≡ xor (bit w "a" c) (bit w "b" c))

abbrev pub MuxLaw : Type 0
MuxLaw = Always HasBasicChips mux_tree (λ w c. bit w "out" c ≡ cond (bit w "sel" c) (bit w "b" c) (bit w "a" c))

abbrev pub DMuxLaw : Type 0
DMuxLaw = Always HasBasicChips dmux_tree (λ w c. (bit w "a" c ≡ cond (bit w "sel" c) false (bit w "in" c)) × (bit w "b" c ≡ cond (bit w "sel" c) (bit w "in" c) false))

-- ---- words of sixteen bits

abbrev pub Not16Law : Type 0
Not16Law = Always HasBasicChips not16_tree (λ w c. word w "out" c ≡ word_not (word w "in" c))

abbrev pub And16Law : Type 0
And16Law = Always HasBasicChips and16_tree (λ w c. word w "out" c ≡ bit_and (word w "a" c) (word w "b" c))

abbrev pub Or16Law : Type 0
Or16Law = Always HasBasicChips or16_tree (λ w c. word w "out" c ≡ bit_or (word w "a" c) (word w "b" c))

abbrev pub Mux16Law : Type 0
Mux16Law = Always HasBasicChips mux16_tree (λ w c. word w "out" c ≡ cond (bit w "sel" c) (word w "b" c) (word w "a" c))

-- ---- many ways

-- one of the lowest n bits is 1
abbrev pub some_bit : ℕ → (ℕ → Bool) → Bool
some_bit zero b = false
some_bit (suc n) b = some_bit n b || b n

abbrev pub Or8WayLaw : Type 0
Or8WayLaw = Always HasBasicChips or8way_tree (λ w c. bit w "out" c ≡ some_bit 8 (λ k. w (codes "in") k c))

-- out is the word of the letter that sel numbers: 0 is a, 1 is b, and so on
abbrev pub TakesWay : ℕ → Histories → ℕ → Type 0
TakesWay n w c = word w "out" c ≡ number 16 (λ k. w (letter (bits n w "sel" c)) k c)

abbrev pub Mux4Way16Law : Type 0
Mux4Way16Law = Always HasBasicChips mux4way16_tree (TakesWay 2)

abbrev pub Mux8Way16Law : Type 0
Mux8Way16Law = Always HasBasicChips mux8way16_tree (TakesWay 3)

-- of this many letters the one that sel numbers is in, and each other one is 0: in, where it is the
-- one
abbrev pub GoesWay : ℕ → ℕ → Histories → ℕ → Type 0
GoesWay ways n w c = (i : ℕ) → i < ways → w (letter i) 0 c ≡ (bit w "in" c && (bits n w "sel" c == i))

abbrev pub DMux4WayLaw : Type 0
DMux4WayLaw = Always HasBasicChips dmux4way_tree (GoesWay 4 2)

abbrev pub DMux8WayLaw : Type 0
DMux8WayLaw = Always HasBasicChips dmux8way_tree (GoesWay 8 3)

-- ---- texts

-- each of these chips keeps the rules of texts, so that its printed form spells it
abbrev pub BasicTextsLaw : Type 0
BasicTextsLaw = all chip_can (nand_tree ∷ not_tree ∷ and_tree ∷ or_tree ∷ xor_tree ∷ mux_tree ∷ dmux_tree ∷ not16_tree ∷ and16_tree ∷ or16_tree ∷ mux16_tree ∷ or8way_tree ∷ mux4way16_tree ∷ mux8way16_tree ∷ dmux4way_tree ∷ dmux8way_tree ∷ []) ≡ true
