-- The memories, each size from the one below.
use Rattle.std.proofs.Common.{◌≡◌, ℕ, zero, suc, ◌+◌, ◌<◌, Bool, true, false, cond, eqb, List, [], Some, None, refl, sym, ◌∙◌, subst, arith, lit<}
use Rattle.std.specs.Prelude.{not, ◌&&◌, codes}
use Rattle.hdl_tree.specs.declared.tree.Subscript.TheVariants.{Bit, Bits}
use Rattle.hdl_tree.specs.declared.library.Entry.{Entry}
use Rattle.hdl_tree.specs.Memory.{number}
use Rattle.hdl_tree.specs.Chips.{Chips, end_of}
use Rattle.hdl_tree.specs.Behaviour.{Histories, World, Each, Joins, Works, IsBehaviour, BlockWorks, width_of}
use Rattle.chip_basic.specs.Hdl.{shipped_entry, numbered_name, letter}
use Rattle.chip_basic.specs.Trees.{HasBasicChips, dmux_tree, dmux4way_tree, dmux8way_tree, mux16_tree, mux4way16_tree, mux8way16_tree}
use Rattle.chip_basic.specs.Laws.{GoesWay}
use Rattle.chip_basic.proofs.Inside.{whole_joined}
use Rattle.chip_basic.proofs.Gates.{dmux_a, dmux_b}
use Rattle.chip_basic.proofs.Numbers.{number_same}
use Rattle.chip_basic.proofs.Words.{mux16_bit}
use Rattle.chip_basic.proofs.Ways.{dmux4way_works, dmux8way_works, mux4way16_bits, mux8way16_bits}
use Rattle.chip_memory.specs.Trees.{HasMemoryChips, register_tree, word_part, smaller, ram8_tree, ram64_tree, ram512_tree, ram4k_tree, ram16k_tree, screen_tree}
use Rattle.chip_memory.specs.Laws.{of_gates}
use Rattle.chip_memory.proofs.Registers.{one_word_works}
use Rattle.chip_memory.proofs.Blocks.{split1, split8, split64, split512, split4096}
use Rattle.chip_memory.proofs.Made.{IsJoined, HasWidths, made_works}

-- ---- two, four and eight ways

below_two : (P : ℕ → Type 0) → P 0 → P 1 → (n : ℕ) → n < 2 → P n
below_two P a b zero lt = a
below_two P a b (suc zero) lt = b
below_two P a b (suc (suc n)) lt = absurd (omega arith)

below_four : (P : ℕ → Type 0) → P 0 → P 1 → P 2 → P 3 → (n : ℕ) → n < 4 → P n
below_four P a b c d zero lt = a
below_four P a b c d (suc zero) lt = b
below_four P a b c d (suc (suc zero)) lt = c
below_four P a b c d (suc (suc (suc zero))) lt = d
below_four P a b c d (suc (suc (suc (suc n)))) lt = absurd (omega arith)

below_eight : (P : ℕ → Type 0) → P 0 → P 1 → P 2 → P 3 → P 4 → P 5 → P 6 → P 7 → (n : ℕ) → n < 8 → P n
below_eight P a b c d e f g h zero lt = a
below_eight P a b c d e f g h (suc zero) lt = b
below_eight P a b c d e f g h (suc (suc zero)) lt = c
below_eight P a b c d e f g h (suc (suc (suc zero))) lt = d
below_eight P a b c d e f g h (suc (suc (suc (suc zero)))) lt = e
below_eight P a b c d e f g h (suc (suc (suc (suc (suc zero))))) lt = f
below_eight P a b c d e f g h (suc (suc (suc (suc (suc (suc zero)))))) lt = g
below_eight P a b c d e f g h (suc (suc (suc (suc (suc (suc (suc zero))))))) lt = h
below_eight P a b c d e f g h (suc (suc (suc (suc (suc (suc (suc (suc n)))))))) lt = absurd (omega arith)

widths8 : HasWidths 8 3 (shipped_entry dmux8way_tree) (shipped_entry mux8way16_tree)
unfolding dmux8way_tree mux8way16_tree
widths8 = record {
  demux_in = lit< tt;
  demux_sel = refl;
  demux_way = below_eight (λ n. 0 < width_of (shipped_entry dmux8way_tree) (letter n)) (lit< tt) (lit< tt) (lit< tt) (lit< tt) (lit< tt) (lit< tt) (lit< tt) (lit< tt);
  mux_sel = refl;
  mux_out = refl;
  mux_way = below_eight (λ n. width_of (shipped_entry mux8way16_tree) (letter n) ≡ 16) refl refl refl refl refl refl refl refl;
}

widths4 : HasWidths 4 2 (shipped_entry dmux4way_tree) (shipped_entry mux4way16_tree)
unfolding dmux4way_tree mux4way16_tree
widths4 = record {
  demux_in = lit< tt;
  demux_sel = refl;
  demux_way = below_four (λ n. 0 < width_of (shipped_entry dmux4way_tree) (letter n)) (lit< tt) (lit< tt) (lit< tt) (lit< tt);
  mux_sel = refl;
  mux_out = refl;
  mux_way = below_four (λ n. width_of (shipped_entry mux4way16_tree) (letter n) ≡ 16) refl refl refl refl;
}

widths2 : HasWidths 2 1 (shipped_entry dmux_tree) (shipped_entry mux16_tree)
unfolding dmux_tree mux16_tree
widths2 = record {
  demux_in = lit< tt;
  demux_sel = refl;
  demux_way = below_two (λ n. 0 < width_of (shipped_entry dmux_tree) (letter n)) (lit< tt) (lit< tt);
  mux_sel = refl;
  mux_out = refl;
  mux_way = below_two (λ n. width_of (shipped_entry mux16_tree) (letter n) ≡ 16) refl refl;
}

-- one bit as a number
two_a : (i s : Bool) → (i && not s) ≡ (i && eqb (0 + cond s 1 0) 0)
two_a true true = refl
two_a true false = refl
two_a false s = refl

two_b : (i s : Bool) → (i && s) ≡ (i && eqb (0 + cond s 1 0) 1)
two_b true true = refl
two_b true false = refl
two_b false s = refl

two_choose : (s : Bool) (f : ℕ → Bool) → cond s (f 1) (f 0) ≡ f (0 + cond s 1 0)
two_choose true f = refl
two_choose false f = refl

module _ (world : World) (library : Chips) (has : HasBasicChips library) (d : ℕ) where
  dmux_goes : (w : List ℕ → Histories) → Works world d library (shipped_entry dmux_tree) w → GoesWay 2 1 (w []) d
  dmux_goes w h = below_two (λ i. w [] (letter i) 0 d ≡ (w [] (codes "in") 0 d && eqb (number 1 (λ k. w [] (codes "sel") k d)) i))
      (dmux_a world library has d w h ∙ two_a (w [] (codes "in") 0 d) (w [] (codes "sel") 0 d))
      (dmux_b world library has d w h ∙ two_b (w [] (codes "in") 0 d) (w [] (codes "sel") 0 d))

  mux16_takes : (w : List ℕ → Histories) → Works world d library (shipped_entry mux16_tree) w → (k : ℕ) → k < 16 → w [] (codes "out") k d ≡ w [] (letter (number 1 (λ b. w [] (codes "sel") b d))) k d
  mux16_takes w h k lt = mux16_bit world library has d w h k lt ∙ two_choose (w [] (codes "sel") 0 d) (λ n. w [] (letter n) k d)

-- ---- the pins of the smaller memories

word_joins : (i d : ℕ) (outside inside : Histories) → Each (Joins false true (shipped_entry register_tree) (λ name bit. outside name bit d) (λ name bit. inside name bit d)) (word_part i).connections → IsJoined 0 i d outside inside
unfolding register_tree
word_joins i d outside inside j = record {
  load = j.1.0 0 (lit< tt);
  word_in = number_same 16 _ _ (λ k lt. whole_joined d (shipped_entry register_tree) outside inside (codes "in") (codes "in") j.0 k lt);
  address = refl;
  out = λ k lt. whole_joined d (shipped_entry register_tree) outside inside (codes "out") (numbered_name "word" i) j.1.1.0 k lt;
}

smaller_joins : (name : List ℕ) (bits : ℕ) (inner : Entry) → width_of inner (codes "in") ≡ 16 → width_of inner (codes "load") ≡ 1 → width_of inner (codes "address") ≡ bits → width_of inner (codes "out") ≡ 16 →
    (i d : ℕ) (outside inside : Histories) → Each (Joins false true inner (λ name bit. outside name bit d) (λ name bit. inside name bit d)) (smaller name bits i).connections → IsJoined bits i d outside inside
smaller_joins name bits inner in_width load_width address_width out_width i d outside inside j = record {
  load = j.1.0 0 (subst (λ x. 0 < x) (sym load_width) (lit< tt));
  word_in = number_same 16 _ _ (λ k lt. whole_joined d inner outside inside (codes "in") (codes "in") j.0 k (subst (λ x. k < x) (sym in_width) lt));
  address = number_same bits _ _ (λ k lt. whole_joined d inner outside inside (codes "address") (codes "address") j.1.1.0 k (subst (λ x. k < x) (sym address_width) lt));
  out = λ k lt. whole_joined d inner outside inside (codes "out") (numbered_name "word" i) j.1.1.1.0 k (subst (λ x. k < x) (sym out_width) lt);
}

-- ---- the memories

module _ (world : World) (entries : List Entry) (n : ℕ) (has : HasMemoryChips (of_gates entries)) where
  abbrev library : Chips
  library = of_gates entries

  abbrev basic : HasBasicChips library
  basic = has.computing.basic

  pub ram8_works : (w : List ℕ → Histories) → IsBehaviour world library (shipped_entry ram8_tree) n w → (c : ℕ) → c < n → BlockWorks c 3 (w [])
  unfolding end_of ram8_tree
  ram8_works w h =
      made_works world library n 8 3 0 None refl refl (codes "DMux8Way") (codes "Mux8Way16") (shipped_entry dmux8way_tree) (shipped_entry mux8way16_tree) (shipped_entry register_tree) widths8 basic.dmux8way basic.mux8way16
      (λ d v g. dmux8way_works world library basic d v g) (λ d v g. mux8way16_bits world library basic d v g)
      word_part (λ i. has.register) word_joins (one_word_works world library has n) split1 (shipped_entry ram8_tree) refl w h

  pub ram64_works : (w : List ℕ → Histories) → IsBehaviour world library (shipped_entry ram64_tree) n w → (c : ℕ) → c < n → BlockWorks c 6 (w [])
  unfolding end_of ram64_tree ram8_tree
  ram64_works w h =
      made_works world library n 8 3 3 (Some (Bits 3 5)) refl refl (codes "DMux8Way") (codes "Mux8Way16") (shipped_entry dmux8way_tree) (shipped_entry mux8way16_tree) (shipped_entry ram8_tree) widths8 basic.dmux8way basic.mux8way16
      (λ d v g. dmux8way_works world library basic d v g) (λ d v g. mux8way16_bits world library basic d v g)
      (smaller (codes "RAM8") 3) (λ i. has.ram8) (smaller_joins (codes "RAM8") 3 (shipped_entry ram8_tree) refl refl refl refl) ram8_works split8 (shipped_entry ram64_tree) refl w h

  pub ram512_works : (w : List ℕ → Histories) → IsBehaviour world library (shipped_entry ram512_tree) n w → (c : ℕ) → c < n → BlockWorks c 9 (w [])
  unfolding end_of ram512_tree ram64_tree
  ram512_works w h =
      made_works world library n 8 3 6 (Some (Bits 6 8)) refl refl (codes "DMux8Way") (codes "Mux8Way16") (shipped_entry dmux8way_tree) (shipped_entry mux8way16_tree) (shipped_entry ram64_tree) widths8 basic.dmux8way basic.mux8way16
      (λ d v g. dmux8way_works world library basic d v g) (λ d v g. mux8way16_bits world library basic d v g)
      (smaller (codes "RAM64") 6) (λ i. has.ram64) (smaller_joins (codes "RAM64") 6 (shipped_entry ram64_tree) refl refl refl refl) ram64_works split64 (shipped_entry ram512_tree) refl w h

  pub ram4k_works : (w : List ℕ → Histories) → IsBehaviour world library (shipped_entry ram4k_tree) n w → (c : ℕ) → c < n → BlockWorks c 12 (w [])
  unfolding end_of ram4k_tree ram512_tree
  ram4k_works w h =
      made_works world library n 8 3 9 (Some (Bits 9 11)) refl refl (codes "DMux8Way") (codes "Mux8Way16") (shipped_entry dmux8way_tree) (shipped_entry mux8way16_tree) (shipped_entry ram512_tree) widths8 basic.dmux8way basic.mux8way16
      (λ d v g. dmux8way_works world library basic d v g) (λ d v g. mux8way16_bits world library basic d v g)
      (smaller (codes "RAM512") 9) (λ i. has.ram512) (smaller_joins (codes "RAM512") 9 (shipped_entry ram512_tree) refl refl refl refl) ram512_works split512 (shipped_entry ram4k_tree) refl w h

  pub ram16k_works : (w : List ℕ → Histories) → IsBehaviour world library (shipped_entry ram16k_tree) n w → (c : ℕ) → c < n → BlockWorks c 14 (w [])
  unfolding end_of ram16k_tree ram4k_tree
  ram16k_works w h =
      made_works world library n 4 2 12 (Some (Bits 12 13)) refl refl (codes "DMux4Way") (codes "Mux4Way16") (shipped_entry dmux4way_tree) (shipped_entry mux4way16_tree) (shipped_entry ram4k_tree) widths4 basic.dmux4way basic.mux4way16
      (λ d v g. dmux4way_works world library basic d v g) (λ d v g. mux4way16_bits world library basic d v g)
      (smaller (codes "RAM4K") 12) (λ i. has.ram4k) (smaller_joins (codes "RAM4K") 12 (shipped_entry ram4k_tree) refl refl refl refl) ram4k_works split4096 (shipped_entry ram16k_tree) refl w h

  pub screen_works : (w : List ℕ → Histories) → IsBehaviour world library (shipped_entry screen_tree) n w → (c : ℕ) → c < n → BlockWorks c 13 (w [])
  unfolding end_of screen_tree ram4k_tree
  screen_works w h =
      made_works world library n 2 1 12 (Some (Bit 12)) refl refl (codes "DMux") (codes "Mux16") (shipped_entry dmux_tree) (shipped_entry mux16_tree) (shipped_entry ram4k_tree) widths2 basic.dmux basic.mux16
      (λ d v g. dmux_goes world library basic d v g) (λ d v g. mux16_takes world library basic d v g)
      (smaller (codes "RAM4K") 12) (λ i. has.ram4k) (smaller_joins (codes "RAM4K") 12 (shipped_entry ram4k_tree) refl refl refl refl) ram4k_works split4096 (shipped_entry screen_tree) refl w h
