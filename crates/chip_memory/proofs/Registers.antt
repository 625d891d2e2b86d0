-- Chips that keep bits and words, over histories.
use Rattle.std.proofs.Common.{◌≡◌, ℕ, zero, suc, ◌<◌, Bool, true, false, cond, eqb, List, [], ◌∷◌, refl, ◌∙◌, arith, lit<}
use Rattle.std.specs.Prelude.{codes, ◌&&◌}
use Rattle.hdl_tree.specs.declared.tree.Chip.{Chip}
use Rattle.hdl_tree.specs.Memory.{before}
use Rattle.hdl_tree.specs.Chips.{Chips, end_of, parts_of}
use Rattle.hdl_tree.specs.Behaviour.{Histories, World, IsBehaviour, BlockWorks}
use Rattle.chip_basic.specs.Hdl.{shipped_entry, each}
use Rattle.chip_basic.specs.Trees.{mux_tree}
use Rattle.chip_basic.specs.Laws.{word}
use Rattle.chip_basic.proofs.Rows.{get_of_row}
use Rattle.chip_basic.proofs.Inside.{PartOf, part_of, bit_joined}
use Rattle.chip_basic.proofs.Gates.{mux_works}
use Rattle.chip_basic.proofs.Numbers.{number_same, number_cond}
use Rattle.chip_memory.specs.Trees.{HasMemoryChips, dff_tree, bit_tree, register_bit, register_tree, a_register_tree, d_register_tree}
use Rattle.chip_memory.specs.Laws.{Registers}

-- one step of a block of one word
kept : (l : Bool) (x y z : ℕ) → y ≡ z → cond l x y ≡ cond (l && eqb 0 0) x z
kept true x y z e = refl
kept false x y z e = e

module _ (world : World) (library : Chips) (has : HasMemoryChips library) (n : ℕ) where
  pub bit_works : (w : List ℕ → Histories) → IsBehaviour world library (shipped_entry bit_tree) n w → (c : ℕ) → c < n →
      w [] (codes "out") 0 c ≡ before false c (λ d. cond (w [] (codes "load") 0 d) (w [] (codes "in") 0 d) (w [] (codes "out") 0 d))
  unfolding end_of bit_tree mux_tree dff_tree
  bit_works w h zero lt =
      let p = part_of world 0 library (shipped_entry bit_tree) w (h 0 lt) 1 _ (shipped_entry dff_tree) refl has.dff in
      let j = p.outside.joined in
      cc (p.inside [] (shipped_entry dff_tree) refl, j.1.1.0 0 (lit< tt))
  bit_works w h (suc d) lt =
      let earlier : d < n = omega arith in
      let p = part_of world (suc d) library (shipped_entry bit_tree) w (h (suc d) lt) 1 _ (shipped_entry dff_tree) refl has.dff in
      let q = part_of world d library (shipped_entry bit_tree) w (h d earlier) 1 _ (shipped_entry dff_tree) refl has.dff in
      let m = part_of world d library (shipped_entry bit_tree) w (h d earlier) 0 _ (shipped_entry mux_tree) refl has.computing.basic.mux in
      let j = p.outside.joined in
      let k = q.outside.joined in
      let l = m.outside.joined in
      cc (p.inside [] (shipped_entry dff_tree) refl, j.1.1.0 0 (lit< tt), k.0 0 (lit< tt), k.1.0 0 (lit< tt), k.1.1.0 0 (lit< tt), mux_works world library has.computing.basic d (λ path. w (0 ∷ path)) m.inside, l.0 0 (lit< tt), l.1.0 0 (lit< tt), l.1.1.0 0 (lit< tt), l.1.1.1.0 0 (lit< tt))

  -- a chip whose parts are sixteen bits
  module _ (chip : Chip) (made : parts_of library (shipped_entry chip) ≡ each 16 register_bit) (w : List ℕ → Histories) (h : IsBehaviour world library (shipped_entry chip) n w) where
    bit_at : (i : ℕ) → i < 16 → (d : ℕ) → d < n → PartOf world d library w i (register_bit i) (shipped_entry bit_tree)
    bit_at i lt d le = part_of world d library (shipped_entry chip) w (h d le) i (register_bit i) (shipped_entry bit_tree) (rw made (get_of_row register_bit 16 i lt)) has.bit

    bit_kept : (i : ℕ) → i < 16 → (c : ℕ) → c < n → w [] (codes "out") i c ≡ before false c (λ d. cond (w [] (codes "load") 0 d) (w [] (codes "in") i d) (w [] (codes "out") i d))
    unfolding end_of bit_tree
    bit_kept i lt c le = here c le
      where
        inside : IsBehaviour world library (shipped_entry bit_tree) n (λ path. w (i ∷ path))
        inside d le' = (bit_at i lt d le').inside

        out_joined : (d : ℕ) → d < n → w (i ∷ []) (codes "out") 0 d ≡ w [] (codes "out") i d
        out_joined d le' = bit_joined d (shipped_entry bit_tree) (w []) (w (i ∷ [])) (codes "out") (codes "out") i (bit_at i lt d le').outside.joined.1.1.0 (lit< tt)

        in_joined : (d : ℕ) → d < n → w (i ∷ []) (codes "in") 0 d ≡ w [] (codes "in") i d
        in_joined d le' = bit_joined d (shipped_entry bit_tree) (w []) (w (i ∷ [])) (codes "in") (codes "in") i (bit_at i lt d le').outside.joined.0 (lit< tt)

        load_joined : (d : ℕ) → d < n → w (i ∷ []) (codes "load") 0 d ≡ w [] (codes "load") 0 d
        load_joined d le' = (bit_at i lt d le').outside.joined.1.0 0 (lit< tt)

        here : (d : ℕ) → d < n → w [] (codes "out") i d ≡ before false d (λ e. cond (w [] (codes "load") 0 e) (w [] (codes "in") i e) (w [] (codes "out") i e))
        here zero le' = cc (bit_works (λ path. w (i ∷ path)) inside zero le', out_joined zero le')
        here (suc d) le' =
            let earlier : d < n = omega arith in
            cc (bit_works (λ path. w (i ∷ path)) inside (suc d) le', out_joined (suc d) le', out_joined d earlier, in_joined d earlier, load_joined d earlier)

    word_kept : (c : ℕ) → c < n → Registers (w []) c
    word_kept zero lt = number_same 16 _ (λ _. false) (λ i le. bit_kept i le zero lt)
    word_kept (suc d) lt =
        number_same 16 _ _ (λ i le. bit_kept i le (suc d) lt) ∙ number_cond 16 (w [] (codes "load") 0 d) (λ i. w [] (codes "in") i d) (λ i. w [] (codes "out") i d)

  pub register_works : (w : List ℕ → Histories) → IsBehaviour world library (shipped_entry register_tree) n w → (c : ℕ) → c < n → Registers (w []) c
  unfolding end_of register_tree
  register_works w h = word_kept register_tree refl w h

  pub a_register_works : (w : List ℕ → Histories) → IsBehaviour world library (shipped_entry a_register_tree) n w → (c : ℕ) → c < n → Registers (w []) c
  unfolding end_of a_register_tree
  a_register_works w h = word_kept a_register_tree refl w h

  pub d_register_works : (w : List ℕ → Histories) → IsBehaviour world library (shipped_entry d_register_tree) n w → (c : ℕ) → c < n → Registers (w []) c
  unfolding end_of d_register_tree
  d_register_works w h = word_kept d_register_tree refl w h

  -- a register is a block of one word
  pub one_word_works : (w : List ℕ → Histories) → IsBehaviour world library (shipped_entry register_tree) n w → (c : ℕ) → c < n → BlockWorks c 0 (w [])
  one_word_works w h zero lt = register_works w h zero lt
  one_word_works w h (suc d) lt =
      let earlier : d < n = omega arith in
      register_works w h (suc d) lt ∙ kept (w [] (codes "load") 0 d) (word (w []) "in" d) _ _ (one_word_works w h d earlier)
