-- Chips of sixteen bits, from those of one.
use Rattle.std.proofs.Common.{◌≡◌, ℕ, ◌+◌, ◌<◌, ◌-◌, cond, List, [], ◌∷◌, ◌∙◌, arith, lit<}
use Rattle.std.specs.Prelude.{codes, not, ◌&&◌, ◌||◌, bit_and, bit_or}
use Rattle.hdl_tree.specs.Memory.{number}
use Rattle.hdl_tree.specs.Chips.{Chips, end_of}
use Rattle.hdl_tree.specs.Behaviour.{Histories, World, Works}
use Rattle.chip_basic.specs.Hdl.{shipped_entry}
use Rattle.chip_basic.specs.Trees.{HasBasicChips, not_tree, and_tree, or_tree, mux_tree, not_bit, and_bit, or_bit, mux_bit, not16_tree, and16_tree, or16_tree, mux16_tree}
use Rattle.chip_basic.specs.Laws.{word}
use Rattle.chip_basic.proofs.Rows.{get_of_row}
use Rattle.chip_basic.proofs.Inside.{part_of, bit_joined}
use Rattle.chip_basic.proofs.Gates.{not_works, and_works, or_works, mux_works}
use Rattle.chip_basic.proofs.Numbers.{number_same, number_cond, number_not, number_and, number_or}

turned_over : (x y : ℕ) → x + y + 1 ≡ 65536 → x ≡ 65535 - y
turned_over x y e = omega arith

module _ (world : World) (library : Chips) (has : HasBasicChips library) (c : ℕ) where
  not16_bit : (w : List ℕ → Histories) → Works world c library (shipped_entry not16_tree) w → (i : ℕ) → i < 16 → w [] (codes "out") i c ≡ not (w [] (codes "in") i c)
  unfolding end_of not16_tree not_tree
  not16_bit w h i lt =
      let p = part_of world c library (shipped_entry not16_tree) w h i (not_bit i) (shipped_entry not_tree) (get_of_row not_bit 16 i lt) has.not in
      let j = p.outside.joined in
      let a = bit_joined c (shipped_entry not_tree) (w []) (w (i ∷ [])) (codes "in") (codes "in") i j.0 (lit< tt) in
      let o = bit_joined c (shipped_entry not_tree) (w []) (w (i ∷ [])) (codes "out") (codes "out") i j.1.0 (lit< tt) in
      cc (not_works world library has c (λ path. w (i ∷ path)) p.inside, a, o)

  pub not16_works : (w : List ℕ → Histories) → Works world c library (shipped_entry not16_tree) w → word (w []) "out" c ≡ 65535 - word (w []) "in" c
  not16_works w h =
      number_same 16 _ (λ i. not (w [] (codes "in") i c)) (not16_bit w h) ∙ turned_over (number 16 (λ i. not (w [] (codes "in") i c))) (word (w []) "in" c) (number_not 16 (λ i. w [] (codes "in") i c))

  and16_bit : (w : List ℕ → Histories) → Works world c library (shipped_entry and16_tree) w → (i : ℕ) → i < 16 → w [] (codes "out") i c ≡ (w [] (codes "a") i c && w [] (codes "b") i c)
  unfolding end_of and16_tree and_tree
  and16_bit w h i lt =
      let p = part_of world c library (shipped_entry and16_tree) w h i (and_bit i) (shipped_entry and_tree) (get_of_row and_bit 16 i lt) has.and in
      let j = p.outside.joined in
      let a = bit_joined c (shipped_entry and_tree) (w []) (w (i ∷ [])) (codes "a") (codes "a") i j.0 (lit< tt) in
      let b = bit_joined c (shipped_entry and_tree) (w []) (w (i ∷ [])) (codes "b") (codes "b") i j.1.0 (lit< tt) in
      let o = bit_joined c (shipped_entry and_tree) (w []) (w (i ∷ [])) (codes "out") (codes "out") i j.1.1.0 (lit< tt) in
      cc (and_works world library has c (λ path. w (i ∷ path)) p.inside, a, b, o)

  pub and16_works : (w : List ℕ → Histories) → Works world c library (shipped_entry and16_tree) w → word (w []) "out" c ≡ bit_and (word (w []) "a" c) (word (w []) "b" c)
  and16_works w h =
      number_same 16 _ _ (and16_bit w h) ∙ number_and 16 (λ i. w [] (codes "a") i c) (λ i. w [] (codes "b") i c)

  or16_bit : (w : List ℕ → Histories) → Works world c library (shipped_entry or16_tree) w → (i : ℕ) → i < 16 → w [] (codes "out") i c ≡ (w [] (codes "a") i c || w [] (codes "b") i c)
  unfolding end_of or16_tree or_tree
  or16_bit w h i lt =
      let p = part_of world c library (shipped_entry or16_tree) w h i (or_bit i) (shipped_entry or_tree) (get_of_row or_bit 16 i lt) has.or in
      let j = p.outside.joined in
      let a = bit_joined c (shipped_entry or_tree) (w []) (w (i ∷ [])) (codes "a") (codes "a") i j.0 (lit< tt) in
      let b = bit_joined c (shipped_entry or_tree) (w []) (w (i ∷ [])) (codes "b") (codes "b") i j.1.0 (lit< tt) in
      let o = bit_joined c (shipped_entry or_tree) (w []) (w (i ∷ [])) (codes "out") (codes "out") i j.1.1.0 (lit< tt) in
      cc (or_works world library has c (λ path. w (i ∷ path)) p.inside, a, b, o)

  pub or16_works : (w : List ℕ → Histories) → Works world c library (shipped_entry or16_tree) w → word (w []) "out" c ≡ bit_or (word (w []) "a" c) (word (w []) "b" c)
  or16_works w h =
      number_same 16 _ _ (or16_bit w h) ∙ number_or (λ i. w [] (codes "a") i c) (λ i. w [] (codes "b") i c)

  pub mux16_bit : (w : List ℕ → Histories) → Works world c library (shipped_entry mux16_tree) w → (i : ℕ) → i < 16 → w [] (codes "out") i c ≡ cond (w [] (codes "sel") 0 c) (w [] (codes "b") i c) (w [] (codes "a") i c)
  unfolding end_of mux16_tree mux_tree
  mux16_bit w h i lt =
      let p = part_of world c library (shipped_entry mux16_tree) w h i (mux_bit i) (shipped_entry mux_tree) (get_of_row mux_bit 16 i lt) has.mux in
      let j = p.outside.joined in
      let a = bit_joined c (shipped_entry mux_tree) (w []) (w (i ∷ [])) (codes "a") (codes "a") i j.0 (lit< tt) in
      let b = bit_joined c (shipped_entry mux_tree) (w []) (w (i ∷ [])) (codes "b") (codes "b") i j.1.0 (lit< tt) in
      let s = j.1.1.0 0 (lit< tt) in
      let o = bit_joined c (shipped_entry mux_tree) (w []) (w (i ∷ [])) (codes "out") (codes "out") i j.1.1.1.0 (lit< tt) in
      cc (mux_works world library has c (λ path. w (i ∷ path)) p.inside, a, b, s, o)

  pub mux16_works : (w : List ℕ → Histories) → Works world c library (shipped_entry mux16_tree) w → word (w []) "out" c ≡ cond (w [] (codes "sel") 0 c) (word (w []) "b" c) (word (w []) "a" c)
  mux16_works w h =
      number_same 16 _ _ (mux16_bit w h) ∙ number_cond 16 (w [] (codes "sel") 0 c) (λ i. w [] (codes "b") i c) (λ i. w [] (codes "a") i c)
