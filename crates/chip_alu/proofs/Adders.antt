-- The adders.
use Rattle.std.proofs.Common.{◌≡◌, ℕ, zero, suc, ◌+◌, ◌*◌, ◌^◌, ◌<◌, ◌≤◌, ◌%◌, Bool, true, false, cond, eqb, leb, List, [], ◌∷◌, refl, sym, ap₂, ◌∙◌, arith, lit<, lit≤, ne_eqb}
use Rattle.std.proofs.Math.Nat.{two-pow-succ}
use Rattle.std.proofs.lemmas.Bool.Decides.{nat_tests}
use Rattle.std.specs.Prelude.{◌&&◌, ◌||◌, codes}
use Rattle.hdl_tree.specs.Memory.{number}
use Rattle.hdl_tree.specs.Chips.{Chips, end_of}
use Rattle.hdl_tree.specs.Behaviour.{Histories, World, Works}
use Rattle.chip_basic.specs.Hdl.{shipped_entry, numbered_name}
use Rattle.chip_basic.specs.Trees.{and_tree, or_tree, xor_tree}
use Rattle.chip_basic.specs.Laws.{xor, word}
use Rattle.chip_basic.proofs.Rows.{get_of_row}
use Rattle.chip_basic.proofs.Inside.{part_of, bit_joined, whole_joined}
use Rattle.chip_basic.proofs.Gates.{and_works, or_works, xor_works}
use Rattle.chip_basic.proofs.Numbers.{number_same, number_below}
use Rattle.chip_alu.specs.Trees.{HasAluChips, half_adder_tree, full_adder_tree, add_bit, add16_tree, inc16_tree}
use Rattle.chip_alu.specs.Laws.{digit}

abbrev pub carry_of : Bool → Bool → Bool → Bool
carry_of x y z = (x && y) || (xor x y && z)

two_digits : (x y : Bool) → digit (xor x y) + 2 * digit (x && y) ≡ digit x + digit y
two_digits true true = refl
two_digits true false = refl
two_digits false true = refl
two_digits false false = refl

three_digits : (x y z : Bool) → digit (xor (xor x y) z) + 2 * digit (carry_of x y z) ≡ digit x + (digit y + digit z)
three_digits true true true = refl
three_digits true true false = refl
three_digits true false true = refl
three_digits true false false = refl
three_digits false true true = refl
three_digits false true false = refl
three_digits false false true = refl
three_digits false false false = refl

half_sum : (x y : Bool) → xor x y ≡ xor (xor x y) false
half_sum true true = refl
half_sum true false = refl
half_sum false true = refl
half_sum false false = refl

half_carry : (x y : Bool) → (x && y) ≡ carry_of x y false
half_carry true true = refl
half_carry true false = refl
half_carry false true = refl
half_carry false false = refl

ripple_step : (x y z : Bool) (o a b p q : ℕ) → q ≡ p + p → o + cond z p 0 ≡ a + b →
    (o + cond (xor (xor x y) z) p 0) + cond (carry_of x y z) q 0 ≡ (a + cond x p 0) + (b + cond y p 0)
ripple_step true true true o a b p q e h = omega arith
ripple_step true true false o a b p q e h = omega arith
ripple_step true false true o a b p q e h = omega arith
ripple_step true false false o a b p q e h = omega arith
ripple_step false true true o a b p q e h = omega arith
ripple_step false true false o a b p q e h = omega arith
ripple_step false false true o a b p q e h = omega arith
ripple_step false false false o a b p q e h = omega arith

-- a sum whose carry is let go
carried_away : (b : Bool) (x y : ℕ) → x < 65536 → x + cond b 65536 0 ≡ y → x ≡ y % 65536
carried_away true x y lt e = omega arith
carried_away false x y lt e = omega arith

beyond_first : (k : ℕ) → 0 < k → (leb 0 k && leb (suc k) 1) ≡ false
beyond_first k h = grind (arith, nat_tests)

module _ (world : World) (library : Chips) (has : HasAluChips library) (c : ℕ) where
  half_adder_sum : (w : List ℕ → Histories) → Works world c library (shipped_entry half_adder_tree) w → w [] (codes "sum") 0 c ≡ xor (w [] (codes "a") 0 c) (w [] (codes "b") 0 c)
  unfolding end_of half_adder_tree xor_tree
  half_adder_sum w h =
      let p = part_of world c library (shipped_entry half_adder_tree) w h 0 _ (shipped_entry xor_tree) refl has.basic.xor in
      let j = p.outside.joined in
      cc (xor_works world library has.basic c (λ path. w (0 ∷ path)) p.inside, j.0 0 (lit< tt), j.1.0 0 (lit< tt), j.1.1.0 0 (lit< tt))

  half_adder_carry : (w : List ℕ → Histories) → Works world c library (shipped_entry half_adder_tree) w → w [] (codes "carry") 0 c ≡ (w [] (codes "a") 0 c && w [] (codes "b") 0 c)
  unfolding end_of half_adder_tree and_tree
  half_adder_carry w h =
      let p = part_of world c library (shipped_entry half_adder_tree) w h 1 _ (shipped_entry and_tree) refl has.basic.and in
      let j = p.outside.joined in
      cc (and_works world library has.basic c (λ path. w (1 ∷ path)) p.inside, j.0 0 (lit< tt), j.1.0 0 (lit< tt), j.1.1.0 0 (lit< tt))

  pub half_adder_works : (w : List ℕ → Histories) → Works world c library (shipped_entry half_adder_tree) w → digit (w [] (codes "sum") 0 c) + 2 * digit (w [] (codes "carry") 0 c) ≡ digit (w [] (codes "a") 0 c) + digit (w [] (codes "b") 0 c)
  half_adder_works w h =
      ap₂ (λ s t. digit s + 2 * digit t) (half_adder_sum w h) (half_adder_carry w h) ∙ two_digits (w [] (codes "a") 0 c) (w [] (codes "b") 0 c)

  full_adder_sum : (w : List ℕ → Histories) → Works world c library (shipped_entry full_adder_tree) w → w [] (codes "sum") 0 c ≡ xor (xor (w [] (codes "a") 0 c) (w [] (codes "b") 0 c)) (w [] (codes "c") 0 c)
  unfolding end_of full_adder_tree half_adder_tree
  full_adder_sum w h =
      let p = part_of world c library (shipped_entry full_adder_tree) w h 0 _ (shipped_entry half_adder_tree) refl has.half_adder in
      let q = part_of world c library (shipped_entry full_adder_tree) w h 1 _ (shipped_entry half_adder_tree) refl has.half_adder in
      let j = p.outside.joined in
      let k = q.outside.joined in
      cc (half_adder_sum (λ path. w (0 ∷ path)) p.inside, half_adder_sum (λ path. w (1 ∷ path)) q.inside, j.0 0 (lit< tt), j.1.0 0 (lit< tt), j.1.1.0 0 (lit< tt), k.0 0 (lit< tt), k.1.0 0 (lit< tt), k.1.1.0 0 (lit< tt))

  full_adder_carry : (w : List ℕ → Histories) → Works world c library (shipped_entry full_adder_tree) w → w [] (codes "carry") 0 c ≡ carry_of (w [] (codes "a") 0 c) (w [] (codes "b") 0 c) (w [] (codes "c") 0 c)
  unfolding end_of full_adder_tree half_adder_tree or_tree
  full_adder_carry w h =
      let p = part_of world c library (shipped_entry full_adder_tree) w h 0 _ (shipped_entry half_adder_tree) refl has.half_adder in
      let q = part_of world c library (shipped_entry full_adder_tree) w h 1 _ (shipped_entry half_adder_tree) refl has.half_adder in
      let r = part_of world c library (shipped_entry full_adder_tree) w h 2 _ (shipped_entry or_tree) refl has.basic.or in
      let j = p.outside.joined in
      let k = q.outside.joined in
      let l = r.outside.joined in
      cc (half_adder_carry (λ path. w (0 ∷ path)) p.inside, half_adder_sum (λ path. w (0 ∷ path)) p.inside, half_adder_carry (λ path. w (1 ∷ path)) q.inside, or_works world library has.basic c (λ path. w (2 ∷ path)) r.inside, j.0 0 (lit< tt), j.1.0 0 (lit< tt), j.1.1.0 0 (lit< tt), j.1.1.1.0 0 (lit< tt), k.0 0 (lit< tt), k.1.0 0 (lit< tt), k.1.1.1.0 0 (lit< tt), l.0 0 (lit< tt), l.1.0 0 (lit< tt), l.1.1.0 0 (lit< tt))

  pub full_adder_works : (w : List ℕ → Histories) → Works world c library (shipped_entry full_adder_tree) w → digit (w [] (codes "sum") 0 c) + 2 * digit (w [] (codes "carry") 0 c) ≡ digit (w [] (codes "a") 0 c) + (digit (w [] (codes "b") 0 c) + digit (w [] (codes "c") 0 c))
  full_adder_works w h =
      ap₂ (λ s t. digit s + 2 * digit t) (full_adder_sum w h) (full_adder_carry w h) ∙ three_digits (w [] (codes "a") 0 c) (w [] (codes "b") 0 c) (w [] (codes "c") 0 c)

  -- what goes into bit i as a carry
  carry : (List ℕ → Histories) → ℕ → Bool
  carry w zero = false
  carry w (suc i) = w [] (numbered_name "carry" (suc i)) 0 c

  add16_bit : (w : List ℕ → Histories) → Works world c library (shipped_entry add16_tree) w → (i : ℕ) → i < 16 →
      (w [] (codes "out") i c ≡ xor (xor (w [] (codes "a") i c) (w [] (codes "b") i c)) (carry w i)) × (carry w (suc i) ≡ carry_of (w [] (codes "a") i c) (w [] (codes "b") i c) (carry w i))
  unfolding end_of add16_tree half_adder_tree full_adder_tree carry
  add16_bit w h zero lt =
      let p = part_of world c library (shipped_entry add16_tree) w h 0 _ (shipped_entry half_adder_tree) refl has.half_adder in
      let j = p.outside.joined in
      let x = w [] (codes "a") 0 c in
      let y = w [] (codes "b") 0 c in
      let s : w [] (codes "out") 0 c ≡ xor x y = cc (half_adder_sum (λ path. w (0 ∷ path)) p.inside, j.0 0 (lit< tt), j.1.0 0 (lit< tt), j.1.1.0 0 (lit< tt)) in
      let t : w [] (codes "carry1") 0 c ≡ (x && y) = cc (half_adder_carry (λ path. w (0 ∷ path)) p.inside, j.0 0 (lit< tt), j.1.0 0 (lit< tt), j.1.1.1.0 0 (lit< tt)) in
      (s ∙ half_sum x y, t ∙ half_carry x y)
  add16_bit w h (suc i) lt =
      let below : i < 15 = omega arith in
      let p = part_of world c library (shipped_entry add16_tree) w h (suc i) (add_bit (suc i)) (shipped_entry full_adder_tree) (get_of_row (λ n. add_bit (suc n)) 15 i below) has.full_adder in
      let j = p.outside.joined in
      let a = bit_joined c (shipped_entry full_adder_tree) (w []) (w (suc i ∷ [])) (codes "a") (codes "a") (suc i) j.0 (lit< tt) in
      let b = bit_joined c (shipped_entry full_adder_tree) (w []) (w (suc i ∷ [])) (codes "b") (codes "b") (suc i) j.1.0 (lit< tt) in
      let z = j.1.1.0 0 (lit< tt) in
      let o = bit_joined c (shipped_entry full_adder_tree) (w []) (w (suc i ∷ [])) (codes "sum") (codes "out") (suc i) j.1.1.1.0 (lit< tt) in
      let y = j.1.1.1.1.0 0 (lit< tt) in
      let s = full_adder_sum (λ path. w (suc i ∷ path)) p.inside in
      let t = full_adder_carry (λ path. w (suc i ∷ path)) p.inside in
      ((cc), (cc))

  -- the lowest k bits of the sum, with what they carry
  ripple : (w : List ℕ → Histories) → Works world c library (shipped_entry add16_tree) w → (k : ℕ) → k ≤ 16 →
      number k (λ i. w [] (codes "out") i c) + cond (carry w k) (2 ^ k) 0 ≡ number k (λ i. w [] (codes "a") i c) + number k (λ i. w [] (codes "b") i c)
  unfolding carry
  ripple w h zero le = refl
  ripple w h (suc k) le =
      let here : k < 16 = omega arith in
      let ih = ripple w h k (omega arith) in
      let b = add16_bit w h k here in
      rw (b.0, b.1) (ripple_step (w [] (codes "a") k c) (w [] (codes "b") k c) (carry w k) _ _ _ (2 ^ k) _ (two-pow-succ k) ih)

  pub add16_works : (w : List ℕ → Histories) → Works world c library (shipped_entry add16_tree) w → word (w []) "out" c ≡ (word (w []) "a" c + word (w []) "b" c) % 65536
  add16_works w h =
      carried_away (carry w 16) (word (w []) "out" c) _ (number_below 16 (λ i. w [] (codes "out") i c)) (ripple w h 16 (lit≤ tt))

  pub inc16_works : (w : List ℕ → Histories) → Works world c library (shipped_entry inc16_tree) w → word (w []) "out" c ≡ (word (w []) "in" c + 1) % 65536
  unfolding end_of inc16_tree add16_tree
  inc16_works w h =
      let p = part_of world c library (shipped_entry inc16_tree) w h 0 _ (shipped_entry add16_tree) refl has.add16 in
      let j = p.outside.joined in
      let a : word (w (0 ∷ [])) "a" c ≡ word (w []) "in" c = number_same 16 _ _ (λ k lt. whole_joined c (shipped_entry add16_tree) (w []) (w (0 ∷ [])) (codes "a") (codes "in") j.0 k lt) in
      let o : word (w (0 ∷ [])) "out" c ≡ word (w []) "out" c = number_same 16 _ _ (λ k lt. whole_joined c (shipped_entry add16_tree) (w []) (w (0 ∷ [])) (codes "out") (codes "out") j.1.1.0 k lt) in
      let b : (k : ℕ) → k < 16 → w (0 ∷ []) (codes "b") k c ≡ eqb k 0 = elim [
        | zero ↦ λ lt. j.1.0 0 (lit< tt)
        | suc k ↦ λ lt. p.outside.unjoined (codes "b") 16 (suc k) refl lt (rw (beyond_first (suc k) (omega arith))) ∙ sym (ne_eqb (suc k) 0 (omega arith))
      ] in
      sym o ∙ add16_works (λ path. w (0 ∷ path)) p.inside ∙ ap₂ (λ x y. (x + y) % 65536) a (number_same 16 _ (λ k. eqb k 0) b)
