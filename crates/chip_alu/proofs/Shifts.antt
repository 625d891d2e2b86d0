-- Words one place to the left and to the right.
use Rattle.std.proofs.Common.{◌≡◌, ℕ, zero, suc, ◌+◌, ◌*◌, ◌^◌, ◌<◌, ◌%◌, Bool, true, false, cond, List, [], ◌∷◌, refl, sym, ap, ap₂, ◌∙◌, arith, lit<, zero-add}
use Rattle.std.proofs.Math.Nat.{two-pow-succ}
use Rattle.std.proofs.lemmas.Bool.Decides.{nat_tests}
use Rattle.std.specs.Prelude.{codes}
use Rattle.word16.specs.Words.{word_shl, word_shr, word_shift}
use Rattle.hdl_tree.specs.Memory.{number}
use Rattle.hdl_tree.specs.Chips.{Chips, end_of}
use Rattle.hdl_tree.specs.Behaviour.{Histories, World, Works}
use Rattle.chip_basic.specs.Hdl.{shipped_entry}
use Rattle.chip_basic.specs.Trees.{mux16_tree}
use Rattle.chip_basic.specs.Laws.{word}
use Rattle.chip_basic.proofs.Inside.{part_of, whole_joined}
use Rattle.chip_basic.proofs.Numbers.{number_same, number_below}
use Rattle.chip_basic.proofs.Words.{mux16_works}
use Rattle.chip_alu.specs.Trees.{HasAluChips, shift_tree}
use Rattle.chip_alu.specs.Laws.{digit}

-- ---- on numbers

one_more : (b : Bool) (d x p q : ℕ) → q ≡ p + p → (d + 2 * x) + cond b q 0 ≡ d + 2 * (x + cond b p 0)
one_more true d x p q e = omega arith
one_more false d x p q e = omega arith

lowest : (b : Bool) → 0 + cond b 1 0 ≡ digit b + 2 * 0
lowest true = refl
lowest false = refl

-- the lowest bit apart
number_first : (n : ℕ) (f : ℕ → Bool) → number (suc n) f ≡ digit (f 0) + 2 * number n (λ k. f (suc k))
number_first zero f = lowest (f 0)
number_first (suc n) f =
    ap (λ x. x + cond (f (suc n)) (2 ^ suc n) 0) (number_first n f)
    ∙ one_more (f (suc n)) (digit (f 0)) (number n (λ k. f (suc k))) (2 ^ n) (2 ^ suc n) (two-pow-succ n)

doubles : (b : Bool) (x : ℕ) → x < 32768 → 0 + 2 * x ≡ word_shl (x + cond b 32768 0)
doubles true x h = omega arith
doubles false x h = omega arith

halves : (b first : Bool) (x y v : ℕ) → x < 32768 → v ≡ x + cond b 32768 0 → v ≡ digit first + 2 * y → y + cond b 32768 0 ≡ word_shr v
halves true true x y v h e d = grind (arith, nat_tests)
halves true false x y v h e d = grind (arith, nat_tests)
halves false true x y v h e d = grind (arith, nat_tests)
halves false false x y v h e d = grind (arith, nat_tests)

-- the bits of a word, each one place up, and a 0 below them
up : (f g : ℕ → Bool) → g 0 ≡ false → ((k : ℕ) → k < 15 → g (1 + k) ≡ f (0 + k)) → number 16 g ≡ word_shl (number 16 f)
up f g first rest =
    let same : number 15 (λ k. g (suc k)) ≡ number 15 f = number_same 15 (λ k. g (suc k)) f (λ k lt. let e : suc k ≡ 1 + k = omega arith in ap g e ∙ rest k lt ∙ ap f (zero-add k)) in
    number_first 15 g ∙ ap₂ (λ b x. digit b + 2 * x) first same ∙ doubles (f 15) (number 15 f) (number_below 15 f)

-- the bits of a word, each one place down, and the top one stays
down : (f g : ℕ → Bool) → ((k : ℕ) → k < 15 → g (0 + k) ≡ f (1 + k)) → g 15 ≡ f 15 → number 16 g ≡ word_shr (number 16 f)
down f g rest top =
    let same : number 15 g ≡ number 15 (λ k. f (suc k)) = number_same 15 g (λ k. f (suc k)) (λ k lt. let e : 1 + k ≡ suc k = omega arith in ap g (sym (zero-add k)) ∙ rest k lt ∙ ap f e) in
    ap₂ (λ b x. x + cond b 32768 0) top same
    ∙ halves (f 15) (f 0) (number 15 f) (number 15 (λ k. f (suc k))) (number 16 f) (number_below 15 f) refl (number_first 15 f)

module _ (world : World) (library : Chips) (has : HasAluChips library) (c : ℕ) where
  pub shift_works : (w : List ℕ → Histories) → Works world c library (shipped_entry shift_tree) w → word (w []) "out" c ≡ word_shift (w [] (codes "left") 0 c) (word (w []) "in" c)
  unfolding end_of shift_tree mux16_tree
  shift_works w h =
      let p = part_of world c library (shipped_entry shift_tree) w h 0 _ (shipped_entry mux16_tree) refl has.basic.mux16 in
      let j = p.outside.joined in
      let right : word (w (0 ∷ [])) "a" c ≡ word_shr (word (w []) "in" c) = down (λ k. w [] (codes "in") k c) (λ k. w (0 ∷ []) (codes "a") k c) (λ k lt. j.0 k lt) (j.1.0 0 (lit< tt)) in
      let left : word (w (0 ∷ [])) "b" c ≡ word_shl (word (w []) "in" c) = up (λ k. w [] (codes "in") k c) (λ k. w (0 ∷ []) (codes "b") k c) (j.1.1.0 0 (lit< tt)) (λ k lt. j.1.1.1.0 k lt) in
      let s : w (0 ∷ []) (codes "sel") 0 c ≡ w [] (codes "left") 0 c = j.1.1.1.1.0 0 (lit< tt) in
      let o = number_same 16 _ _ (λ k lt. whole_joined c (shipped_entry mux16_tree) (w []) (w (0 ∷ [])) (codes "out") (codes "out") j.1.1.1.1.1.0 k lt) in
      sym o ∙ mux16_works world library has.basic c (λ path. w (0 ∷ path)) p.inside
      ∙ ap (λ x. cond x (word (w (0 ∷ [])) "b" c) (word (w (0 ∷ [])) "a" c)) s ∙ ap₂ (λ x y. cond (w [] (codes "left") 0 c) x y) left right
