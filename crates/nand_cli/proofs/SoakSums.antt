-- Sums of words, and of outcomes.
use Rattle.std.proofs.Common.{◌≡◌, ◌<◌, ◌≤◌, ◌+◌, ◌%◌, ℕ, zero, suc, refl, sym, ap, ◌∙◌, arith}
use Rattle.nand_cli.specs.Commands.Soak.{total, word_sum, words}

pub words_are : words ≡ 22528
unfolding words
words_are = refl

same_total : (f g : ℕ → ℕ) (n : ℕ) → ((i : ℕ) → i < n → f i ≡ g i) → total f n ≡ total g n
same_total f g zero h = refl
same_total f g (suc n) h =
    ap (λ k. k + f n) (same_total f g n (λ i below. h i (omega (arith, below)))) ∙ ap (λ k. total g n + k) (h n (omega arith))

-- words that are the same have one sum
pub same_sum : (v w : ℕ → ℕ) → ((a : ℕ) → 2048 ≤ a → a < 24576 → v a ≡ w a) → word_sum v ≡ word_sum w
same_sum v w h =
    ap (λ k. k % 65536) (same_total (λ i. v (2048 + i)) (λ i. w (2048 + i)) words (λ i below. h (2048 + i) (omega arith) (let all = words_are in omega (arith, below, all))))

-- the sum of the first words is that of all
pub whole_sum : (v : ℕ → ℕ) (n sum : ℕ) → n ≡ 22528 → sum ≡ total (λ i. v (2048 + i)) n % 65536 → sum ≡ word_sum v
whole_sum v n sum all is = is ∙ ap (λ k. total (λ i. v (2048 + i)) k % 65536) (all ∙ sym words_are)
