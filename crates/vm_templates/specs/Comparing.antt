-- The three comparisons of the stack machine, on words. (The book, chapter 7: true is -1, false is 0.)
use Rattle.std.specs.Prelude.{ℕ}
use Rattle.word16.specs.Words.{word_eq, word_lt, word_gt}

-- the comparisons of words, under names that a proof opens where it wants to
unfoldable pub equal : ℕ → ℕ → ℕ
equal x y = word_eq x y

unfoldable pub greater : ℕ → ℕ → ℕ
greater x y = word_gt x y

unfoldable pub less : ℕ → ℕ → ℕ
less x y = word_lt x y
