-- Numbers in order, one stretch after another.
use Rattle.std.proofs.Common.{◌≡◌, ◌+◌, ◌++◌, ◌∷◌, ℕ, zero, suc, List, ◌∙◌, ap, append-nil, arith}
use Rattle.std.specs.List.{flat_map, range_with_len}
use Rattle.std.proofs.lemmas.Grind.{flat_map-append}

pub range-append : (a m n : ℕ) → range_with_len a (m + n) ≡ range_with_len a m ++ range_with_len (a + m) n
range-append a zero n =
    let e : 0 + n ≡ n = omega arith in
    let f : a ≡ a + 0 = omega arith in
    ap (range_with_len a) e ∙ ap (λ z. range_with_len z n) f
range-append a (suc m) n =
    let e : suc m + n ≡ suc (m + n) = omega arith in
    let f : (a + 1) + m ≡ a + suc m = omega arith in
    ap (range_with_len a) e ∙ ap (λ l. a ∷ l) (range-append (a + 1) m n ∙ ap (λ z. range_with_len (a + 1) m ++ range_with_len z n) f)

-- what is made of each of them, one stretch after another
pub each-append : (f : ℕ → List ℕ) (a m n : ℕ) → flat_map f (range_with_len a (m + n)) ≡ flat_map f (range_with_len a m) ++ flat_map f (range_with_len (a + m) n)
each-append f a m n = ap (flat_map f) (range-append a m n) ∙ flat_map-append f (range_with_len a m) (range_with_len (a + m) n)

-- and one more
pub each-more : (f : ℕ → List ℕ) (a n k : ℕ) → a + n ≡ k → flat_map f (range_with_len a (n + 1)) ≡ flat_map f (range_with_len a n) ++ f k
each-more f a n k e = each-append f a n 1 ∙ ap (λ z. flat_map f (range_with_len a n) ++ z) (append-nil (f (a + n)) ∙ ap f e)
