-- Decimals of the numbers in the rows.
use Rattle.std.proofs.Common.{◌≡◌, ℕ, ◌<◌, ◌≤◌, ◌/◌, ◌%◌, ◌+◌, ◌^◌, [], ◌∷◌, ◌++◌, ap, ◌∙◌, lit<, lit≤}
use Rattle.std.specs.Prelude.{decimal, codes}
use Rattle.std.proofs.lemmas.Fmt.{decimal_digit, decimal_step}

pub one : (n : ℕ) → n < 10 → decimal n ≡ (48 + n) ∷ []
one = decimal_digit

pub two : (n : ℕ) → 10 ≤ n → n < 2 ^ 64 → n / 10 < 10 → decimal n ≡ (48 + n / 10) ∷ (48 + n % 10) ∷ []
two n a b c = decimal_step n a b ∙ ap (λ t. t ++ (48 + n % 10) ∷ []) (decimal_digit (n / 10) c)

pub d257 : decimal 257 ≡ codes "257"
d257 = decimal_step 257 (lit≤ tt) (lit< tt) ∙ ap (λ t. t ++ 55 ∷ []) (two 25 (lit≤ tt) (lit< tt) (lit< tt))

d327 : decimal 327 ≡ codes "327"
d327 = decimal_step 327 (lit≤ tt) (lit< tt) ∙ ap (λ t. t ++ 55 ∷ []) (two 32 (lit≤ tt) (lit< tt) (lit< tt))

d3276 : decimal 3276 ≡ codes "3276"
d3276 = decimal_step 3276 (lit≤ tt) (lit< tt) ∙ ap (λ t. t ++ 54 ∷ []) d327

pub d32767 : decimal 32767 ≡ codes "32767"
d32767 = decimal_step 32767 (lit≤ tt) (lit< tt) ∙ ap (λ t. t ++ 55 ∷ []) d3276

pub d32768 : decimal 32768 ≡ codes "32768"
d32768 = decimal_step 32768 (lit≤ tt) (lit< tt) ∙ ap (λ t. t ++ 56 ∷ []) d3276

pub d0 : decimal 0 ≡ 48 ∷ []
d0 = decimal_digit 0 (lit< tt)

pub d1 : decimal 1 ≡ 49 ∷ []
d1 = decimal_digit 1 (lit< tt)

pub d12 : decimal 12 ≡ codes "12"
d12 = two 12 (lit≤ tt) (lit< tt) (lit< tt)

pub d15 : decimal 15 ≡ codes "15"
d15 = two 15 (lit≤ tt) (lit< tt) (lit< tt)
