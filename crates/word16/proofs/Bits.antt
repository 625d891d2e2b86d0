-- A number and the list of its bits.
use Rattle.std.proofs.Common.{◌≡◌, ℕ, zero, suc, ◌+◌, ◌*◌, ◌<◌, ◌≤◌, ◌/◌, ◌%◌, ◌^◌, Bool, true, false, nat_eq, List, [], ◌∷◌, length, get_or, drop, map, arith, refl, ap, ◌∙◌, sym, add-one}
use Rattle.std.specs.Prelude.{if◌then◌else◌}
use Rattle.std.proofs.Math.Nat.{div-div-eq-div-mul, pow-suc, pow-le-pow_right}
use Rattle.std.proofs.lemmas.List.{length-drop}
use Rattle.std.proofs.lemmas.Nat.{mod-pow-add, pow-add}
use Rattle.std.proofs.lemmas.Nat.Bits.{bit_at-suc, bit_at-zero}
use Rattle.std.proofs.lemmas.Bool.Decides.{nat_tests}
use Rattle.std.specs.List.{range_with_len}
use Rattle.std.proofs.lemmas.List.FromFn.{fill_by_all}
use Rattle.word16.specs.Words.{has_bit, bit_list, number_of}

worth : (x : ℕ) → (if nat_eq (x % 2) 1 then 1 else 0) ≡ x % 2
worth x = grind (arith, nat_tests)

-- n bits from place a on
pub number_from : (w n a : ℕ) → number_of (map (has_bit w) (range_with_len a n)) ≡ w / 2 ^ a % 2 ^ n
number_from w zero a = omega arith
number_from w (suc n) a =
    let rest = number_from w n (a + 1) in
    let next : w / 2 ^ (a + 1) ≡ w / 2 ^ a / 2 = ap (λ p. w / p) (pow-add 2 a 1) ∙ sym (div-div-eq-div-mul w (2 ^ a) 2) in
    let split : w / 2 ^ a % 2 ^ (n + 1) ≡ (w / 2 ^ a / 2 % 2 ^ n) * 2 + w / 2 ^ a % 2 = mod-pow-add (w / 2 ^ a) n 1 in
    let named : 2 ^ suc n ≡ 2 ^ (n + 1) = ap (λ k. 2 ^ k) (sym (add-one n)) in
    rw (worth (w / 2 ^ a), rest, next, named, split) (omega arith)

pub written : (w : ℕ) → w < 65536 → number_of (bit_list w) ≡ w
written w h = number_from w 16 0 ∙ omega arith

pub number-lt : (bits : List Bool) → number_of bits < 2 ^ length bits
number-lt [] = omega arith
number-lt (true ∷ bits) = omega (arith, number-lt bits, pow-suc 2 (length bits))
number-lt (false ∷ bits) = omega (arith, number-lt bits, pow-suc 2 (length bits))

-- bit k of the number is that at place k
pub has_bit-number_of : (bits : List Bool) (k : ℕ) → has_bit (number_of bits) k ≡ get_or bits k false
has_bit-number_of [] k = rw (bit_at-zero k) refl
has_bit-number_of (true ∷ bits) zero = let e : (1 + 2 * number_of bits) / 1 % 2 ≡ 1 = omega arith in rw e refl
has_bit-number_of (false ∷ bits) zero = let e : (0 + 2 * number_of bits) / 1 % 2 ≡ 0 = omega arith in rw e refl
has_bit-number_of (true ∷ bits) (suc k) =
    let e : (1 + 2 * number_of bits) / 2 ≡ number_of bits = omega arith in
    rw (bit_at-suc (1 + 2 * number_of bits) k, e) (has_bit-number_of bits k)
has_bit-number_of (false ∷ bits) (suc k) =
    let e : (0 + 2 * number_of bits) / 2 ≡ number_of bits = omega arith in
    rw (bit_at-suc (0 + 2 * number_of bits) k, e) (has_bit-number_of bits k)

pub reading : (bits : List Bool) → length bits ≡ 16 → bit_list (number_of bits) ≡ bits
reading bits h = sym (fill_by_all (has_bit (number_of bits)) bits 16 false h (λ k lt. sym (has_bit-number_of bits k)))

-- fifteen bits at most
pub short_tail : (bits : List Bool) (k : ℕ) → length bits ≡ 16 → 0 < k → number_of (drop k bits) < 32768
short_tail bits k h above =
    let few : length (drop k bits) ≤ 15 = omega (arith, length-drop k bits) in
    omega (arith, number-lt (drop k bits), pow-le-pow_right {n = 2} (omega arith) few)
