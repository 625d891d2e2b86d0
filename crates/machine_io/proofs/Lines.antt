-- The lines of addresses, one more at a time.
use Rattle.std.proofs.Common.{◌≡◌, ◌≤◌, ◌<◌, ◌+◌, ◌-◌, ◌++◌, [], ℕ, List, Bool, ◌∙◌, ap, max, arith}
use Rattle.std.specs.List.{flat_map, range_with_len}
use Rattle.machine_io.specs.Words.{shown_line, words_text}
use Rattle.machine_io.proofs.Counting.{each-append, each-more}

-- the lines of n addresses from one on
unfoldable pub lines : (ℕ → ℕ) → Bool → ℕ → ℕ → List ℕ
lines word zeros from n = flat_map (λ a. shown_line zeros a (word a)) (range_with_len from n)

pub lines-none : (word : ℕ → ℕ) (zeros : Bool) (from : ℕ) → lines word zeros from (from - from) ≡ []
unfolding lines
lines-none word zeros from = let e : from - from ≡ 0 = omega arith in ap (λ n. flat_map (λ a. shown_line zeros a (word a)) (range_with_len from n)) e

pub lines-step : (word : ℕ → ℕ) (zeros : Bool) (from address : ℕ) → from ≤ address
    → lines word zeros from (address + 1 - from) ≡ lines word zeros from (address - from) ++ shown_line zeros address (word address)
unfolding lines
lines-step word zeros from address le =
    let e : address + 1 - from ≡ (address - from) + 1 = omega arith in
    ap (λ n. flat_map (λ a. shown_line zeros a (word a)) (range_with_len from n)) e ∙ each-more (λ a. shown_line zeros a (word a)) from (address - from) address (omega arith)

-- the lines up to an address are a front part of the whole text
pub lines-whole : (word : ℕ → ℕ) (zeros : Bool) (from address to : ℕ) → from ≤ address → address ≤ to
    → (rest : List ℕ) × (words_text word zeros from to ≡ (lines word zeros from (address - from) ++ shown_line zeros address (word address)) ++ rest)
unfolding lines words_text
lines-whole word zeros from address to le near =
    let e : to + 1 - from ≡ (address + 1 - from) + (to - address) = omega arith in (
      flat_map (λ a. shown_line zeros a (word a)) (range_with_len (from + (address + 1 - from)) (to - address)),
      ap (λ n. flat_map (λ a. shown_line zeros a (word a)) (range_with_len from n)) e
          ∙ each-append (λ a. shown_line zeros a (word a)) from (address + 1 - from) (to - address)
          ∙ ap (λ z. z ++ flat_map (λ a. shown_line zeros a (word a)) (range_with_len (from + (address + 1 - from)) (to - address))) (lines-step word zeros from address le),
    )

-- at the end they are the whole text
pub lines-all : (word : ℕ → ℕ) (zeros : Bool) (from address to : ℕ) → to < address → address ≤ max from (to + 1)
    → lines word zeros from (address - from) ≡ words_text word zeros from to
unfolding lines words_text
lines-all word zeros from address to past near =
    let e : address - from ≡ to + 1 - from = omega arith in
    ap (λ n. flat_map (λ a. shown_line zeros a (word a)) (range_with_len from n)) e
