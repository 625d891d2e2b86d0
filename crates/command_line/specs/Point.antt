-- The parts of the word of a statement, as `Main.main:3`. (The book, chapter 10: names.)
use Rattle.std.specs.Prelude.{◌≡◌, ◌<◌, ◌⊎◌, ◌==◌, ℕ, true, false, List, length, codes, slice_index}
use Rattle.std.specs.Char.{is_ascii_alphanumeric, is_ascii_digit}
use Rattle.std.specs.List.{All, after_first, before_first}

-- a letter, a digit or `_`
abbrev pub IsNameByte : ℕ → Type 0
IsNameByte b = (is_ascii_alphanumeric b ≡ true) ⊎ (b ≡ 95)

-- A name: one or more of these, and no digit first.
abbrev pub IsName : List ℕ → Type 0
IsName text = (0 < length text) × (is_ascii_digit (slice_index text 0) ≡ false) × All IsNameByte text

-- what stands before the first such byte of a text, and what stands after it
abbrev pub before : ℕ → List ℕ → List ℕ
before c text = before_first (λ b. b == c) text

abbrev pub behind : ℕ → List ℕ → List ℕ
behind c text = after_first (λ b. b == c) text

-- The name of a subroutine: that of its class, a full stop and its own; or `start`.
abbrev pub IsSubroutine : List ℕ → Type 0
IsSubroutine text = (text ≡ codes "start") ⊎ (IsName (before 46 text) × IsName (behind 46 text))
