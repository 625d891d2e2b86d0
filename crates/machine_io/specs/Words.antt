-- The text of words and their addresses.
use Rattle.std.specs.Prelude.{◌≡◌, ◌≤◌, ◌+◌, ◌-◌, ◌==◌, ◌||◌, not, ℕ, Bool, List, [], if◌then◌else◌}
use Rattle.std.specs.List.{flat_map, range_with_len}
use Rattle.outer_world.specs.Texts.{word_line}

-- a closure may be called at each address from one to another
abbrev pub IsCallable : (ℕ → Type 0) → ℕ → ℕ → Type 0
IsCallable pre from to = (a : ℕ) → from ≤ a → a ≤ to → pre a

-- each call of a closure at such an address gives the word there
abbrev pub Gives : (ℕ → ℕ → Type 0) → ℕ → ℕ → (ℕ → ℕ) → Type 0
Gives post from to word = (a w : ℕ) → from ≤ a → a ≤ to → post a w → w ≡ word a

-- the line of a word; where zeros are left out, a word 0 has none
abbrev pub shown_line : Bool → ℕ → ℕ → List ℕ
shown_line zeros address w = if zeros || not (w == 0) then word_line address w else []

-- the lines of the addresses from one to another, both included, in order
unfoldable pub words_text : (ℕ → ℕ) → Bool → ℕ → ℕ → List ℕ
words_text word zeros from to = flat_map (λ a. shown_line zeros a (word a)) (range_with_len from (to + 1 - from))
