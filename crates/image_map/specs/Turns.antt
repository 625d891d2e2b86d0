-- The keys of turns, one in each cycle. (The book, chapter 5: the keyboard.)
use Rattle.std.specs.Prelude.{◌≡◌, ℕ, suc, List, [], ◌∷◌}
use Rattle.machine_io.specs.History.{Turn}

-- the keyboard holds the keys of these turns, from cycle c on
abbrev pub HoldsKeys : (ℕ → ℕ) → ℕ → List Turn → Type 0
HoldsKeys keys c [] = Unit {0}
HoldsKeys keys c (t ∷ turns) = (keys c ≡ t.key) × HoldsKeys keys (suc c) turns
