-- Counts of faults: an object of the outside counts each of its calls that fails.
use Rattle.std.specs.Prelude.{◌≡◌, ◌+◌, ◌-◌, ◌^◌, ℕ, min}

-- A count rose by one, or stays where it is the greatest of its type: a single call failed.
abbrev pub Rose : ℕ → ℕ → Type 0
Rose before now = now ≡ min (before + 1) (2 ^ 64 - 1)
