-- The addresses of a command of an upper machine's state, in the map.
use Rattle.std.specs.Prelude.{◌≡◌, ◌≢◌, ◌⊎◌, ℕ, ◌+◌, false, None}
use Rattle.simulation.specs.System.{System}
use Rattle.image_map.specs.Map.{Map}

-- `inside` are the addresses of the command up to its last, which is `last`; they may be those of a shared part, which have no point. Only the
-- last may be a commit, and is one where the upper step is. It stands before the endless loop, or after it.
pub record IsOwn {U : Type 0} (up : System U) (map : Map) (loop : ℕ) (u : U) (inside : ℕ → Type 0) (last : ℕ) : Type 0 where
  pub points : (k : ℕ) → inside k → (map.points k ≡ up.point u) ⊎ (map.points k ≡ None)
  pub commits : (k : ℕ) → inside k → map.commits k ≡ false
  pub last_point : (map.points last ≡ up.point u) ⊎ (map.points last ≡ None)
  pub last_commit : map.commits last ≡ up.commits u
  pub apart : (last ≢ loop) × (last ≢ loop + 1)
