-- The names that the code looks up.
use Rattle.std.proofs.Common.{◌≡◌, ◌<◌, ℕ, zero, suc, ◌∷◌, List, [], length, get_or, map, ap, arith}
use Rattle.jack_core.specs.declared.program.Subroutine.{Subroutine}
use Rattle.jack_compiler.specs.Files.{name_at}

pub name_there : (subs : List Subroutine) (g : ℕ) (s : Subroutine) → g < length subs → s ≡ get_or subs g s → s.name ≡ name_at (map (λ sub. sub.name) subs) g
name_there [] g s b e = absurd (omega arith)
name_there (n ∷ subs) zero s b e = ap (λ z. z.name) e
name_there (n ∷ subs) (suc g) s b e = name_there subs g s (omega arith) e
