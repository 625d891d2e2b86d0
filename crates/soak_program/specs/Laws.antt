-- What holds of all generated programs.
use Rattle.std.specs.Prelude.{◌≡◌, ◌≤◌, ℕ, List, length}
use Rattle.soak_program.specs.Generator.{IsProgramText}

-- In each state a program is generated, and no second one.
pub record OneTextLaw : Type 0 where
  pub some : (s : ℕ) → (text : List ℕ) × (t : ℕ) × IsProgramText s text t
  pub one : (s t t' : ℕ) (text text' : List ℕ) → IsProgramText s text t → IsProgramText s text' t'
      → (text ≡ text') × (t ≡ t')

-- No text is long.
abbrev pub LengthLaw : Type 0
LengthLaw = (s t : ℕ) (text : List ℕ) → IsProgramText s text t → length text ≤ 1169
