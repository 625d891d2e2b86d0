-- The history of a machine: the keys that it was given, each with its answer.
use Rattle.std.specs.Prelude.{ℕ, zero, suc, List, [], ◌∷◌}
use Rattle.machine_io.specs.declared.machine.Moved.{Moved}
use Rattle.machine_io.specs.declared.machine.Moved.TheVariants.{Acted}

pub record Turn : Type 0 where
  pub key : ℕ
  pub answer : Moved

abbrev pub turn : ℕ → Moved → Turn
turn key answer = record { key = key; answer = answer }

-- how many moves an answer stands for: `Acted` is one, and in every other the machine made none
abbrev pub moves_in : Moved → ℕ
moves_in Acted = 1
moves_in _ = 0

-- P holds where the machine made no move
abbrev pub OnStop : Moved → Type 0 → Type 0
OnStop Acted P = Unit {0}
OnStop _ P = P

-- n moves, under the keys of the moves from the c-th on
abbrev pub moves_from : (ℕ → ℕ) → ℕ → ℕ → List Turn
moves_from code c zero = []
moves_from code c (suc n) = turn (code c) Acted ∷ moves_from code (suc c) n
