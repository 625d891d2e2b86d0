-- What a drive has made of a machine. A machine is known by the histories that lead to it and by its number of
-- moves.
use Rattle.std.specs.Prelude.{◌≡◌, ℕ, ◌+◌, ◌<◌, List, [], ◌∷◌, ◌++◌}
use Rattle.machine_io.specs.declared.machine.Moved.{Moved}
use Rattle.machine_io.specs.declared.machine.Moved.TheVariants as moved
use Rattle.machine_io.specs.declared.driving.End.{End}
use Rattle.machine_io.specs.declared.driving.End.TheVariants as ends
use Rattle.machine_io.specs.History.{Turn, turn, moves_from}

-- From each history of the old machine, whose next move is the c-th, m moves under their keys and then the
-- turns `last` lead to the new one.
pub record Goes (code : ℕ → ℕ) (old : List Turn → Type 0) (c m : ℕ) (last : List Turn) (new : List Turn → Type 0) (c' : ℕ) : Type 0 where
  pub leads : (turns : List Turn) → old turns → new (turns ++ (moves_from code c m ++ last))
  pub counts : c' ≡ c + m

-- fewer than n moves, and then a turn with this answer, under the key of the move that was not made
abbrev pub EndsBy : (ℕ → ℕ) → (List Turn → Type 0) → ℕ → ℕ → Moved → (List Turn → Type 0) → ℕ → Type 0
EndsBy code old c n answer new c' = (m : ℕ) × (m < n) × Goes code old c m (turn (code (c + m)) answer ∷ []) new c'

-- what an end says: n moves, or fewer and then the first answer that is no move
abbrev pub IsDriven : (ℕ → ℕ) → (List Turn → Type 0) → ℕ → ℕ → End → (List Turn → Type 0) → ℕ → Type 0
IsDriven code old c n ends.Bound new c' = Goes code old c n [] new c'
IsDriven code old c n (ends.Stray s) new c' = EndsBy code old c n (moved.Stray s) new c'
IsDriven code old c n (ends.Full w) new c' = EndsBy code old c n (moved.Full w) new c'
IsDriven code old c n ends.Done new c' = EndsBy code old c n moved.Done new c'

-- memory was wanted for a move: those before it were made
abbrev pub IsCutShort : (ℕ → ℕ) → (List Turn → Type 0) → ℕ → ℕ → (List Turn → Type 0) → ℕ → Type 0
IsCutShort code old c n new c' = (m : ℕ) × (m < n) × Goes code old c m [] new c'
