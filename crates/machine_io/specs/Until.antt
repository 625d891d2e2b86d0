-- A drive until a test holds of what can be read of the machine. The test also gets the number of steps before the last move, so that it can see
-- whether that move ended a step.
use Rattle.std.specs.Prelude.{◌≡◌, ◌+◌, ◌≤◌, ◌<◌, ℕ, zero, suc, Bool, true, false, List, []}
use Rattle.machine_io.specs.Driven.{Goes, IsCutShort, IsDriven}
use Rattle.machine_io.specs.History.{Turn}
use Rattle.machine_io.specs.Reading.{Reading}
use Rattle.machine_io.specs.declared.driving.Stop.{Stop}
use Rattle.machine_io.specs.declared.driving.Stop.TheVariants as stops

-- the steps made before the k-th of the moves that lead through these machines, or, before any move, so far
abbrev pub steps_before : {M P : Type 0} → (M → Reading P) → (ℕ → M) → ℕ → ℕ
steps_before reading way zero = (reading (way 0)).steps
steps_before reading way (suc k) = (reading (way k)).steps

-- the test holds after k moves
abbrev pub holds_at : {M P : Type 0} → (ℕ → Reading P → Bool) → (M → Reading P) → (ℕ → M) → ℕ → Bool
holds_at test reading way k = test (steps_before reading way k) (reading (way k))

-- The machines that m moves lead through, each under its key: the first of them, and after each number of moves the one that stands there.
pub record IsWay {M P : Type 0} (stands : M → List Turn → Type 0) (reading : M → Reading P) (code : ℕ → ℕ) (old : M) (m : ℕ) (way : ℕ → M) : Type 0 where
  pub first : way 0 ≡ old
  pub leads : (k : ℕ) → k ≤ m
      → Goes code (stands old) (reading old).moves k [] (stands (way k)) (reading (way k)).moves

-- The test holds after m moves, at most n, and after no number of moves before.
pub record IsFound {M P : Type 0} (test : ℕ → Reading P → Bool) (stands : M → List Turn → Type 0) (reading : M → Reading P) (code : ℕ → ℕ) (old : M) (n : ℕ) (new : M) : Type 0 where
  pub moves : ℕ
  pub few : moves ≤ n
  pub way : ℕ → M
  pub is_way : IsWay stands reading code old moves way
  pub last : way moves ≡ new
  pub not_before : (k : ℕ) → k < moves → holds_at test reading way k ≡ false
  pub holds : holds_at test reading way moves ≡ true

-- The test holds after no number of the moves made.
pub record IsNotFound {M P : Type 0} (test : ℕ → Reading P → Bool) (stands : M → List Turn → Type 0) (reading : M → Reading P) (code : ℕ → ℕ) (old new : M) : Type 0 where
  pub moves : ℕ
  pub way : ℕ → M
  pub is_way : IsWay stands reading code old moves way
  pub made : (reading new).moves ≡ (reading old).moves + moves
  pub never : (k : ℕ) → k ≤ moves → holds_at test reading way k ≡ false

-- What a drive of at most n moves says by how it stopped. The test holds, or it holds nowhere and the moves have ended as those of a drive do.
abbrev pub IsDrivenUntil : {M P : Type 0} → (ℕ → Reading P → Bool) → (M → List Turn → Type 0) → (M → Reading P) → (ℕ → ℕ) → M → ℕ → Stop → M → Type 0
IsDrivenUntil test stands reading code old n stops.Found new = IsFound test stands reading code old n new
IsDrivenUntil test stands reading code old n (stops.Ended end) new =
    IsDriven code (stands old) (reading old).moves n end (stands new) (reading new).moves × IsNotFound test stands reading code old new

-- memory was wanted for a move before the test held
abbrev pub IsCutBefore : {M P : Type 0} → (ℕ → Reading P → Bool) → (M → List Turn → Type 0) → (M → Reading P) → (ℕ → ℕ) → M → ℕ → M → Type 0
IsCutBefore test stands reading code old n new =
    IsCutShort code (stands old) (reading old).moves n (stands new) (reading new).moves × IsNotFound test stands reading code old new
