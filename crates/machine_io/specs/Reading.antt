-- What can be read of a machine: the numbers of its moves and steps, its control point, and its words by address. (The book, chapters 4 and 5: the
-- heap, and the screen after it.)
use Rattle.std.specs.Prelude.{◌≡◌, ◌≤◌, ◌<◌, ℕ}
use Rattle.word16.specs.Memory.{heap, keyboard}

-- the moves made, how many steps of the program's meaning are among them, the control point, and the words of heap and screen
pub record Reading (P : Type 0) : Type 0 where
  pub moves : ℕ
  pub steps : ℕ
  pub point : P
  pub word : ℕ → ℕ

-- Two machines show the same: the words of heap and screen, and the control point.
pub record ShowSame {P : Type 0} (a b : Reading P) : Type 0 where
  pub words : (address : ℕ) → heap ≤ address → address < keyboard → b.word address ≡ a.word address
  pub point : b.point ≡ a.point

-- All that can be read of a machine is as it was: what it shows, and its moves and steps.
pub record IsSameReading {P : Type 0} (before after : Reading P) : Type 0 where
  pub shown : ShowSame before after
  pub moves : after.moves ≡ before.moves
  pub steps : after.steps ≡ before.steps
