-- The state of the virtual machine. (The book, chapters 7 and 8.)
use Rattle.std.specs.Prelude.{ℕ, ◌+◌, List, [], ◌∷◌, Option, length}

-- A call that was made and has not returned. It has the number of its function in the linked code, or none for `start`, and the place
-- of its next command. It has its arguments, locals and values, the topmost value first, and its pointers `this` and `that`.
pub record Frame : Type 0 where
  pub function : Option ℕ
  pub place : ℕ
  pub arguments : List ℕ
  pub locals : List ℕ
  pub values : List ℕ
  pub this : ℕ
  pub that : ℕ

-- the frames, the innermost first; the static words by number; the eight temp words; the words of heap and screen
pub record State : Type 0 where
  pub frames : List Frame
  pub statics : List ℕ
  pub temps : List ℕ
  pub words : List ℕ

-- The words that these frames have on the stack: their values, and for each frame but `start` its arguments, its locals and the five
-- words that a call saves.
abbrev pub words_in_use : List Frame → ℕ
words_in_use [] = 0
words_in_use (f ∷ []) = length f.values
words_in_use (f ∷ g ∷ below) = words_in_use (g ∷ below) + length f.arguments + 5 + length f.locals + length f.values
