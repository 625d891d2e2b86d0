-- Calls that come to an error in a routine that they have called (book, chapter 12).
use Rattle.std.specs.Prelude.{◌≡◌, ◌≤◌, ◌<◌, ℕ, List, [], ◌∷◌, ◌++◌, length, Some, codes}
use Rattle.jack_core.specs.Texts.{the_subroutines}
use Rattle.jack_core.specs.declared.program.Core.{Core}
use Rattle.jack_meaning.specs.Meaning.{Frame, State, new_frame}
use Rattle.os_laws.specs.Calls.{NextCall, after}
use Rattle.os_laws.specs.Names.{IsShipped}
use Rattle.os_functions.specs.Calls.{routine_number}

-- Under every key, within this many steps the call leads to a call of Sys.error with this number, and it has not come
-- back before. These are the statics and the words then; the frames of routines that wait stand above the caller's.
pub record ComesToError {core : Core} (p : IsShipped core) {s : State} {g : ℕ} {values : List ℕ} (c : NextCall (the_subroutines core) s g values) (most number : ℕ) (statics words : List ℕ) : Type 0 where
  pub n : ℕ
  pub few : n ≤ most
  pub waits : List Frame
  pub leads : (keys : ℕ → ℕ)
      → after (the_subroutines core) keys n s
      ≡ Some (record { frames = new_frame (the_subroutines core) (routine_number p (codes "Sys") (codes "error")) (number ∷ []) ∷ (waits ++ c.caller ∷ c.below); statics = statics; words = words })
  pub inside : (keys : ℕ → ℕ) (j : ℕ) → 0 < j → j < n → (t : State)
      × (after (the_subroutines core) keys j s ≡ Some t) × (length s.frames < length t.frames)
