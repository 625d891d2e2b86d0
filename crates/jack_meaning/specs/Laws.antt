-- What holds of every program.
use Rattle.std.specs.Prelude.{◌≡◌, ℕ, false}
use Rattle.jack_meaning.specs.Text.{Program}
use Rattle.simulation.specs.System.{IsMeaning}
use Rattle.jack_meaning.specs.Meaning.{State, Stray, Done, step, start, point_of}
use Rattle.jack_meaning.specs.Level.{has_heard, meaning_of}
use Rattle.jack_meaning.specs.Gap.{IsGap}

pub record MeaningLaw : Type 0 where
  -- a step that does not hear the key is the same under every key
  pub deaf : (program : Program) (s : State) (key key' : ℕ)
      → has_heard (step program.subroutines key s) ≡ false
      → step program.subroutines key' s ≡ step program.subroutines key s
  -- whether the key is heard does not depend on which key it is
  pub hears : (program : Program) (s : State) (key key' : ℕ)
      → has_heard (step program.subroutines key' s) ≡ has_heard (step program.subroutines key s)
  -- where there is no step under one key there is no step under any other
  pub strays : (program : Program) (s : State) (key key' a : ℕ)
      → step program.subroutines key s ≡ Stray a → step program.subroutines key' s ≡ Stray a
  pub done : (program : Program) (s : State) (key key' : ℕ) → step program.subroutines key s ≡ Done
      → step program.subroutines key' s ≡ Done
  -- the start's point
  pub begins : (program : Program) → point_of (start program).frames ≡ (0, 1)
  -- a program has one gap
  pub one_gap : (program : Program) (words words' : ℕ) → IsGap program words → IsGap program words'
      → words ≡ words'
  -- what is asked of a program's meaning as a level
  pub level : (program : Program) → IsMeaning (meaning_of program.subroutines)
