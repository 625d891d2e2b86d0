-- What a run of the computer says about the meaning of the program.
use Rattle.std.specs.Prelude.{◌≡◌, ℕ, suc, ◌+◌, ◌<◌, ◌≤◌, true, Some}
use Rattle.simulation.specs.System.{System, IsData, IsKey, Listening, run_of, Tame, IsMeaning, IdlesAtEnd}
use Rattle.simulation.specs.Trace.{Trace, steps, heard_keys, point_at, trace_of}
use Rattle.simulation.specs.Layers.{Simulates, Starts}

module _ {S : Type 0} (meaning : System S) (start : S) (t : Trace) (word : ℕ → ℕ → ℕ) where
  -- At cycle n the words and the point are those of the meaning, after the counted steps over the keys heard.
  pub record Agrees (n : ℕ) : Type 0 where
    pub after : Listening S
    pub run : run_of meaning start (heard_keys t n) (steps t n) ≡ Some after
    pub words : (a : ℕ) → IsData a → word n a ≡ meaning.word after.state a
    pub point : point_at t n ≡ meaning.point after.state

  -- What holds at cycle n, where a step takes at most `gap` cycles. The run agrees with the meaning as far as that is tame.
  -- Where the meaning has one more tame step, the computer makes it within the gap.
  pub record Follows (gap n : ℕ) : Type 0 where
    pub agrees : Tame meaning start (heard_keys t n) (steps t n) → Agrees n
    pub goes_on : Tame meaning start (heard_keys t n) (suc (steps t n)) → steps t n < steps t (n + gap)

-- At cycle n the meaning has come, over the keys heard, to a state to which the machine's is related by R.
pub record Meets {U L : Type 0} (up : System U) (start : U) (low : System L) (R : U → L → Type 0) (keys : ℕ → ℕ) (state : ℕ → L) (n : ℕ) : Type 0 where
  pub after : Listening U
  pub run : run_of up start (heard_keys (trace_of low keys state) n)
      (steps (trace_of low keys state) n) ≡ Some after
  pub met : R after.state (state n)

-- The lower machine is in these states at the cycles, under these keys, in its first `until` cycles. It starts where the layer starts,
-- and no step of the upper machine costs more than the gap, with 16 for the opening.
module _ {U L : Type 0} (up : System U) (start : U) (low : System L) (cost : L → ℕ) (R : U → L → Type 0) (bound : U → ℕ) where
  pub record CarriesRun (gap until : ℕ) (keys : ℕ → ℕ) (state : ℕ → L) : Type 0 where
    pub laws : IsMeaning up
    pub low_laws : IdlesAtEnd low
    pub layer : Simulates up low cost R bound
    pub begins : up.fits start ≡ true → Starts up low cost R start 16 (state 0)
    pub key_words : (c : ℕ) → IsKey (keys c)
    pub runs : (c : ℕ) → c < until → low.step (keys c) (state c) ≡ Some (state (suc c))
    pub small : (u : U) → bound u + 16 ≤ gap
    pub paid : (l : L) → 1 ≤ cost l
    pub still : (l l' : L) (key : ℕ) → low.halted l ≡ true → low.step key l ≡ Some l' → cost l' ≤ cost l
