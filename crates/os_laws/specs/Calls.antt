-- A call that the next step makes, and what stands when its value has come back.
use Rattle.std.specs.Prelude.{◌≡◌, ◌≢◌, ◌<◌, ℕ, zero, suc, false, List, ◌∷◌, length, Option, Some, option_and_then}
use Rattle.jack_meaning.specs.Text.{Subroutine}
use Rattle.jack_meaning.specs.Meaning.{Frame, State, Acts, step, new_frame, filled_text, with_top}
use Rattle.jack_meaning.specs.Level.{next_of}

-- The next step of a state is a call of the subroutine of this number with these values.
pub record NextCall (subs : List Subroutine) (s : State) (g : ℕ) (values : List ℕ) : Type 0 where
  -- the frame that makes the call, the same frame as it waits, and the frames below it
  pub top : Frame
  pub caller : Frame
  pub below : List Frame
  pub frames : s.frames ≡ top ∷ below
  pub calls : step subs 0 s ≡ Acts false (with_top s (caller ∷ below) (new_frame subs g values))

-- a value in the call's place; all else is as in the state
abbrev pub given_back : State → Frame → List Frame → ℕ → State
given_back s caller below w = with_top s below (record caller { text = filled_text w caller.text })

-- the state after n steps under these keys, where n steps can be made
abbrev pub after : List Subroutine → (ℕ → ℕ) → ℕ → State → Option State
after subs keys zero s = Some s
after subs keys (suc n) s = option_and_then (after subs (λ i. keys (suc i)) n) (next_of (step subs (keys 0) s))

-- key 0 at each step
abbrev pub no_key : ℕ → ℕ
no_key i = 0

-- Under every key, from the call on, n steps lead to this state. Before the last of them there is one frame more than
-- at first: the call has not come back, and what was called calls nothing itself.
pub record ComesBack (subs : List Subroutine) (s : State) (n : ℕ) (s' : State) : Type 0 where
  pub some : 0 < n
  pub leads : (keys : ℕ → ℕ) → after subs keys n s ≡ Some s'
  pub frames : length s'.frames ≡ length s.frames
  pub inside : (keys : ℕ → ℕ) (j : ℕ) → 0 < j → j < n
      → (t : State) × (after subs keys j s ≡ Some t) × (length t.frames ≡ suc (length s.frames))

-- n steps under these keys, at least one, lead to this state. It has this many frames, and no state between has.
pub record Stops (subs : List Subroutine) (keys : ℕ → ℕ) (s : State) (frames n : ℕ) (s' : State) : Type 0 where
  pub some : 0 < n
  pub leads : after subs keys n s ≡ Some s'
  pub there : length s'.frames ≡ frames
  pub before : (j : ℕ) → 0 < j → j < n
      → (t : State) × (after subs keys j s ≡ Some t) × (length t.frames ≢ frames)

-- Under every key, after n steps the call that was made makes one of its own, of the subroutine of this number with
-- these values. Its frame waits, and no static and no word has changed.
pub record ComesToCall {subs : List Subroutine} {s : State} {g : ℕ} {values : List ℕ} (c : NextCall subs s g values) (g' : ℕ) (values' : List ℕ) (n : ℕ) : Type 0 where
  pub callee : Frame
  pub stops : (keys : ℕ → ℕ) → Stops subs keys s (suc (suc (length s.frames))) n
      (record s { frames = new_frame subs g' values' ∷ callee ∷ c.caller ∷ c.below })
