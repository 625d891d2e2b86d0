-- A machine that moves in steps, as the program's meaning, the stack machine and the computer do.
use Rattle.std.specs.Prelude.{◌≡◌, ℕ, zero, suc, ◌<◌, ◌≤◌, ◌^◌, Bool, true, false, if◌then◌else◌, List, [], ◌∷◌, Option, Some, None, option_and_then, option_map}
use Rattle.word16.specs.Memory.{heap, keyboard}
use Rattle.outer_world.specs.declared.point.Point.{Point}

-- What is known of a machine whose states are S. The key is an argument of the step: it is the key that is held while the step is made.
pub record System (S : Type 0) : Type 0 where
  -- the step under a key, where one is made
  pub step : ℕ → S → Option S
  -- whether the step is counted as one of the program's meaning
  pub commits : S → Bool
  -- whether the step hears the key
  pub hears : S → Bool
  -- whether the machine has come to its end
  pub halted : S → Bool
  -- whether the words in use leave the room that the next step may want
  pub fits : S → Bool
  -- the control point, where the state has one
  pub point : S → Option Point
  -- the word at an address
  pub word : S → ℕ → ℕ

-- the addresses of the words that the meaning can see: heap and screen
abbrev pub IsData : ℕ → Type 0
IsData a = (heap ≤ a) × (a < keyboard)

-- keys are words
abbrev pub IsKey : ℕ → Type 0
IsKey key = key < 2 ^ 16

-- the keys heard in a step: the one that is held, or none
abbrev pub keys_heard : Bool → ℕ → List ℕ
keys_heard b key = if b then key ∷ [] else []

-- the next key of a list, or 0 where none is left
abbrev pub first_key : List ℕ → ℕ
first_key [] = 0
first_key (k ∷ ks) = k

-- those after it
abbrev pub other_keys : List ℕ → List ℕ
other_keys [] = []
other_keys (k ∷ ks) = ks

-- a state with the keys that are still to be heard
pub record Listening (S : Type 0) : Type 0 where
  pub state : S
  pub keys : List ℕ

-- a step under the next key of the list, which is used up where the step hears it
abbrev pub step_from : {S : Type 0} → System S → Listening S → Option (Listening S)
step_from sys l = option_map (λ s. record { state = s; keys = if sys.hears l.state then other_keys l.keys else l.keys }) (sys.step (first_key l.keys) l.state)

-- the state after m steps over a list of keys, where m steps can be made
abbrev pub run_of : {S : Type 0} → System S → S → List ℕ → ℕ → Option (Listening S)
run_of sys start keys zero = Some (record { state = start; keys = keys })
run_of sys start keys (suc m) = option_and_then (step_from sys) (run_of sys start keys m)

-- A run is tame up to m: its first m steps can be made, and from the start to the m-th state the words in use leave room.
abbrev pub Tame : {S : Type 0} → System S → S → List ℕ → ℕ → Type 0
Tame {S} sys start keys m = (j : ℕ) → j ≤ m → (l : Listening S) × (run_of sys start keys j ≡ Some l) × (sys.fits l.state ≡ true)

-- What holds of a program's meaning. Each step counts, and each state has a point. A step that hears nothing is the same under every
-- key, and at the end there is no step.
pub record IsMeaning {S : Type 0} (sys : System S) : Type 0 where
  pub commits : (s : S) → sys.commits s ≡ true
  pub pointed : (s : S) → (p : Point) × (sys.point s ≡ Some p)
  pub deaf : (s : S) (key key' : ℕ) → sys.hears s ≡ false → sys.step key s ≡ sys.step key' s
  pub stops : (s : S) (key : ℕ) → sys.halted s ≡ true → sys.step key s ≡ None

-- a step between two states of a machine that has come to its end: it changes nothing that can be seen
pub record Idles {S : Type 0} (sys : System S) (s s' : S) : Type 0 where
  pub halted : sys.halted s' ≡ true
  pub words : (a : ℕ) → IsData a → sys.word s' a ≡ sys.word s a
  pub point : sys.point s' ≡ sys.point s
  pub fits : sys.fits s' ≡ true

-- A machine that has come to its end makes no step, or only idle ones, which neither count nor hear.
pub record IdlesAtEnd {S : Type 0} (sys : System S) : Type 0 where
  pub quiet : (s : S) → sys.halted s ≡ true → (sys.commits s ≡ false) × (sys.hears s ≡ false)
  pub idles : (s s' : S) (key : ℕ) → sys.halted s ≡ true → sys.step key s ≡ Some s' → Idles sys s s'
