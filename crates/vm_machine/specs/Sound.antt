-- States that keep the machine's bounds.
use Rattle.std.specs.Prelude.{◌≡◌, ◌≤◌, ◌<◌, ℕ, List, [], ◌∷◌, All, length, Some, None}
use Rattle.word16.specs.Memory.{heap_and_screen_size}
use Rattle.vm_link.specs.declared.linked.Linked.{Linked}
use Rattle.vm_machine.specs.State.{Frame, State, words_in_use}
use Rattle.vm_machine.specs.Step.{code_in}

-- words of 16 bits
abbrev pub AreWords : List ℕ → Type 0
AreWords ws = All (λ w. w < 65536) ws

-- A frame's words are words, and its place is one of its code or the end.
pub record IsSoundFrame (l : Linked) (f : Frame) : Type 0 where
  pub place : f.place ≤ length (code_in l f.function)
  pub arguments : AreWords f.arguments
  pub locals : AreWords f.locals
  pub values : AreWords f.values
  pub this : f.this < 65536
  pub that : f.that < 65536

-- The frame `start`. Its two commands never set its pointers.
pub record IsStart (f : Frame) : Type 0 where
  pub function : f.function ≡ None
  pub arguments : f.arguments ≡ []
  pub locals : f.locals ≡ []
  pub this : f.this ≡ 0
  pub that : f.that ≡ 0

-- the frame of a call of a function that is there
abbrev pub IsCall : Linked → Frame → Type 0
IsCall l f = (k : ℕ) × (f.function ≡ Some k) × (k < length l.functions)

-- the frame `start` with calls over it
abbrev pub AreSoundFrames : Linked → List Frame → Type 0
AreSoundFrames l [] = ⊥
AreSoundFrames l (f ∷ []) = IsSoundFrame l f × IsStart f
AreSoundFrames l (f ∷ g ∷ below) = IsSoundFrame l f × IsCall l f × AreSoundFrames l (g ∷ below)

pub record IsSoundState (l : Linked) (s : State) : Type 0 where
  pub room : words_in_use s.frames ≤ 1792
  pub frames : AreSoundFrames l s.frames
  pub statics : AreWords s.statics
  pub temps : AreWords s.temps
  pub words : AreWords s.words
  pub statics_length : length s.statics ≡ 240
  pub temps_length : length s.temps ≡ 8
  pub words_length : length s.words ≡ heap_and_screen_size
