-- The memory of the computer holds the state of the virtual machine. (The book, chapters 7 and 8: the mapping onto Hack.)
use Rattle.std.specs.Prelude.{◌≡◌, ℕ, ◌+◌, ◌-◌, ◌<◌, ◌≤◌, List, [], ◌∷◌, ◌++◌, length, Option, reverse, slice_index}
use Rattle.word16.specs.Memory.{heap, keyboard}
use Rattle.vm_machine.specs.State.{Frame, State, words_in_use}

-- these words stand in the memory from an address on
abbrev pub Holds : (ℕ → ℕ) → ℕ → List ℕ → Type 0
Holds m at [] = Unit {0}
Holds m at (w ∷ ws) = (m at ≡ w) × Holds m (at + 1) ws

-- what LCL, ARG, THIS and THAT are while the first of these frames runs; for `start`, the last, LCL and ARG are 0
abbrev pub lcl_of : List Frame → ℕ
lcl_of [] = 0
lcl_of (f ∷ []) = 0
lcl_of (f ∷ g ∷ below) = 256 + words_in_use (g ∷ below) + length f.arguments + 5

abbrev pub arg_of : List Frame → ℕ
arg_of [] = 0
arg_of (f ∷ []) = 0
arg_of (f ∷ g ∷ below) = 256 + words_in_use (g ∷ below)

abbrev pub this_of : List Frame → ℕ
this_of [] = 0
this_of (f ∷ below) = f.this

abbrev pub that_of : List Frame → ℕ
that_of [] = 0
that_of (f ∷ below) = f.that

-- `address` leads from a place of a function's code, or of that of `start`, to the address of its instructions.
module _ (address : Option ℕ → ℕ → ℕ) where
  -- what a call saves of the frames that it is made in: the return address and the four registers
  abbrev pub words_saved : Frame → List Frame → List ℕ
  words_saved g below = address g.function g.place ∷ lcl_of (g ∷ below) ∷ arg_of (g ∷ below) ∷ this_of (g ∷ below) ∷ that_of (g ∷ below) ∷ []

  -- A frame's words on the stack, above those of the frames below it: its arguments, what its call saved, its locals, and its values, the
  -- topmost last. `start` has only values.
  abbrev pub own_words : Frame → List Frame → List ℕ
  own_words f [] = reverse f.values
  own_words f (g ∷ below) = (f.arguments ++ words_saved g below) ++ (f.locals ++ reverse f.values)

  abbrev pub Laid : (ℕ → ℕ) → List Frame → Type 0
  Laid m [] = Unit {0}
  Laid m (f ∷ below) = Laid m below × Holds m (256 + words_in_use below) (own_words f below)

  -- Of the words 13 to 15 nothing is said.
  pub record SameMemory (v : State) (m : ℕ → ℕ) : Type 0 where
    pub sp : m 0 ≡ 256 + words_in_use v.frames
    pub lcl : m 1 ≡ lcl_of v.frames
    pub arg : m 2 ≡ arg_of v.frames
    pub this : m 3 ≡ this_of v.frames
    pub that : m 4 ≡ that_of v.frames
    pub temps : (k : ℕ) → k < 8 → m (5 + k) ≡ slice_index v.temps k
    pub statics : (k : ℕ) → k < 240 → m (16 + k) ≡ slice_index v.statics k
    pub laid : Laid m v.frames
    pub words : (k : ℕ) → heap ≤ k → k < keyboard → m k ≡ slice_index v.words (k - heap)
