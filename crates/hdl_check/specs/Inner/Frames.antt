-- The stack of a search: the chips in whose texts it stands, each within the next.
use Rattle.std.specs.Prelude.{◌≡◌, ℕ, ◌+◌, take, false, List, [], ◌∷◌, Some, slice_get}
use Rattle.hdl_tree.specs.declared.tree.Part.{Part}
use Rattle.hdl_tree.specs.Chips.{Chips, parts_of}
use Rattle.hdl_tree.specs.Writable.{is_among}
use Rattle.hdl_check.specs.Inner.Marked.{HasMarks}
use Rattle.hdl_check.specs.Inner.Stacks.{from_bottom}
use Rattle.hdl_check.specs.Inner.Progress.{IsProgress, AreOpen, IsDone, PartsAreFine, HeadIsFine, IsInner, NetsFind}
use Rattle.hdl_check.specs.Faults.{drivers_of, bits_driven}
use Rattle.hdl_check.specs.declared.stage.Stage.{Stage}
use Rattle.hdl_check.specs.declared.walk.Frame.{Frame}

-- the tables are those of the chip, up to the part at which the search stands
pub record IsWired (chips : Chips) (frame : Frame) : Type 0 where
  pub there : slice_get chips.entries frame.number ≡ Some frame.entry.now
  pub parts : frame.parts.now ≡ parts_of chips frame.entry.now
  pub nets : NetsFind frame.nets (drivers_of chips (parts_of chips frame.entry.now))
  pub driven : HasMarks frame.driven
      (bits_driven (drivers_of chips (take frame.place (parts_of chips frame.entry.now))))

-- chip k at its first part
pub record IsBegun (chips : Chips) (k : ℕ) (frame : Frame) : Type 0 where
  pub number : frame.number ≡ k
  pub place : frame.place ≡ 0
  pub wired : IsWired chips frame
  pub head : HeadIsFine chips frame.entry.now

-- the text is right up to the part at which the search stands
pub record IsFrame (chips : Chips) (stages : List Stage) (frame : Frame) : Type 0 where
  pub wired : IsWired chips frame
  pub head : HeadIsFine chips frame.entry.now
  pub fine : PartsAreFine chips stages frame.entry.now frame.place

pub record HasSameChip (old new : Frame) : Type 0 where
  pub number : new.number ≡ old.number
  pub entry : new.entry.now ≡ old.entry.now

pub record IsOneFurther (old new : Frame) : Type 0 where
  pub same : HasSameChip old new
  pub place : new.place ≡ old.place + 1

-- chip k is that of the part at which the search stands
pub record WaitsFor (chips : Chips) (frame : Frame) (k : ℕ) : Type 0 where
  pub part : Part
  pub there : slice_get (parts_of chips frame.entry.now) frame.place ≡ Some part
  pub inner : IsInner chips part k

-- ---- the stack, from its top on

abbrev pub names_of : List Frame → List (List ℕ)
names_of [] = []
names_of (f ∷ fs) = f.entry.now.name ∷ names_of fs

-- chip k stands in the chip below it, or else it is the top of the tree
abbrev pub StandsIn : Chips → ℕ → List Frame → ℕ → Type 0
StandsIn chips top [] k = k ≡ top
StandsIn chips top (f ∷ fs) k = WaitsFor chips f k

pub record IsStanding (chips : Chips) (stages : List Stage) (top : ℕ) (frame : Frame) (below : List Frame) : Type 0 where
  pub right : IsFrame chips stages frame
  pub apart : is_among frame.entry.now.name (names_of below) ≡ false
  pub inside : StandsIn chips top below frame.number

abbrev pub AreStanding : Chips → List Stage → ℕ → List Frame → Type 0
AreStanding chips stages top [] = Unit {0}
AreStanding chips stages top (f ∷ fs) = IsStanding chips stages top f fs × AreStanding chips stages top fs

-- the search is at its end where the stack is empty
abbrev pub IsEnded : List Stage → ℕ → List Frame → Type 0
IsEnded stages top [] = IsDone stages top
IsEnded stages top (f ∷ fs) = Unit {0}

pub record IsSearch (chips : Chips) (top : ℕ) (stages : List Stage) (done : ℕ) (frames : List Frame) : Type 0 where
  pub progress : IsProgress chips stages done
  pub stack : List Frame
  pub items : frames ≡ from_bottom stack
  pub opened : AreOpen chips stages (names_of stack)
  pub standing : AreStanding chips stages top stack
  pub ended : IsEnded stages top stack

-- the chip on top, and those below it
pub record IsOnTop (chips : Chips) (top : ℕ) (stages : List Stage) (done : ℕ) (frames : List Frame) (frame : Frame) : Type 0 where
  pub progress : IsProgress chips stages done
  pub below : List Frame
  pub items : frames ≡ from_bottom below
  pub opened : AreOpen chips stages (names_of (frame ∷ below))
  pub standing : IsStanding chips stages top frame below
  pub others : AreStanding chips stages top below
