-- The chips that are looked at, each for a part of the one before it.
use Rattle.std.specs.Prelude.{◌≡◌, ℕ, zero, suc, ◌+◌, ◌-◌, ◌<◌, ◌≤◌, ◌⊎◌, List, [], ◌∷◌, ◌++◌, Option, Some, None, length, slice_get}
use Rattle.hdl_tree.specs.declared.tree.Part.{Part}
use Rattle.hdl_tree.specs.declared.library.Entry.{Entry}
use Rattle.hdl_tree.specs.Chips.{Chips, end_of, parts_of}
use Rattle.hdl_plans.specs.Loops.{IsLoop}
use Rattle.hdl_loops.specs.Inner.Knowing.{place_of, IsDone, PartDone, NestsAt}
use Rattle.hdl_loops.specs.declared.find.Frame.{Frame}
use Rattle.hdl_loops.specs.declared.known.Known.{Known}

abbrev pub parts_in : Chips → Option Entry → List Part
parts_in chips None = []
parts_in chips (Some entry) = parts_of chips entry

abbrev pub parts_at : Chips → ℕ → List Part
parts_at chips k = parts_in chips (slice_get chips.entries k)

-- in this place of the stack stands this chip
abbrev pub StandsAt : List Frame → ℕ → ℕ → Type 0
StandsAt fs j k = (f : Frame) × (slice_get fs j ≡ Some f) × (f.chip ≡ k)

-- a chip of the stack: its loops are the top's, and its parts up to the next are done, or the one above is
pub record IsFrame (chips : Chips) (known : List (Option Known)) (top : ℕ) (fs : List Frame) (j : ℕ) (f : Frame) : Type 0 where
  pub there : f.chip < length chips.entries
  pub within : f.next ≤ length (parts_at chips f.chip)
  pub no_end : (chip : Entry) → slice_get chips.entries f.chip ≡ Some chip
      → end_of chips.memories chip ≡ None
  pub outward : (chip outer : Entry) (nets : List (List ℕ))
      → slice_get chips.entries f.chip ≡ Some chip → slice_get chips.entries top ≡ Some outer
      → IsLoop chips chip nets → IsLoop chips outer nets
  pub nests : NestsAt f.depth chips f.chip
  pub done : (i : ℕ) (part : Part) (k : ℕ) → i < f.next
      → slice_get (parts_at chips f.chip) i ≡ Some part → place_of chips.entries part.chip ≡ Some k
      → IsDone chips known k ⊎ StandsAt fs (suc j) k

-- below all stands the top, until it is done
pub record IsStack (chips : Chips) (known : List (Option Known)) (top : ℕ) (fs : List Frame) : Type 0 where
  pub frames : (j : ℕ) (f : Frame) → slice_get fs j ≡ Some f → IsFrame chips known top fs j f
  pub root : IsDone chips known top ⊎ StandsAt fs 0 top

-- one chip alone stands on the stack, with no part left
pub record HasOnlyLast (chips : Chips) (k : ℕ) (fs : List Frame) : Type 0 where
  pub frame : Frame
  pub alone : fs ≡ frame ∷ []
  pub chip : frame.chip ≡ k
  pub ended : length (parts_at chips k) ≤ frame.next

-- ---- the steps that are left

abbrev pub times : ℕ → ℕ → ℕ
times zero p = 0
times (suc n) p = p + times n p

abbrev pub power : ℕ → ℕ → ℕ
power b zero = 1
power b (suc d) = times b (power b d)

-- more than any chip has parts
abbrev pub many : Chips → List Entry → ℕ
many chips [] = 2
many chips (e ∷ es) = length (parts_of chips e) + many chips es

abbrev pub frame_weight : Chips → Frame → ℕ
frame_weight chips f = times (suc (length (parts_at chips f.chip)) - f.next) (power (many chips chips.entries) f.depth)

abbrev pub weight : Chips → List Frame → ℕ
weight chips [] = 0
weight chips (f ∷ fs) = frame_weight chips f + weight chips fs

-- the chip of a part is put on the stack; or nothing is, and it is known, or an end
pub record IsPushed (chips : Chips) (part : Part) (depth : ℕ) (old new : List Frame) : Type 0 where
  pub k : ℕ
  pub placed : place_of chips.entries part.chip ≡ Some k
  pub there : k < length chips.entries
  pub no_end : (chip : Entry) → slice_get chips.entries k ≡ Some chip
      → end_of chips.memories chip ≡ None
  pub more : new ≡ old ++ record { chip = k; next = 0; depth = depth } ∷ []

abbrev pub IsEntered : Chips → List (Option Known) → Part → ℕ → List Frame → List Frame → Type 0
IsEntered chips known part depth old new = ((new ≡ old) × PartDone chips known part) ⊎ IsPushed chips part depth old new
