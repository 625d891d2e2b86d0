-- The stack of the chips whose parts are gone over, each within the next.
use Rattle.std.specs.Prelude.{◌≡◌, ℕ, ◌+◌, ◌*◌, ◌-◌, ◌<◌, false, List, [], ◌∷◌, ◌++◌, Option, Some, None, IsSome, is_none, length, slice_get, count_by}
use Rattle.hdl_tree.specs.declared.tree.Part.{Part}
use Rattle.hdl_tree.specs.declared.library.Entry.{Entry}
use Rattle.hdl_tree.specs.Chips.{Chips, find_chip, parts_of}
use Rattle.hdl_tree.specs.Writable.{is_among}
use Rattle.hdl_check.specs.Inner.Stacks.{from_bottom}
use Rattle.hdl_check.specs.Locations.{IsFaultless}
use Rattle.hdl_plans.specs.Plans.{IsSound}
use Rattle.hdl_plans.specs.Planned.{plan_of}
use Rattle.hdl_flatten.specs.declared.nest.Nested.{Nested}
use Rattle.hdl_flatten.specs.declared.nest.Search.{Search}
use Rattle.hdl_flatten.specs.declared.nest.Visit.{Visit}
use Rattle.hdl_flatten.specs.Inner.Nests.{AreAt, IsSearch}

-- the chips of the parts before stand at the places
pub record IsVisit (chips : Chips) (nest : List Nested) (visit : Visit) : Type 0 where
  pub there : slice_get chips.entries visit.number ≡ Some visit.entry.now
  pub front : List Part
  pub split : parts_of chips visit.entry.now ≡ front ++ visit.rest.now
  pub placed : AreAt chips nest (length nest) front visit.places.items

-- chip k at its first part
pub record IsBegun (chips : Chips) (k : ℕ) (visit : Visit) : Type 0 where
  pub number : visit.number ≡ k
  pub there : slice_get chips.entries k ≡ Some visit.entry.now
  pub rest : visit.rest.now ≡ parts_of chips visit.entry.now
  pub places : visit.places.items ≡ []

-- both are at the same chip
pub record HasSameChip (old new : Visit) : Type 0 where
  pub number : new.number ≡ old.number
  pub entry : new.entry.now ≡ old.entry.now

-- each part of the chip has a chip in the library
abbrev pub PartsAreThere : Chips → Entry → Type 0
PartsAreThere chips chip = (i : ℕ) (part : Part) → slice_get (parts_of chips chip) i ≡ Some part → IsSome (find_chip chips part.chip)

-- chip k is that of a part of this chip, and does not stand
pub record IsUnplaced (chips : Chips) (ranks : List (Option ℕ)) (chip : Entry) (k : ℕ) : Type 0 where
  pub part : Part
  pub place : ℕ
  pub there : slice_get (parts_of chips chip) place ≡ Some part
  pub within : k < length chips.entries
  pub found : find_chip chips part.chip ≡ slice_get chips.entries k
  pub unplaced : slice_get ranks k ≡ Some None

-- the chip of the visit is put after those that stand
pub record IsSettled (visit : Visit) (old new : List Nested) : Type 0 where
  pub nested : Nested
  pub number : nested.number ≡ visit.number
  pub parts : nested.parts.items ≡ visit.places.items
  pub longer : new ≡ old ++ nested ∷ []

-- ---- the stack, from its top on

-- the names of their chips
abbrev pub names_of : List Visit → List (List ℕ)
names_of [] = []
names_of (v ∷ vs) = v.entry.now.name ∷ names_of vs

-- the chip at the bottom is the top chip
abbrev pub IsFirst : ℕ → List Visit → ℕ → Type 0
IsFirst top [] k = k ≡ top
IsFirst top (v ∷ vs) k = Unit {0}

-- a chip that does not stand, which has no fault where it is within the chips below it
pub record IsStanding (chips : Chips) (search : Search) (top : ℕ) (visit : Visit) (below : List Visit) : Type 0 where
  pub right : IsVisit chips search.chips.items visit
  pub unplaced : slice_get search.ranks.items visit.number ≡ Some None
  pub apart : is_among visit.entry.now.name (names_of below) ≡ false
  pub name : List ℕ
  pub found : find_chip chips name ≡ Some visit.entry.now
  pub faultless : IsFaultless chips (names_of (visit ∷ below)) visit.entry.now
  pub depth : ℕ
  pub deep : depth + length below ≡ length chips.entries
  pub sound : IsSound depth chips (plan_of chips) visit.entry.now
  pub first : IsFirst top below visit.number

-- all of them do so
abbrev pub AreStanding : Chips → Search → ℕ → List Visit → Type 0
AreStanding chips search top [] = Unit {0}
AreStanding chips search top (v ∷ vs) = IsStanding chips search top v vs × AreStanding chips search top vs

-- the top stands where the stack is empty
abbrev pub IsEnded : Search → ℕ → List Visit → Type 0
IsEnded search top [] = (r : ℕ) × (slice_get search.ranks.items top ≡ Some (Some r))
IsEnded search top (v ∷ vs) = Unit {0}

-- the stack, as the code holds it, while the search goes on
pub record IsStack (chips : Chips) (top : ℕ) (search : Search) (visits : List Visit) : Type 0 where
  pub search_is : IsSearch chips search.ranks.items search.chips.items
  pub stack : List Visit
  pub items : visits ≡ from_bottom stack
  pub standing : AreStanding chips search top stack
  pub ended : IsEnded search top stack

-- Each chip that comes to stand takes one from the first number; each that comes on the stack takes one from the rest.
abbrev pub work_left : Search → ℕ → ℕ
work_left search high = count_by is_none search.ranks.items * (length search.ranks.items + 2) + (length search.ranks.items + 1 - high)
