-- The chips of a tree, each once, after those in it.
use Rattle.std.specs.Prelude.{◌≡◌, ℕ, ◌<◌, List, [], ◌∷◌, ◌++◌, Option, Some, length, slice_get}
use Rattle.hdl_tree.specs.declared.tree.Part.{Part}
use Rattle.hdl_tree.specs.declared.library.Entry.{Entry}
use Rattle.hdl_tree.specs.Chips.{Chips, find_chip, parts_of}
use Rattle.hdl_check.specs.Locations.{IsFaultless}
use Rattle.hdl_plans.specs.Plans.{IsSound}
use Rattle.hdl_plans.specs.Planned.{plan_of}
use Rattle.hdl_flatten.specs.declared.nest.Nested.{Nested}
use Rattle.hdl_flatten.specs.declared.nest.Nest.{Nest}

-- a chip of the library without faults
pub record IsFine (chips : Chips) (chip : Entry) : Type 0 where
  pub name : List ℕ
  pub found : find_chip chips name ≡ Some chip
  pub outer : List (List ℕ)
  pub faultless : IsFaultless chips outer chip

-- chip k is fine, and its parts nest at most d deep
pub record IsFineAt (chips : Chips) (d k : ℕ) : Type 0 where
  pub chip : Entry
  pub there : slice_get chips.entries k ≡ Some chip
  pub fine : IsFine chips chip
  pub sound : IsSound d chips (plan_of chips) chip

-- the chip of the part stands at place r, before i
pub record StandsAt (chips : Chips) (nest : List Nested) (i : ℕ) (part : Part) (r : ℕ) : Type 0 where
  pub nested : Nested
  pub chip : Entry
  pub before : r < i
  pub at : slice_get nest r ≡ Some nested
  pub there : slice_get chips.entries nested.number ≡ Some chip
  pub found : find_chip chips part.chip ≡ Some chip

-- the chips of the parts stand at these places
abbrev pub AreAt : Chips → List Nested → ℕ → List Part → List ℕ → Type 0
AreAt chips nest i [] [] = Unit {0}
AreAt chips nest i [] (r ∷ rs) = ⊥
AreAt chips nest i (p ∷ ps) [] = ⊥
AreAt chips nest i (p ∷ ps) (r ∷ rs) = StandsAt chips nest i p r × AreAt chips nest i ps rs

pub record IsNested (chips : Chips) (nest : List Nested) (i : ℕ) (nested : Nested) : Type 0 where
  pub chip : Entry
  pub there : slice_get chips.entries nested.number ≡ Some chip
  pub fine : IsFine chips chip
  pub parts : AreAt chips nest i (parts_of chips chip) nested.parts.items

-- each chip stands after those of its parts
abbrev pub IsNest : Chips → List Nested → Type 0
IsNest chips nest = (i : ℕ) (nested : Nested) → slice_get nest i ≡ Some nested → IsNested chips nest i nested

-- chip k of the library stands at place r
pub record HasNumber (nest : List Nested) (r k : ℕ) : Type 0 where
  pub nested : Nested
  pub at : slice_get nest r ≡ Some nested
  pub number : nested.number ≡ k

-- how far a search is: which chips stand, and where
pub record IsSearch (chips : Chips) (ranks : List (Option ℕ)) (nest : List Nested) : Type 0 where
  pub long : length ranks ≡ length chips.entries
  pub ranked : (k r : ℕ) → slice_get ranks k ≡ Some (Some r) → HasNumber nest r k
  pub right : IsNest chips nest

pub record Grows (old new : List Nested) : Type 0 where
  pub more : List Nested
  pub longer : new ≡ old ++ more

-- the chips of the tree of the chip of this name, which stands at its place
pub record IsNestOf (chips : Chips) (name : List ℕ) (nest : Nest) : Type 0 where
  pub chip : Entry
  pub found : find_chip chips name ≡ Some chip
  pub right : IsNest chips nest.chips.items
  pub nested : Nested
  pub at : slice_get nest.chips.items nest.top ≡ Some nested
  pub there : slice_get chips.entries nested.number ≡ Some chip
