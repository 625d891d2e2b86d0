-- The first fault of a chip, from what was found in its parts.
use Rattle.std.proofs.Common.{◌≡◌, ℕ, ◌<◌, ◌≤◌, ◌⊎◌, inl, inr, Bool, false, cond, List, ◌∷◌, Option, Some, None, refl, ap, subst, ◌∙◌, arith}
use Rattle.std.specs.Prelude.{slice_get}
use Rattle.hdl_tree.specs.declared.tree.Part.{Part}
use Rattle.hdl_tree.specs.declared.library.Entry.{Entry}
use Rattle.hdl_tree.specs.Chips.{Chips, end_of, parts_of}
use Rattle.hdl_tree.specs.Writable.{is_among}
use Rattle.hdl_check.specs.declared.fault.NamedFault.{NamedFault}
use Rattle.hdl_check.specs.Faults.{fault_in}
use Rattle.hdl_check.specs.declared.fault.FaultKind.TheVariants as kinds
use Rattle.hdl_check.specs.Faults.{pin_fault, body_fault, part_fault_by}
use Rattle.hdl_check.specs.Locations.{Location, AtPin, AtBody, AtPart, Inside, AtConnection, IsEarlier, unless, at_inner, inner_of, fault_of_part, fault_of_connection, fault_at, IsFaultless, IsFirstFault}
use Rattle.hdl_check.specs.Inner.Progress.{IsProgress, Avoids, AreOpen, is_open, PartIsEntered, PartIsFine, PartFails, PartsFail, PartsAreFine, ChipIsFine, IsOf, IsOfParts}
use Rattle.hdl_check.specs.declared.stage.Stage.{Stage}
use Rattle.hdl_check.specs.declared.stage.Stage.TheVariants.{Done}

-- open chips are not done
open_avoids_by : (o : Option Stage) (q : ℕ) → o ≡ Some (Done q) → is_open o ≡ false
open_avoids_by o q e = ap is_open e

pub open_avoids : (chips : Chips) (stages : List Stage) (done : ℕ) (names : List (List ℕ)) → AreOpen chips stages names → Avoids chips stages done names
open_avoids chips stages done names opened k q entry e lt there = opened k entry there ∙ open_avoids_by (slice_get stages k) q e

-- a part that is fine has no fault
module _ (chips : Chips) (stages : List Stage) (done : ℕ) (progress : IsProgress chips stages done) (names : List (List ℕ)) (avoids : Avoids chips stages done names) (entry : Entry) where
  pub part_none : (i : ℕ) (part : Part) → slice_get (parts_of chips entry) i ≡ Some part → PartIsEntered chips stages part → fault_of_part chips names entry (slice_get (parts_of chips entry) i) ≡ None
  part_none i part there fine =
      let lt : fine.rank < done = progress.ranked fine.number fine.rank fine.done in
      let apart : is_among fine.inner.name names ≡ false = avoids fine.number fine.rank fine.inner fine.done lt fine.there in
      ap (fault_of_part chips names entry) there
      ∙ ap (part_fault_by names entry.name part.chip) fine.found
      ∙ ap (λ (b : Bool). cond b (Some (fault_in entry.name kinds.Recursive part.chip)) None) apart

  pub inside_none : (i : ℕ) (part : Part) (s : Location) → slice_get (parts_of chips entry) i ≡ Some part → PartIsEntered chips stages part → fault_at chips names entry (Inside i s) ≡ None
  inside_none i part s there fine =
      let lt : fine.rank < done = progress.ranked fine.number fine.rank fine.done in
      let low : Avoids chips stages fine.rank names = λ k q other e below at. avoids k q other e (omega arith) at in
      ap (λ o. at_inner (λ inner. fault_at chips (inner.name ∷ names) inner s) (inner_of chips o)) there
      ∙ ap (at_inner (λ inner. fault_at chips (inner.name ∷ names) inner s)) fine.found
      ∙ progress.faultless fine.number fine.rank fine.inner fine.done fine.there names low s

  connection_none : (i j : ℕ) (part : Part) → slice_get (parts_of chips entry) i ≡ Some part → PartIsFine chips stages entry i part → fault_of_connection chips entry i (slice_get (parts_of chips entry) i) j ≡ None
  connection_none i j part there fine = ap (λ o. fault_of_connection chips entry i o j) there ∙ fine.connections j

  no_part : (s : Location) (i : ℕ) → IsOf i s → slice_get (parts_of chips entry) i ≡ None → fault_at chips names entry s ≡ None
  no_part (AtPin k) i of e = absurd of
  no_part AtBody i of e = absurd of
  no_part (AtPart j) i of e = ap (λ x. fault_of_part chips names entry (slice_get (parts_of chips entry) x)) of ∙ ap (fault_of_part chips names entry) e
  no_part (Inside j s) i of e = ap (λ x. fault_at chips names entry (Inside x s)) of ∙ ap (λ o. at_inner (λ inner. fault_at chips (inner.name ∷ names) inner s) (inner_of chips o)) e
  no_part (AtConnection j k) i of e = ap (λ x. fault_of_connection chips entry x (slice_get (parts_of chips entry) x) k) of ∙ ap (λ o. fault_of_connection chips entry i o k) e

  some_part : (s : Location) (i : ℕ) (part : Part) → IsOf i s → slice_get (parts_of chips entry) i ≡ Some part → PartIsFine chips stages entry i part → fault_at chips names entry s ≡ None
  some_part (AtPin k) i part of e fine = absurd of
  some_part AtBody i part of e fine = absurd of
  some_part (AtPart j) i part of e fine = ap (λ x. fault_of_part chips names entry (slice_get (parts_of chips entry) x)) of ∙ part_none i part e fine.entered
  some_part (Inside j s) i part of e fine = ap (λ x. fault_at chips names entry (Inside x s)) of ∙ inside_none i part s e fine.entered
  some_part (AtConnection j k) i part of e fine = ap (λ x. fault_of_connection chips entry x (slice_get (parts_of chips entry) x) k) of ∙ connection_none i k part e fine

  fine_by : (s : Location) (i : ℕ) (o : Option Part) → slice_get (parts_of chips entry) i ≡ o → IsOf i s → ((part : Part) → slice_get (parts_of chips entry) i ≡ Some part → PartIsFine chips stages entry i part) → fault_at chips names entry s ≡ None
  fine_by s i None e of fine = no_part s i of e
  fine_by s i (Some part) e of fine = some_part s i part of e (fine part e)

  pub fine_at : (s : Location) (i : ℕ) → IsOf i s → ((part : Part) → slice_get (parts_of chips entry) i ≡ Some part → PartIsFine chips stages entry i part) → fault_at chips names entry s ≡ None
  fine_at s i of fine = fine_by s i (slice_get (parts_of chips entry) i) refl of fine

  -- a chip that is fine has no fault
  pub fine_chip : ChipIsFine chips stages entry → IsFaultless chips names entry
  fine_chip fine (AtPin k) = fine.pins k
  fine_chip fine AtBody = fine.body
  fine_chip fine (AtPart j) = fine_at (AtPart j) j refl (fine.parts j)
  fine_chip fine (Inside j s) = fine_at (Inside j s) j refl (fine.parts j)
  fine_chip fine (AtConnection j k) = fine_at (AtConnection j k) j refl (fine.parts j)

  -- the first fault of part i, where the parts before are fine
  part_first : (i : ℕ) (f : NamedFault) (fails : PartFails chips names entry i f) → PartsAreFine chips stages entry i → (s : Location) (j : ℕ) → IsOf j s → (j < i) ⊎ (j ≡ i) → IsEarlier s fails.place → fault_at chips names entry s ≡ None
  part_first i f fails before s j of (inl lt) earlier = fine_at s j of (λ part there. before j part lt there)
  part_first i f fails before s j of (inr e) earlier = fails.first s (subst (λ x. IsOf x s) e of) earlier

  le_cases : (j i : ℕ) → j ≤ i → (j < i) ⊎ (j ≡ i)
  le_cases j i h = grind arith

  number_le : (s t : Location) (j i : ℕ) → IsOf j s → IsOf i t → IsEarlier s t → j ≤ i
  number_le (AtPin k) t j i of ot h = absurd of
  number_le AtBody t j i of ot h = absurd of
  number_le s (AtPin k) j i of ot h = absurd ot
  number_le s AtBody j i of ot h = absurd ot
  number_le (AtPart a) (AtPart b) j i of ot h = omega arith
  number_le (AtPart a) (Inside b t) j i of ot h = omega arith
  number_le (AtPart a) (AtConnection b l) j i of ot h = omega arith
  number_le (Inside a s) (AtPart b) j i of ot h = omega arith
  number_le (Inside a s) (Inside b t) j i of ot (inl h) = omega arith
  number_le (Inside a s) (Inside b t) j i of ot (inr h) = let e : a ≡ b = h.0 in omega arith
  number_le (Inside a s) (AtConnection b l) j i of ot h = omega arith
  number_le (AtConnection a k) (AtPart b) j i of ot h = omega arith
  number_le (AtConnection a k) (Inside b t) j i of ot h = omega arith
  number_le (AtConnection a k) (AtConnection b l) j i of ot (inl h) = omega arith
  number_le (AtConnection a k) (AtConnection b l) j i of ot (inr h) = let e : a ≡ b = h.0 in omega arith

  of_parts : (t : Location) (i : ℕ) → IsOf i t → IsOfParts t
  of_parts (AtPin k) i of = of
  of_parts AtBody i of = of
  of_parts (AtPart j) i of = tt
  of_parts (Inside j s) i of = tt
  of_parts (AtConnection j k) i of = tt

  its_part : (s : Location) → IsOfParts s → (j : ℕ) × IsOf j s
  its_part (AtPin k) of = absurd of
  its_part AtBody of = absurd of
  its_part (AtPart j) of = (j, refl)
  its_part (Inside j s) of = (j, refl)
  its_part (AtConnection j k) of = (j, refl)

  pub parts_fail : (i : ℕ) (f : NamedFault) → PartsAreFine chips stages entry i → PartFails chips names entry i f → PartsFail chips names entry f
  parts_fail i f before fails = record {
    place = fails.place;
    parts = of_parts fails.place i fails.part;
    there = fails.there;
    first = λ s of earlier. let p = its_part s of in part_first i f fails before s p.0 p.1 (le_cases p.0 i (number_le s fails.place p.0 i p.1 fails.part earlier)) earlier;
  }

  -- the first fault of the parts is that of the chip, where its pins and its body are right
  chip_first : (f : NamedFault) (fails : PartsFail chips names entry f) → ((k : ℕ) → unless (end_of chips.memories entry) (pin_fault entry k) ≡ None) → unless (end_of chips.memories entry) (body_fault entry) ≡ None → (s : Location) → IsEarlier s fails.place → fault_at chips names entry s ≡ None
  chip_first f fails pins body (AtPin k) earlier = pins k
  chip_first f fails pins body AtBody earlier = body
  chip_first f fails pins body (AtPart j) earlier = fails.first (AtPart j) tt earlier
  chip_first f fails pins body (Inside j s) earlier = fails.first (Inside j s) tt earlier
  chip_first f fails pins body (AtConnection j k) earlier = fails.first (AtConnection j k) tt earlier

  pub chip_fails : (f : NamedFault) → ((k : ℕ) → unless (end_of chips.memories entry) (pin_fault entry k) ≡ None) → unless (end_of chips.memories entry) (body_fault entry) ≡ None → PartsFail chips names entry f → IsFirstFault chips names entry f
  chip_fails f pins body fails = record { place = fails.place; there = fails.there; first = λ s earlier. chip_first f fails pins body s earlier }
