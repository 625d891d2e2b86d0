-- The order in which name faults are reported, and the first of them (book, chapters 9 to 11).
use Rattle.std.specs.Prelude.{◌≡◌, ◌<◌, ◌⊎◌, ℕ, suc, Bool, true, false, List, [], ◌∷◌, ◌++◌, Some, slice_get, if◌then◌else◌}
use Rattle.scan_text.specs.declared.Place.{Place}
use Rattle.jack_tree.specs.Syntax as tree
use Rattle.jack_names.specs.Faults.{NameDiagnostic, kind_number}
use Rattle.jack_names.specs.Using.{members, inner, Use, OfVariable, OfFront, OfCall, OfThis, OfString, OfMade, Body, File, files}
use Rattle.jack_names.specs.NameFaults.{names, Spot, Fails}
use Rattle.jack_names.specs.declared.fault.NameKind.{NameKind}
use Rattle.jack_names.specs.declared.fault.NameKind.TheVariants as kinds

-- kinds 1 to 4 come first, then 14, then 5 to 13
abbrev pub stage : NameKind → ℕ
stage kinds.FileName = 0
stage kinds.ClassTwice = 0
stage kinds.MemberTwice = 0
stage kinds.VariableTwice = 0
stage kinds.NoMain = 1
stage _ = 2

-- The first of these numbers that differ is less.
abbrev pub IsLess : List ℕ → List ℕ → Type 0
IsLess (m ∷ ms) (n ∷ ns) = (m < n) ⊎ ((m ≡ n) × IsLess ms ns)
IsLess _ _ = ⊥

-- The order of faults: by these stages, the folder before the operating system, by file, by the place in the file, and at one place by kind.
abbrev pub order : Spot → NameDiagnostic → List ℕ
order at told = stage told.kind ∷ (if at.shipped then 1 else 0) ∷ at.file ∷ at.part ∷ at.name ∷ kind_number told.kind ∷ at.call ∷ []

abbrev pub Before : Spot → NameDiagnostic → Spot → NameDiagnostic → Type 0
Before at told at' told' = IsLess (order at told) (order at' told')

-- the fault that fails and that comes before every other
pub record IsFirstFault (own os : List tree.ClassFile) (told : NameDiagnostic) : Type 0 where
  pub at : Spot
  pub fails : Fails own os at told
  pub first : (at' : Spot) (told' : NameDiagnostic) → Fails own os at' told'
      → (told' ≡ told) ⊎ Before at told at' told'

-- What a class declares, by part and number, at its place.
pub data Declares (c : tree.Class) : ℕ → ℕ → Place → Type 0 where
  Itself : Declares c 0 0 c.name.place
  AVariable : {j : ℕ} {x : tree.Name} → slice_get (names (members c.variables)) j ≡ Some x → Declares c 1 j x.place
  ASubroutine : {n : ℕ} {s : tree.Subroutine} → slice_get c.subroutines n ≡ Some s → Declares c (suc (suc n)) 0 s.name.place
  AnInner : {n j : ℕ} {s : tree.Subroutine} {x : tree.Name} → slice_get c.subroutines n ≡ Some s → slice_get (names (inner s)) j ≡ Some x → Declares c (suc (suc n)) (suc j) x.place

abbrev pub use_place : Use → Place
use_place (OfVariable x) = x.place
use_place (OfFront x) = x.place
use_place (OfCall o f n) = f.place
use_place (OfThis at) = at
use_place (OfString t) = t.place
use_place (OfMade m) = m.place

-- what a file uses, likewise
pub data Uses (f : File) : ℕ → ℕ → Place → Type 0 where
  AUse : {n j : ℕ} {b : Body} {u : Use} → slice_get f.bodies n ≡ Some b → slice_get b.uses j ≡ Some u → Uses f n j (use_place u)

-- by line, and in a line by column
abbrev pub IsEarlier : Place → Place → Type 0
IsEarlier p q = IsLess (p.line ∷ p.column ∷ []) (q.line ∷ q.column ∷ [])

abbrev pub Rise : (ℕ → ℕ → Place → Type 0) → Type 0
Rise At = (i j i' j' : ℕ) (p p' : Place) → At i j p → At i' j' p' → IsLess (i ∷ j ∷ []) (i' ∷ j' ∷ []) → IsEarlier p p'

-- In each file of the folder places rise from name to name, as in trees that a text spells. Nothing is assumed of the operating system's trees, five
-- of whose subroutines have no text, and the order above needs no places.
pub record PlacesRise (own os : List tree.ClassFile) : Type 0 where
  pub declared : (i : ℕ) (c : tree.ClassFile) → slice_get own i ≡ Some c → Rise (Declares c.class)
  pub used : (i : ℕ) (f : File) → slice_get (files own os false) i ≡ Some f → Rise (Uses f)

-- where a fault is in its file: by its place, or in the operating system by the order of its text
abbrev pub stands : Bool → Spot → NameDiagnostic → List ℕ
stands true at told = at.part ∷ at.name ∷ []
stands false at told = told.place.line ∷ told.place.column ∷ []

-- the order by stage, folder, file, place and kind
abbrev pub place_order : Spot → NameDiagnostic → List ℕ
place_order at told = stage told.kind ∷ (if at.shipped then 1 else 0) ∷ at.file ∷ (stands at.shipped at told ++ kind_number told.kind ∷ at.call ∷ [])

-- the fault that fails and that, by file, place and kind, comes before every other
pub record IsFirstByPlace (own os : List tree.ClassFile) (told : NameDiagnostic) : Type 0 where
  pub at : Spot
  pub fails : Fails own os at told
  pub first : (at' : Spot) (told' : NameDiagnostic) → Fails own os at' told'
      → (told' ≡ told) ⊎ IsLess (place_order at told) (place_order at' told')
