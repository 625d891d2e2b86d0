-- The places of a chip's text and of the texts of the chips in it, and the first fault.
use Rattle.std.specs.Prelude.{◌≡◌, ℕ, ◌<◌, ◌≤◌, ◌⊎◌, List, ◌∷◌, Option, Some, None, slice_get}
use Rattle.hdl_tree.specs.declared.tree.Part.{Part}
use Rattle.hdl_tree.specs.declared.library.Entry.{Entry}
use Rattle.hdl_tree.specs.declared.ends.End.{End}
use Rattle.hdl_tree.specs.Chips.{Chips, end_of, find_chip, parts_of}
use Rattle.hdl_check.specs.declared.fault.NamedFault.{NamedFault}
use Rattle.hdl_check.specs.Faults.{pin_fault, body_fault, part_fault, connection_fault_of}

-- a place: a pin, counted over inputs and outputs; the body; a part's chip name; a place in the text of a part's chip; a
-- connection of a part
pub data Location : Type 0 where
  AtPin : (k : ℕ) → Location
  AtBody : Location
  AtPart : (i : ℕ) → Location
  Inside : (i : ℕ) → Location → Location
  AtConnection : (i j : ℕ) → Location

-- Depth first, in text order: pins come first. Then comes each part: its chip's name, then what stands in that chip, then the part's
-- connections.
abbrev pub IsEarlier : Location → Location → Type 0
IsEarlier (AtPin k) (AtPin l) = k < l
IsEarlier (AtPin k) t = Unit {0}
IsEarlier s (AtPin l) = ⊥
IsEarlier AtBody AtBody = ⊥
IsEarlier AtBody t = Unit {0}
IsEarlier s AtBody = ⊥
IsEarlier (AtPart i) (AtPart j) = i < j
IsEarlier (AtPart i) (Inside j t) = i ≤ j
IsEarlier (AtPart i) (AtConnection j l) = i ≤ j
IsEarlier (Inside i s) (AtPart j) = i < j
IsEarlier (Inside i s) (Inside j t) = (i < j) ⊎ ((i ≡ j) × IsEarlier s t)
IsEarlier (Inside i s) (AtConnection j l) = i ≤ j
IsEarlier (AtConnection i k) (AtPart j) = i < j
IsEarlier (AtConnection i k) (Inside j t) = i < j
IsEarlier (AtConnection i k) (AtConnection j l) = (i < j) ⊎ ((i ≡ j) × (k < l))

abbrev pub fault_of_part : Chips → List (List ℕ) → Entry → Option Part → Option NamedFault
fault_of_part chips outer entry None = None
fault_of_part chips outer entry (Some part) = part_fault chips outer entry.name part

abbrev pub fault_of_connection : Chips → Entry → ℕ → Option Part → ℕ → Option NamedFault
fault_of_connection chips entry i None j = None
fault_of_connection chips entry i (Some part) j = connection_fault_of chips entry i part j

-- the chip of a part
abbrev pub inner_of : Chips → Option Part → Option Entry
inner_of chips None = None
inner_of chips (Some part) = find_chip chips part.chip

abbrev pub at_inner : (Entry → Option NamedFault) → Option Entry → Option NamedFault
at_inner fault None = None
at_inner fault (Some inner) = fault inner

abbrev pub unless : Option End → Option NamedFault → Option NamedFault
unless None fault = fault
unless (Some e) fault = None

-- What is wrong at a place of a chip; the names are those of the chips that it stands in, its own first. An end has no text.
abbrev pub fault_at : Chips → List (List ℕ) → Entry → Location → Option NamedFault
fault_at chips outer entry (AtPin k) = unless (end_of chips.memories entry) (pin_fault entry k)
fault_at chips outer entry AtBody = unless (end_of chips.memories entry) (body_fault entry)
fault_at chips outer entry (AtPart i) = fault_of_part chips outer entry (slice_get (parts_of chips entry) i)
fault_at chips outer entry (Inside i s) =
    at_inner (λ inner. fault_at chips (inner.name ∷ outer) inner s) (inner_of chips (slice_get (parts_of chips entry) i))
fault_at chips outer entry (AtConnection i j) = fault_of_connection chips entry i (slice_get (parts_of chips entry) i) j

-- nothing is wrong in a chip that stands in these chips
abbrev pub IsFaultless : Chips → List (List ℕ) → Entry → Type 0
IsFaultless chips outer entry = (s : Location) → fault_at chips outer entry s ≡ None

-- the first fault in a chip that stands in these chips
pub record IsFirstFault (chips : Chips) (outer : List (List ℕ)) (entry : Entry) (f : NamedFault) : Type 0 where
  pub place : Location
  pub there : fault_at chips outer entry place ≡ Some f
  pub first : (s : Location) → IsEarlier s place → fault_at chips outer entry s ≡ None

-- A chip has at most one first fault, and none where nothing is wrong.
pub record OneFault (chips : Chips) (outer : List (List ℕ)) (entry : Entry) : Type 0 where
  pub one : (f g : NamedFault) → IsFirstFault chips outer entry f
      → IsFirstFault chips outer entry g → f ≡ g
  pub not_both : (f : NamedFault) → IsFirstFault chips outer entry f
      → IsFaultless chips outer entry → ⊥

abbrev pub OrderLaw : Type 0
OrderLaw = (chips : Chips) (outer : List (List ℕ)) (entry : Entry) → OneFault chips outer entry
