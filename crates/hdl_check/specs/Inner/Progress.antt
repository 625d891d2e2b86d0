-- Where a depth first search of chips stands, and what it has found.
use Rattle.std.specs.Prelude.{◌≡◌, ℕ, suc, ◌<◌, ◌++◌, map, take, Bool, true, false, List, [], ◌∷◌, Option, Some, None, length, slice_get, Result, Ok, Err}
use Rattle.hdl_tree.specs.declared.tree.Pin.{Pin}
use Rattle.hdl_tree.specs.declared.tree.Part.{Part}
use Rattle.hdl_tree.specs.declared.library.Entry.{Entry}
use Rattle.hdl_tree.specs.declared.ends.Memories.{Memories}
use Rattle.hdl_tree.specs.Chips.{Chips, end_of, find_chip, parts_of}
use Rattle.name_table.specs.Names.{find_value}
use Rattle.hdl_tree.specs.Writable.{is_among}
use Rattle.hdl_check.specs.Whole.{AreDistinct, Tells}
use Rattle.name_table.specs.Tables.{table_of, Finds}
use Rattle.hdl_check.specs.declared.fault.NamedFault.{NamedFault}
use Rattle.hdl_check.specs.Faults.{Driver, pin_name, ports_of, drivers_of, net_width, twice_fault, pin_fault, body_fault, connection_fault_of}
use Rattle.hdl_check.specs.Locations.{Location, AtPin, AtBody, AtPart, Inside, AtConnection, IsEarlier, unless, fault_at, IsFaultless, IsFirstFault}
use Rattle.hdl_check.specs.declared.check.Port.{Port}
use Rattle.hdl_check.specs.declared.check.Scope.{Scope}
use Rattle.name_table.specs.declared.Table.{Table}
use Rattle.hdl_check.specs.declared.catalog.Catalog.{Catalog}
use Rattle.hdl_check.specs.declared.stage.Stage.{Stage}
use Rattle.hdl_check.specs.declared.stage.Stage.TheVariants.{New, Open, Done}
use Rattle.hdl_check.specs.declared.fault.ElabFault.{ElabFault}

-- ---- the library as the code has it

abbrev pub chips_of : Catalog → Chips
chips_of catalog = record { entries = catalog.entries.now; memories = catalog.memories }

abbrev pub numbered_entries : ℕ → List Entry → List (List ℕ × ℕ)
numbered_entries n [] = []
numbered_entries n (entry ∷ entries) = (entry.name, n) ∷ numbered_entries (suc n) entries

pub record ArePorts (entries : List Entry) (tables : List (Table Port)) : Type 0 where
  pub as_many : length tables ≡ length entries
  pub each : (k : ℕ) (entry : Entry) (table : Table Port) → slice_get entries k ≡ Some entry
      → slice_get tables k ≡ Some table → Finds table (ports_of entry.chip)

pub record IsCatalog (catalog : Catalog) : Type 0 where
  pub distinct : AreDistinct catalog.entries.now
  pub named : Finds catalog.names (numbered_entries 0 catalog.entries.now)
  pub ported : ArePorts catalog.entries.now catalog.ports.items

pub record IsCatalogOf (catalog : Catalog) (wanted : List Entry) (wants : Memories) : Type 0 where
  pub right : IsCatalog catalog
  pub entries : catalog.entries.now ≡ wanted
  pub memories : catalog.memories ≡ wants

-- the table has the widths of the nets that these drive
abbrev pub NetsFind : Table ℕ → List Driver → Type 0
NetsFind table drivers = (name : List ℕ) → find_value name (table_of table) ≡ net_width name drivers

-- ---- the search

abbrev pub is_new : Stage → Bool
is_new New = true
is_new s = false

abbrev pub is_open : Option Stage → Bool
is_open (Some Open) = true
is_open s = false

-- of the chips that are done with a rank below r, none has one of these names
abbrev pub Avoids : Chips → List Stage → ℕ → List (List ℕ) → Type 0
Avoids chips stages r names = (k q : ℕ) (entry : Entry) → slice_get stages k ≡ Some (Done q) → q < r → slice_get chips.entries k ≡ Some entry → is_among entry.name names ≡ false

-- A chip that is done has no fault, wherever it stands outside the chips that are done with a lower rank.
pub record IsProgress (chips : Chips) (stages : List Stage) (done : ℕ) : Type 0 where
  pub long : length stages ≡ length chips.entries
  pub ranked : (k r : ℕ) → slice_get stages k ≡ Some (Done r) → r < done
  pub faultless : (k r : ℕ) (entry : Entry) → slice_get stages k ≡ Some (Done r)
      → slice_get chips.entries k ≡ Some entry → (outer : List (List ℕ))
      → Avoids chips stages r outer → IsFaultless chips (entry.name ∷ outer) entry

-- these are the names of the open chips
abbrev pub AreOpen : Chips → List Stage → List (List ℕ) → Type 0
AreOpen chips stages names = (k : ℕ) (entry : Entry) → slice_get chips.entries k ≡ Some entry → is_among entry.name names ≡ is_open (slice_get stages k)

-- ---- what is found

-- the first of some things that are wrong
pub record IsFirstOf (fault : ℕ → Option NamedFault) (f : NamedFault) : Type 0 where
  pub place : ℕ
  pub there : fault place ≡ Some f
  pub first : (k : ℕ) → k < place → fault k ≡ None

abbrev pub FindsFirst : (ℕ → Option NamedFault) → Result (Unit {0}) ElabFault → Type 0
FindsFirst fault (Ok u) = (k : ℕ) → fault k ≡ None
FindsFirst fault (Err e) = Tells (IsFirstOf fault) e

-- a part whose chip is done
pub record PartIsEntered (chips : Chips) (stages : List Stage) (part : Part) : Type 0 where
  pub inner : Entry
  pub number : ℕ
  pub rank : ℕ
  pub found : find_chip chips part.chip ≡ Some inner
  pub there : slice_get chips.entries number ≡ Some inner
  pub done : slice_get stages number ≡ Some (Done rank)

-- a part whose chip is done, and whose connections are right
pub record PartIsFine (chips : Chips) (stages : List Stage) (entry : Entry) (i : ℕ) (part : Part) : Type 0 where
  pub entered : PartIsEntered chips stages part
  pub connections : (j : ℕ) → connection_fault_of chips entry i part j ≡ None

-- the place belongs to part i
abbrev pub IsOf : ℕ → Location → Type 0
IsOf i (AtPin k) = ⊥
IsOf i AtBody = ⊥
IsOf i (AtPart j) = j ≡ i
IsOf i (Inside j s) = j ≡ i
IsOf i (AtConnection j k) = j ≡ i

-- the first fault of part i
pub record PartFails (chips : Chips) (names : List (List ℕ)) (entry : Entry) (i : ℕ) (f : NamedFault) : Type 0 where
  pub place : Location
  pub part : IsOf i place
  pub there : fault_at chips names entry place ≡ Some f
  pub first : (s : Location) → IsOf i s → IsEarlier s place → fault_at chips names entry s ≡ None

-- the first n parts are fine
abbrev pub PartsAreFine : Chips → List Stage → Entry → ℕ → Type 0
PartsAreFine chips stages entry n = (i : ℕ) (part : Part) → i < n → slice_get (parts_of chips entry) i ≡ Some part → PartIsFine chips stages entry i part

-- the place belongs to some part
abbrev pub IsOfParts : Location → Type 0
IsOfParts (AtPin k) = ⊥
IsOfParts AtBody = ⊥
IsOfParts s = Unit {0}

-- the first fault of the parts
pub record PartsFail (chips : Chips) (names : List (List ℕ)) (entry : Entry) (f : NamedFault) : Type 0 where
  pub place : Location
  pub parts : IsOfParts place
  pub there : fault_at chips names entry place ≡ Some f
  pub first : (s : Location) → IsOfParts s → IsEarlier s place → fault_at chips names entry s ≡ None

-- the first fault of chip k, which stands in these chips
abbrev pub FailsInside : Chips → List (List ℕ) → ℕ → NamedFault → Type 0
FailsInside chips outer k f = (entry : Entry) → slice_get chips.entries k ≡ Some entry → IsFirstFault chips (entry.name ∷ outer) entry f

abbrev pub IsDone : List Stage → ℕ → Type 0
IsDone stages k = (r : ℕ) × (slice_get stages k ≡ Some (Done r))

-- the pins and the body of a chip are right, or it is an end
pub record HeadIsFine (chips : Chips) (entry : Entry) : Type 0 where
  pub pins : (k : ℕ) → unless (end_of chips.memories entry) (pin_fault entry k) ≡ None
  pub body : unless (end_of chips.memories entry) (body_fault entry) ≡ None

-- the chip of a part is chip k
pub record IsInner (chips : Chips) (part : Part) (k : ℕ) : Type 0 where
  pub within : k < length chips.entries
  pub found : find_chip chips part.chip ≡ slice_get chips.entries k

-- a chip whose text is right, and whose parts are fine
pub record ChipIsFine (chips : Chips) (stages : List Stage) (entry : Entry) : Type 0 where
  pub pins : (k : ℕ) → unless (end_of chips.memories entry) (pin_fault entry k) ≡ None
  pub body : unless (end_of chips.memories entry) (body_fault entry) ≡ None
  pub parts : (i : ℕ) (part : Part) → slice_get (parts_of chips entry) i ≡ Some part
      → PartIsFine chips stages entry i part

-- a pin whose name an earlier pin has, where some pins stand in front
abbrev pub pin_fault_in : Entry → List Pin → List Pin → ℕ → Option NamedFault
pin_fault_in entry front pins k = twice_fault entry.name (map pin_name (front ++ take k pins)) (slice_get pins k)

-- the code's tables are those of this chip
pub record SeesChip (chips : Chips) (entry : Entry) (scope : Scope) : Type 0 where
  pub chip : scope.chip.now ≡ entry.name
  pub own : Finds scope.own.now (ports_of entry.chip)
  pub nets : NetsFind scope.nets.now (drivers_of chips (parts_of chips entry))
