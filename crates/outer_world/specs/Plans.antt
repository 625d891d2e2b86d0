-- Shelves and sinks in memory: what they hold, which of their calls fail, and what they take.
use Rattle.std.specs.Prelude.{◌≡◌, ◌==◌, ◌≤◌, ◌<◌, ◌+◌, ◌-◌, ◌^◌, ◌⊎◌, [], ◌∷◌, ℕ, zero, suc, Bool, true, false, List, Option, Some, None, Vec, map, min, unwrap_or, if◌then◌else◌}
use Rattle.std.specs.Global.{Global}
use Rattle.std.specs.List.{list_any}
use Rattle.outer_world.specs.Files.{Files}
use Rattle.outer_world.specs.State.{ShelfState, SinkState, shelf_state, sink_state}
use Rattle.outer_world.specs.declared.name.Name.{Name}
use Rattle.outer_world.specs.declared.shelf.Listing.{Listing}
use Rattle.outer_world.specs.declared.shelf.Listing.TheVariants as listing
use Rattle.outer_world.specs.declared.shelf.Reading.{Reading}
use Rattle.outer_world.specs.declared.shelf.Reading.TheVariants as reading
use Rattle.outer_world.specs.declared.sink.Put.{Put}
use Rattle.outer_world.specs.declared.sink.Put.TheVariants as put

-- names and bytes in memory, as files
abbrev pub files_of : List (Name × Vec ℕ Global) → Files
files_of files = map (λ file. (file.0, file.1.items)) files

-- in memory each folder is there, also one in which no file stands
abbrev pub each_folder_there : List ℕ → Bool
each_folder_there folder = true

-- a shelf in memory: its files, the numbers of the calls that fail, and how many calls and faults there were
pub record PlannedShelf : Type 0 where
  pub files : Files
  pub fails : List ℕ
  pub calls : ℕ
  pub faults : ℕ

-- a sink in memory: its bytes, the room for them, the calls that fail, each with the bytes that it still takes, and the counts
pub record PlannedSink : Type 0 where
  pub bytes : List ℕ
  pub room : ℕ
  pub fails : List (ℕ × ℕ)
  pub calls : ℕ
  pub faults : ℕ

-- a count after one more; the greatest of its type stays
abbrev pub next_count : ℕ → ℕ
next_count count = min (count + 1) (2 ^ 64 - 1)

-- a call of this number is set up to fail
abbrev pub is_planned : List ℕ → ℕ → Bool
is_planned fails call = list_any (λ planned. planned == call) fails

-- Of the calls after this many, none is set up to fail.
abbrev pub NoneToCome : List ℕ → ℕ → Type 0
NoneToCome fails calls = (n : ℕ) → calls ≤ n → is_planned fails (next_count n) ≡ false

-- Of so many calls after these, none is set up to fail.
abbrev pub NoneOfNext : List ℕ → ℕ → ℕ → Type 0
NoneOfNext fails calls zero = Unit {0}
NoneOfNext fails calls (suc n) = (is_planned fails (next_count calls) ≡ false) × NoneOfNext fails (next_count calls) n

-- what such a shelf is, as any shelf
abbrev pub planned_state : PlannedShelf → ShelfState
planned_state shelf = shelf_state (Some shelf.files) each_folder_there (NoneToCome shelf.fails shelf.calls)

-- what such a sink is, as any sink
abbrev pub planned_sink_state : PlannedSink → SinkState
planned_sink_state sink = sink_state (Some sink.bytes) sink.faults

-- A shelf in memory fails to list where the call is set up to fail, and at no other.
abbrev pub ListsAsPlanned : Bool → Listing → Type 0
ListsAsPlanned planned listing.Failed = planned ≡ true
ListsAsPlanned planned (listing.Names names) = planned ≡ false
ListsAsPlanned planned listing.Memory = planned ≡ false

-- It fails to read where the call is set up to fail or there is no such file, and nowhere else.
abbrev pub ReadsAsPlanned : Bool → Option (List ℕ) → Reading → Type 0
ReadsAsPlanned planned file reading.Failed = (planned ≡ true) ⊎ (file ≡ None)
ReadsAsPlanned planned file (reading.Bytes bytes) = planned ≡ false
ReadsAsPlanned planned file (reading.TooLong limit) = planned ≡ false
ReadsAsPlanned planned file reading.Memory = planned ≡ false

-- how many bytes a call still takes that is set up to fail; where its number stands twice, the first counts
abbrev pub planned_bytes : List (ℕ × ℕ) → ℕ → Option ℕ
planned_bytes [] call = None
planned_bytes (fail ∷ fails) call = if fail.0 == call then Some fail.1 else planned_bytes fails call

-- how many bytes of a piece of n a sink in memory takes: what fits in its room, and no more than planned
abbrev pub taken_of : Option ℕ → ℕ → ℕ → ℕ
taken_of plan room n = min (unwrap_or plan n) (min n room)

-- A sink in memory fails where the call is set up to fail or the piece is past its room, and nowhere else.
abbrev pub PutsAsPlanned : Option ℕ → ℕ → ℕ → Put → Type 0
PutsAsPlanned plan room n put.Done = (plan ≡ None) × (n ≤ room)
PutsAsPlanned plan room n put.Failed = ((most : ℕ) × (plan ≡ Some most)) ⊎ (room < n)
