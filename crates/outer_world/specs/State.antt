-- What a shelf and a sink are at a moment, and what the calls of a shelf keep of it.
use Rattle.std.specs.Prelude.{◌≡◌, ℕ, suc, Bool, List, Option, None, true}
use Rattle.outer_world.specs.Files.{Files, LacksFile, LacksFolder}

-- The state of a shelf: the files by path, where they are known; which folders are there, and one that is there may be empty; and that no call
-- to come is set up to fail. Each such call answers what stands on the shelf, or wants memory, and fails at most for a file or a folder that is
-- not there. A shelf that cannot know that says no.
pub record ShelfState : Type 1 where
  pub files : Option Files
  pub there : List ℕ → Bool
  pub unfailing : Type 0

abbrev pub shelf_state : Option Files → (List ℕ → Bool) → Type 0 → ShelfState
shelf_state files there unfailing = record { files = files; there = there; unfailing = unfailing }

-- that of a shelf of which nothing is known
abbrev pub unknown_state : ShelfState
unknown_state = shelf_state None (λ folder. true) ⊥

-- A call keeps the files and the folders; and where no call to come was set up to fail, none is.
pub record Keeps (before now : ShelfState) : Type 0 where
  pub files : now.files ≡ before.files
  pub there : now.there ≡ before.there
  pub unfailing : before.unfailing → now.unfailing

-- What a fault says of a shelf with no call to come that is set up to fail: no file stands at the path,
abbrev pub MissesFile : ShelfState → List ℕ → Type 0
MissesFile shelf path = shelf.unfailing → LacksFile shelf.files path

-- or the folder is not there.
abbrev pub MissesFolder : ShelfState → List ℕ → Type 0
MissesFolder shelf folder = shelf.unfailing → LacksFolder shelf.files shelf.there folder

-- What a call says of those that are set up to fail; before and now say of a number that none of so many to come is. The call is one of them. Where
-- it is not set up to fail, it fails at most for what is missing.
pub record SpendsCall (before now : ℕ → Type 0) (failed missing : Type 0) : Type 0 where
  pub one : (n : ℕ) → before (suc n) → now n
  pub planned : failed → before 1 → missing

-- The state of a sink: the bytes written, where they are known, and how often a call has failed.
pub record SinkState : Type 0 where
  pub written : Option (List ℕ)
  pub faults : ℕ

abbrev pub sink_state : Option (List ℕ) → ℕ → SinkState
sink_state written faults = record { written = written; faults = faults }
