-- What the parts of gathering say. (The book, appendix 2.)
use Rattle.std.specs.Prelude.{◌≡◌, ℕ, true, false, List, [], ◌∷◌, ◌++◌, Option, None, is_some}
use Rattle.outer_world.specs.Files.{Files, HasFile, LacksFile}
use Rattle.outer_world.specs.Refusals.{message_line}
use Rattle.grammar.specs.declared.Fault.{Fault}
use Rattle.grammar.specs.Faults.{diagnostic_of}
use Rattle.hdl_tree.specs.declared.library.Entry.{Entry}
use Rattle.hdl_tree.specs.Chips.{find_entry}
use Rattle.hdl_parser.specs.Spells.{Refuses}
use Rattle.tst_runner.specs.declared.gathering.Places.{Places}
use Rattle.tst_runner.specs.declared.gathering.Origin.{Origin}
use Rattle.tst_runner.specs.declared.gathering.Origin.TheVariants.{File, Shipped}
use Rattle.tst_runner.specs.Gathering.{Gather, GatherFails, IsFound, Sources, file_of, is_in_folder, needed_names, path_of}

-- the code's places, with the files
abbrev pub sources_of : Places → Option Files → Sources
sources_of places files = record { shipped = places.shipped.now; memories = places.memories; files = files; folder = places.folder.now; names = places.names.now }

-- the chip of a name is nowhere
abbrev pub IsNowhere : Sources → List ℕ → Type 0
IsNowhere from name = (is_in_folder from name ≡ false) × (find_entry from.shipped name ≡ None)

-- or it is found there
abbrev pub IsOrigin : Sources → List ℕ → Origin → Type 0
IsOrigin from name (File file) = (is_in_folder from name ≡ true) × (file.now ≡ file_of name)
IsOrigin from name Shipped = (is_in_folder from name ≡ false) × (is_some (find_entry from.shipped name) ≡ true)

-- the text of its file is refused with this line
abbrev pub IsRefusedAt : Sources → List ℕ → List ℕ → Type 0
IsRefusedAt from name line =
    (is_in_folder from name ≡ true)
    × ((text : List ℕ) × (fault : Fault) × HasFile from.files (path_of from name) text × Refuses text fault × (line ≡ message_line (path_of from name) (diagnostic_of fault)))

-- its file is listed, and is not there
abbrev pub LacksFileOf : Sources → List ℕ → Type 0
LacksFileOf from name = (is_in_folder from name ≡ true) × LacksFile from.files (path_of from name)

-- What is gathered from there on is gathered from here on, and what is refused from there on is refused from here on.
pub record Leads (from : Sources) (names : List (List ℕ)) (entries : List Entry) (names' : List (List ℕ)) (entries' : List Entry) : Type 0 where
  pub gathers : (all : List Entry) → Gather from names' entries' all → Gather from names entries all
  pub fails : (line : List ℕ) → GatherFails from names' entries' line → GatherFails from names entries line

-- Of these names this one is the next that is among no chips, and it is found there; the others are after it.
pub record IsNext (from : Sources) (names : List (List ℕ)) (entries : List Entry) (name : List ℕ) (origin : Origin) (others : List (List ℕ)) : Type 0 where
  pub leads : Leads from names entries (name ∷ others) entries
  pub new : find_entry entries name ≡ None
  pub at : IsOrigin from name origin

-- Its chip comes to the chips, and the names that it needs come before the others.
pub record IsMore (from : Sources) (name : List ℕ) (names : List (List ℕ)) (entries : List Entry) (names' : List (List ℕ)) (entries' : List Entry) : Type 0 where
  pub entry : Entry
  pub found : IsFound from name entry
  pub needed : names' ≡ needed_names from.memories entry ++ names
  pub pushed : entries' ≡ entries ++ entry ∷ []
