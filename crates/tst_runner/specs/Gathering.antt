-- The chips that a chip needs, by name: the folder's files, read depth first in text order, each once, and else the shipped chips. (The book,
-- appendix 2.)
use Rattle.std.specs.Prelude.{◌≡◌, ◌⊎◌, ℕ, Bool, true, false, List, [], ◌∷◌, ◌++◌, Option, Some, None, map, codes}
use Rattle.outer_world.specs.Files.{Files, HasFile, has_name, path_in}
use Rattle.outer_world.specs.Refusals.{message_line}
use Rattle.grammar.specs.declared.Fault.{Fault}
use Rattle.grammar.specs.Faults.{diagnostic_of}
use Rattle.hdl_tree.specs.declared.tree.Chip.{Chip}
use Rattle.hdl_tree.specs.declared.tree.Body.{Body}
use Rattle.hdl_tree.specs.declared.tree.Body.TheVariants as body
use Rattle.hdl_tree.specs.declared.library.Entry.{Entry}
use Rattle.hdl_tree.specs.declared.ends.Memories.{Memories}
use Rattle.hdl_tree.specs.Chips.{end_of, find_entry, parts_of_body, parts_unless}
use Rattle.hdl_parser.specs.Spells.{Spells, Refuses}

-- where chips are found: the shipped ones, how the memories are simulated, the files, the folder and the names in it
pub record Sources : Type 0 where
  pub shipped : List Entry
  pub memories : Memories
  pub files : Option Files
  pub folder : List ℕ
  pub names : List (List ℕ)

abbrev pub file_of : List ℕ → List ℕ
file_of name = name ++ codes ".hdl"

abbrev pub path_of : Sources → List ℕ → List ℕ
path_of from name = path_in from.folder (file_of name)

abbrev pub is_in_folder : Sources → List ℕ → Bool
is_in_folder from name = has_name from.names (file_of name)

-- the name is that of a file, and not the one in its text; a chip that is built in is the shipped one, if there is one
abbrev pub built_in : List ℕ → Chip → Option Entry → Entry
built_in name chip None = record { name = name; chip = chip; shipped = None }
built_in name chip (Some entry) = record entry { name = name }

abbrev pub entry_with : List Entry → List ℕ → Chip → Body → Entry
entry_with shipped name chip (body.Parts parts) = record { name = name; chip = chip; shipped = None }
entry_with shipped name chip (body.Builtin own clocked) = built_in name chip (find_entry shipped own)

abbrev pub entry_of : List Entry → List ℕ → Chip → Entry
entry_of shipped name chip = entry_with shipped name chip chip.body

-- the names of the chips of its parts, in text order; an end has none
abbrev pub needed_names : Memories → Entry → List (List ℕ)
needed_names memories entry = map (λ part. part.chip) (parts_unless (end_of memories entry) (parts_of_body entry.chip.body))

-- a chip of the folder, or a shipped one, is found under a name
abbrev pub IsFound : Sources → List ℕ → Entry → Type 0
IsFound from name entry =
    ((is_in_folder from name ≡ true) × ((text : List ℕ) × (chip : Chip) × HasFile from.files (path_of from name) text × Spells text chip × (entry ≡ entry_of from.shipped name chip)))
    ⊎ ((is_in_folder from name ≡ false) × (find_entry from.shipped name ≡ Some entry))

-- a name is taken among these chips: it is one of them, or is found and comes to them, or is nowhere; the names that it needs come next
abbrev pub IsTaken : Sources → List ℕ → List Entry → List (List ℕ) → List Entry → Type 0
IsTaken from name entries next entries' =
    ((entry : Entry) × (find_entry entries name ≡ Some entry) × (next ≡ []) × (entries' ≡ entries))
    ⊎ (((find_entry entries name ≡ None) × ((entry : Entry) × IsFound from name entry × (next ≡ needed_names from.memories entry) × (entries' ≡ entries ++ entry ∷ [])))
    ⊎ ((find_entry entries name ≡ None) × (is_in_folder from name ≡ false) × (find_entry from.shipped name ≡ None) × (next ≡ []) × (entries' ≡ entries)))

-- a name is taken in its turn, and its text is refused with this line
abbrev pub IsRefused : Sources → List ℕ → List Entry → List ℕ → Type 0
IsRefused from name entries line =
    (find_entry entries name ≡ None) × (is_in_folder from name ≡ true)
    × ((text : List ℕ) × (fault : Fault) × HasFile from.files (path_of from name) text × Refuses text fault × (line ≡ message_line (path_of from name) (diagnostic_of fault)))

-- From these chips on, these names are taken one after another, and what they need before the names after them; in the end all are there.
pub data Gather (from : Sources) : List (List ℕ) → List Entry → List Entry → Type 0 where
  no_more : {entries : List Entry} → Gather from [] entries entries
  one_more : {name : List ℕ} {names : List (List ℕ)} {entries entries' all : List Entry} (next : List (List ℕ)) → IsTaken from name entries next entries' → Gather from (next ++ names) entries' all → Gather from (name ∷ names) entries all

-- Or the text of one of them is refused, with this line: those before it are taken.
pub data GatherFails (from : Sources) : List (List ℕ) → List Entry → List ℕ → Type 0 where
  here : {name : List ℕ} {names : List (List ℕ)} {entries : List Entry} {line : List ℕ} → IsRefused from name entries line → GatherFails from (name ∷ names) entries line
  later : {name : List ℕ} {names : List (List ℕ)} {entries entries' : List Entry} {line : List ℕ} (next : List (List ℕ)) → IsTaken from name entries next entries' → GatherFails from (next ++ names) entries' line → GatherFails from (name ∷ names) entries line
