-- The table of the files of a folder that are those of chips. (The book, appendix 2.)
use Rattle.std.specs.Prelude.{◌≡◌, ℕ, true, false, List, Option, Some, None}
use denote.Bor.{Bor}
use Rattle.outer_world.specs.Files.{has_name}
use Rattle.name_table.specs.Names.{find_value}
use Rattle.name_table.specs.Tables.{table_of}
use Rattle.name_table.specs.declared.Table.{Table}
use Rattle.tst_runner.specs.Gathering.{file_of}

-- what is found for the name of a chip among the names of a folder: its file, if it stands there
abbrev pub IsListed : List (List ℕ) → List ℕ → Option (Bor (List ℕ)) → Type 0
IsListed names name None = has_name names (file_of name) ≡ false
IsListed names name (Some file) = (has_name names (file_of name) ≡ true) × (file.now ≡ file_of name)

-- and so for each name in the table
abbrev pub ListsFiles : List (List ℕ) → Table (Bor (List ℕ)) → Type 0
ListsFiles names files = (name : List ℕ) → IsListed names name (find_value name (table_of files))
