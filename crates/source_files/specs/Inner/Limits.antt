-- What the parts of loading say of the limit of files, and of a file that a listing named and that is not there.
use Rattle.std.specs.Prelude.{◌≡◌, ℕ, List, Option, true, is_some, IfSome}
use Rattle.std.specs.List.{AllByRecursion}
use Rattle.outer_world.specs.Files.{Files, file_at, path_in}
use Rattle.source_files.specs.Folder.{overfull}
use Rattle.source_files.specs.Loads.{Refused}
use Rattle.source_files.specs.declared.error.LoadError.{LoadError}

abbrev pub TellsOverfull : List ℕ → ℕ → LoadError → Type 0
TellsOverfull folder n e = Refused folder (overfull n) e

-- Of the files of these names in a folder some is not there, where the files are known.
abbrev pub LacksOne : Option Files → List ℕ → List (List ℕ) → Type 0
LacksOne told folder names = IfSome told (λ files. ¬ AllByRecursion (λ name. is_some (file_at files (path_in folder name)) ≡ true) names)
