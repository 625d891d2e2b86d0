-- What a shelf is asked for, and what its answers mean.
use Rattle.std.specs.Prelude.{◌≡◌, ◌==◌, ◌≤◌, ◌<◌, ◌++◌, [], ◌∷◌, ℕ, Bool, true, false, List, Option, Some, None, length, is_some, IfSome, if◌then◌else◌}
use Rattle.std.specs.List.{list_any}
use Rattle.std.specs.Str.{bytes_eq}
use Rattle.outer_world.specs.Faults.{Rose}
use Rattle.outer_world.specs.declared.shelf.Listing.{Listing}
use Rattle.outer_world.specs.declared.shelf.Listing.TheVariants as listing
use Rattle.outer_world.specs.declared.shelf.Reading.{Reading}
use Rattle.outer_world.specs.declared.shelf.Reading.TheVariants as reading

-- the files by path; where a path stands twice, the first counts
abbrev pub Files : Type 0
Files = List (List ℕ × List ℕ)

-- the bytes of the file at a path
abbrev pub file_at : Files → List ℕ → Option (List ℕ)
file_at [] path = None
file_at (file ∷ files) path = if bytes_eq file.0 path then Some file.1 else file_at files path

-- The file at a path has these bytes, where the files are known.
abbrev pub HasFile : Option Files → List ℕ → List ℕ → Type 0
HasFile told path bytes = IfSome told (λ files. file_at files path ≡ Some bytes)

-- No file stands at a path, where the files are known.
abbrev pub LacksFile : Option Files → List ℕ → Type 0
LacksFile told path = IfSome told (λ files. file_at files path ≡ None)

-- the path of a name in a folder; an empty folder is the present one
abbrev pub path_in : List ℕ → List ℕ → List ℕ
path_in [] name = name
path_in (c ∷ folder) name = (c ∷ folder) ++ 47 ∷ name

abbrev pub has_slash : List ℕ → Bool
has_slash = list_any (λ c. c == 47)

-- No file stands in a folder.
abbrev pub IsEmptyFolder : Files → List ℕ → Type 0
IsEmptyFolder files folder = (name : List ℕ) → has_slash name ≡ false → file_at files (path_in folder name) ≡ None

-- A folder is not there, so no file stands in it, where the files are known. A folder that is there may be empty as well.
abbrev pub LacksFolder : Option Files → (List ℕ → Bool) → List ℕ → Type 0
LacksFolder told there folder = IfSome told (λ files. (there folder ≡ false) × IsEmptyFolder files folder)

-- a name stands among names
abbrev pub has_name : List (List ℕ) → List ℕ → Bool
has_name names name = list_any (bytes_eq name) names

-- each name once
abbrev pub AreDistinct : List (List ℕ) → Type 0
AreDistinct [] = Unit {0}
AreDistinct (name ∷ names) = (has_name names name ≡ false) × AreDistinct names

-- The names of a folder: those without a slash that make a path of the files, each once.
pub record IsListing (files : Files) (folder : List ℕ) (names : List (List ℕ)) : Type 0 where
  pub each : (name : List ℕ) → has_slash name ≡ false → has_name names name ≡ is_some (file_at files (path_in folder name))
  pub no_slash : (name : List ℕ) → has_name names name ≡ true → has_slash name ≡ false
  pub once : AreDistinct names

-- What an answer of `list` says of the files.
abbrev pub Lists : Option Files → List ℕ → Listing → Type 0
Lists told folder (listing.Names names) = IfSome told (λ files. IsListing files folder names.items)
Lists told folder listing.Failed = Unit {0}
Lists told folder listing.Memory = Unit {0}

-- What an answer of `read` says of the file.
abbrev pub Reads : Option Files → List ℕ → ℕ → Reading → Type 0
Reads told path limit (reading.Bytes bytes) = HasFile told path bytes.items × (length bytes.items ≤ limit)
Reads told path limit (reading.TooLong l) = (l ≡ limit) × ((bytes : List ℕ) × HasFile told path bytes × (limit < length bytes))
Reads told path limit reading.Failed = Unit {0}
Reads told path limit reading.Memory = Unit {0}

-- Failed comes only with a fault, and no other answer counts one.
abbrev pub CountsList : ℕ → ℕ → Listing → Type 0
CountsList before now listing.Failed = Rose before now × (before ≤ now)
CountsList before now (listing.Names names) = now ≡ before
CountsList before now listing.Memory = now ≡ before

abbrev pub CountsRead : ℕ → ℕ → Reading → Type 0
CountsRead before now reading.Failed = Rose before now × (before ≤ now)
CountsRead before now (reading.Bytes bytes) = now ≡ before
CountsRead before now (reading.TooLong l) = now ≡ before
CountsRead before now reading.Memory = now ≡ before
