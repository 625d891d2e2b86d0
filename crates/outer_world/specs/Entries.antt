-- Which entries of a folder of the system are listed as names of files. From FORMATS, "Folders".
use Rattle.std.specs.Prelude.{◌≡◌, ◌==◌, ◌≤◌, ◌<◌, ◌&&◌, ◌||◌, ◌⊎◌, ◌↔◌, ◌++◌, [], ◌∷◌, ℕ, Bool, true, false, not, List, Result, Ok, Err, IsTrue, codes, length, if◌then◌else◌}
use Rattle.std.specs.List.{ends_with, filter, list_any, slice_split}
use Rattle.std.specs.Str.{bytes_eq, is_utf8}
use Rattle.std.specs.Fs.{IsFile, file_type}
use Rattle.std.specs.declared.fs.Metadata.{Metadata}
use Rattle.std.specs.IoError.{error_kind}
use Rattle.std.specs.declared.io.Error.{Error}
use Rattle.std.specs.declared.io.ErrorKind.{ErrorKind}
use Rattle.outer_world.specs.declared.shelf.Listing.{Listing}
use Rattle.outer_world.specs.declared.shelf.Listing.TheVariants as listing
use Rattle.std.specs.declared.io.ErrorKind.TheVariants.{NotFound, NotADirectory, FilesystemLoop, OutOfMemory, InvalidFilename, FileTooLarge}

-- The name ends like that of a text which is read from a folder.
abbrev pub ends_like_a_source : List ℕ → Bool
ends_like_a_source name =
    ends_with (λ a b. a == b) name (codes ".jack") || ends_with (λ a b. a == b) name (codes ".vm")
    || ends_with (λ a b. a == b) name (codes ".hdl")

-- no name, the folder itself, or the one above it
abbrev pub is_dots : List ℕ → Bool
is_dots name = bytes_eq name [] || bytes_eq name (codes ".") || bytes_eq name (codes "..")

-- Such a name refuses its whole folder: it is no text, and ends like a source, which might be missed.
unfoldable pub is_refused : List ℕ → Bool
is_refused name = not (is_utf8 name) && ends_like_a_source name

-- Such a name stays: it is a text, and neither empty nor dots. Any other that refuses nothing is left out.
unfoldable pub is_taken : List ℕ → Bool
is_taken name = is_utf8 name && not (is_dots name)

-- the entries that the system gives, each name with a zero byte after it
abbrev pub entries_of : List ℕ → List (List ℕ)
entries_of bytes = slice_split (λ byte. byte == 0) bytes

-- The names that stay of these entries, in their order: none is refused, and they are at most 65,536.
pub record AreTaken (entries names : List (List ℕ)) : Type 0 where
  pub unrefused : list_any is_refused entries ≡ false
  pub taken : names ≡ filter is_taken entries
  pub few : length names ≤ 65536

-- Why no names are answered: want of memory, a name that is refused, or too many that stay.
abbrev pub IsUnlisted : List (List ℕ) → ErrorKind → Type 0
IsUnlisted entries kind = (kind ≡ OutOfMemory)
    ⊎ (((kind ≡ InvalidFilename) × (list_any is_refused entries ≡ true))
    ⊎ ((kind ≡ FileTooLarge) × (65536 < length (filter is_taken entries))))

-- The system finds nothing at a path, what is no folder on the way, or a link that leads to itself.
abbrev pub IsOfNoFile : ErrorKind → Type 0
IsOfNoFile kind = (kind ≡ NotFound) ⊎ ((kind ≡ NotADirectory) ⊎ (kind ≡ FilesystemLoop))

-- What the system's answer on a path means: whether a regular file stands there. Nothing at the path, no folder on the
-- way and a link to itself are no file (`IsOfNoFile`). Any other error is a fault.
abbrev pub MeansFile : Result Metadata Error → Result Bool Error → Type 0
MeansFile (Ok metadata) (Ok is) = IsTrue is ↔ IsFile (file_type metadata)
MeansFile (Ok metadata) (Err fault) = ⊥
MeansFile (Err error) (Ok is) = IsOfNoFile (error_kind error) × (is ≡ false)
MeansFile (Err error) (Err fault) = (IsOfNoFile (error_kind error) → ⊥) × (fault ≡ error)

-- Where the system was asked at a path so, its answer there is that of a regular file, or it is not.
abbrev pub TellsFile : (List ℕ → Result Metadata Error → Type 0) → List ℕ → Bool → Type 0
TellsFile asked path is = (answer : Result Metadata Error) × asked path answer × MeansFile answer (Ok is)

-- Where the system was asked at a path so, its answer there is this fault, and not one of no file.
abbrev pub TellsFault : (List ℕ → Result Metadata Error → Type 0) → List ℕ → Error → Type 0
TellsFault asked path fault =
    (answer : Result Metadata Error) × asked path answer × MeansFile answer (Err fault)

-- The path of each entry begins so. An empty folder is the present one.
abbrev pub front_of_paths : List ℕ → List ℕ
front_of_paths [] = codes "./"
front_of_paths (byte ∷ folder) = (byte ∷ folder) ++ codes "/"

-- the names at which the answer is yes
abbrev pub files_among : List (List ℕ) → List Bool → List (List ℕ)
files_among [] answers = []
files_among (name ∷ names) [] = []
files_among (name ∷ names) (is ∷ answers) = if is then name ∷ files_among names answers else files_among names answers

-- Each name has its answer.
abbrev pub AreAnswered : (List ℕ → Bool → Type 0) → List (List ℕ) → List Bool → Type 0
AreAnswered answer [] [] = Unit {0}
AreAnswered answer [] (is ∷ answers) = ⊥
AreAnswered answer (name ∷ names) [] = ⊥
AreAnswered answer (name ∷ names) (is ∷ answers) = answer name is × AreAnswered answer names answers

-- The names of files among these: those at which the answer is yes, in their order.
abbrev pub AreKept : (List ℕ → Bool → Type 0) → List (List ℕ) → List (List ℕ) → Type 0
AreKept answer names files = (answers : List Bool) × AreAnswered answer names answers × (files ≡ files_among names answers)

-- Why the names of files are not told: at one name the answer is this fault, and each name before it has its answer.
pub record AreUntold (answer : List ℕ → Bool → Type 0) (fails : List ℕ → Type 0) (names : List (List ℕ)) : Type 0 where
  pub before : List (List ℕ)
  pub name : List ℕ
  pub after : List (List ℕ)
  pub these : names ≡ before ++ name ∷ after
  pub answers : List Bool
  pub answered : AreAnswered answer before answers
  pub failed : fails name

-- What is listed: the names that stay of some entries, and of these those with some answer of yes. Entries and answers may
-- be any, since nothing is known of the system. So a name that is listed is a text, neither empty nor dots, and has no
-- zero byte; the names are at most 65,536. Which folder they are of is not said.
pub record AreListed (names : List (List ℕ)) : Type 0 where
  pub entries : List ℕ
  pub texts : List (List ℕ)
  pub taken : AreTaken (entries_of entries) texts
  pub answers : List Bool
  pub files : names ≡ files_among texts answers

-- What an answer of `list` says of the names of a folder on disk.
abbrev pub ListsEntries : Listing → Type 0
ListsEntries (listing.Names names) = AreListed names.items
ListsEntries listing.Failed = Unit {0}
ListsEntries listing.Memory = Unit {0}
