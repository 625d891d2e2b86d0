-- What the text of a file spells, or why it is refused; and so of the files of a folder, each text read wholly before the next. (A language
-- is given by what the text of a file of some name spells, and by why a text is refused.)
use Rattle.std.specs.Prelude.{◌≡◌, ◌<◌, ◌≤◌, ◌++◌, ◌⊎◌, ◌+◌, ℕ, suc, Bool, List, [], ◌∷◌, Option, length, codes, decimal}
use Rattle.outer_world.specs.Files.{Files, HasFile, LacksFile, LacksFolder, path_in}
use Rattle.outer_world.specs.Refusals.{Message, message, message_line}
use Rattle.source_files.specs.Folder.{AreSources, IsOverfull}

-- the diagnostic of a text of more than 1,048,576 bytes
abbrev pub past_limit : Message
past_limit = message 0 0 (codes "Range") (decimal 1048577)

-- The file at a path has this text, of at most 1,048,576 bytes.
abbrev pub IsText : Option Files → List ℕ → List ℕ → Type 0
IsText files path text = HasFile files path text × (length text ≤ 1048576)

-- It has a longer one, as this line says.
abbrev pub IsPastLimit : Option Files → List ℕ → List ℕ → Type 0
IsPastLimit files path line =
    (text : List ℕ) × HasFile files path text × (1048576 < length text) × (line ≡ message_line path past_limit)

-- The text at a path spells this source.
abbrev pub SpellsAt : {A : Type 0} → (List ℕ → A → Type 0) → Option Files → List ℕ → A → Type 0
SpellsAt spells files path source = (text : List ℕ) × HasFile files path text × spells text source

-- The text at a path is refused, and this line says why.
abbrev pub IsFaulty : (List ℕ → Message → Type 0) → Option Files → List ℕ → List ℕ → Type 0
IsFaulty refuses files path line =
    (text : List ℕ) × (told : Message) × HasFile files path text × refuses text told × (line ≡ message_line path told)

-- The texts of these names in the folder spell these sources, in order.
abbrev pub SpellEach : {A : Type 0} → (List ℕ → List ℕ → A → Type 0) → Option Files → List ℕ → List (List ℕ) → List A → Type 0
SpellEach spells files folder [] [] = Unit {0}
SpellEach spells files folder (name ∷ names) (source ∷ sources) =
    SpellsAt (spells name) files (path_in folder name) source × SpellEach spells files folder names sources
SpellEach spells files folder [] (source ∷ sources) = ⊥
SpellEach spells files folder (name ∷ names) [] = ⊥

-- Of the texts of these names the first that is refused is refused with this line: those before it spell sources.
abbrev pub IsFirstFaulty : {A : Type 0} → (List ℕ → List ℕ → A → Type 0) → (List ℕ → Message → Type 0) → Option Files → List ℕ → List (List ℕ) → List ℕ → Type 0
IsFirstFaulty {A} spells refuses files folder names line =
    (before : List (List ℕ)) × (name : List ℕ) × (after : List (List ℕ)) × (sources : List A)
    × (names ≡ before ++ name ∷ after) × SpellEach spells files folder before sources
    × IsFaulty refuses files (path_in folder name) line

-- The folder's files that end so spell these sources, in order of name.
abbrev pub FolderSpells : {A : Type 0} → (List ℕ → List ℕ → A → Type 0) → List ℕ → Option Files → List ℕ → List A → Type 0
FolderSpells spells ending files folder sources =
    (names : List (List ℕ)) × AreSources files folder ending names × SpellEach spells files folder names sources

-- The folder's files that end so are not read, and this line says why: there are too many, or the first that is refused.
abbrev pub IsUnread : {A : Type 0} → (List ℕ → List ℕ → A → Type 0) → (List ℕ → Message → Type 0) → List ℕ → Option Files → List ℕ → List ℕ → Type 0
IsUnread spells refuses ending files folder line =
    IsOverfull files folder ending line
    ⊎ ((names : List (List ℕ)) × AreSources files folder ending names × IsFirstFaulty spells refuses files folder names line)

-- A text of these names is not read, and each before it spells a source: no fault comes of a file behind one that is refused. One of the calls up to
-- the one that reads it is set up to fail, or there is no such file. (Here unfailing n says that none of the next n calls of the shelf is.)
abbrev pub FailsAtOne : {A : Type 0} → (List ℕ → List ℕ → A → Type 0) → (ℕ → Type 0) → Option Files → List ℕ → List (List ℕ) → Type 0
FailsAtOne {A} spells unfailing files folder names =
    (before : List (List ℕ)) × (name : List ℕ) × (after : List (List ℕ)) × (sources : List A)
    × (names ≡ before ++ name ∷ after) × SpellEach spells files folder before sources
    × (unfailing (length before + 1) → LacksFile files (path_in folder name))

-- A fault of the shelf is that of the first call, which lists the folder, or of one of those that read its files in order.
abbrev pub FailsInOrder : {A : Type 0} → (List ℕ → List ℕ → A → Type 0) → List ℕ → (ℕ → Type 0) → Option Files → (List ℕ → Bool) → List ℕ → Type 0
FailsInOrder spells ending unfailing files there folder =
    (unfailing 1 → LacksFolder files there folder)
    ⊎ ((names : List (List ℕ)) × AreSources files folder ending names × FailsAtOne spells (λ n. unfailing (suc n)) files folder names)
