-- The source files of a folder: those whose names have an ending, in order of name. (The book, chapters 6 to 12: a program is a folder of
-- files.)
use Rattle.std.specs.Prelude.{◌≡◌, ◌≤◌, ◌<◌, ◌-◌, ℕ, List, Option, Some, IfSome, length, min, nat_eq, take, filter, codes, decimal, if◌then◌else◌}
use Rattle.std.specs.List.{ends_with}
use Rattle.std.specs.List.Sorted.{IsPermutation, IsSorted}
use Rattle.std.specs.Ordering.{nat_cmp}
use Rattle.std.specs.Cmp.Lexicographic.{slice_cmp}
use Rattle.outer_world.specs.Files.{Files, IsListing}
use Rattle.outer_world.specs.Refusals.{Message, message, message_line}

-- the names that end so, of some names
abbrev pub ending_in : List ℕ → List (List ℕ) → List (List ℕ)
ending_in ending names = filter (λ name. ends_with nat_eq name ending) names

-- These are the names of the folder's files that end so, each once, in order of their bytes.
abbrev pub AreNames : Option Files → List ℕ → List ℕ → List (List ℕ) → Type 0
AreNames told folder ending names =
    IfSome told (λ files. (all : List (List ℕ)) × IsListing files folder all × IsPermutation (ending_in ending all) names)
    × IsSorted (slice_cmp nat_cmp) names

-- The law of names: over known files they are one list.
abbrev pub NamesLaw : Type 0
NamesLaw =
    (files : Files) (folder ending : List ℕ) (names others : List (List ℕ))
    → AreNames (Some files) folder ending names → AreNames (Some files) folder ending others → names ≡ others

-- There are at most 256 of them.
abbrev pub AreSources : Option Files → List ℕ → List ℕ → List (List ℕ) → Type 0
AreSources files folder ending names = AreNames files folder ending names × (length names ≤ 256)

-- the diagnostic of a folder with this many of them: 1,000,000,000 where they are more
abbrev pub overfull : ℕ → Message
overfull n = message 0 0 (codes "Range") (decimal (min n 1000000000))

-- There are more than 256 of them, and this line says how many.
abbrev pub IsOverfull : Option Files → List ℕ → List ℕ → List ℕ → Type 0
IsOverfull files folder ending line =
    (names : List (List ℕ)) × AreNames files folder ending names × (256 < length names) × (line ≡ message_line folder (overfull (length names)))

-- a name without the ending that it has
abbrev pub stem_of : List ℕ → List ℕ → List ℕ
stem_of ending name = if ends_with nat_eq name ending then take (length name - length ending) name else name
