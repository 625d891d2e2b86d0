-- Texts that are put: numbers, words, and the messages of faults.
use Rattle.std.specs.Prelude.{◌-◌, ◌++◌, ℕ, List, [], ◌∷◌, if◌then◌else◌, nat_lt, decimal, codes}

-- a word by its signed reading
abbrev pub signed_text : ℕ → List ℕ
signed_text w = if nat_lt w 32768 then decimal w else 45 ∷ decimal (65536 - w)

-- a word at an address: `address word`
abbrev pub word_line : ℕ → ℕ → List ℕ
word_line address w = decimal address ++ 32 ∷ (signed_text w ++ 10 ∷ [])

-- names joined by commas
abbrev pub joined_texts : List (List ℕ) → List ℕ
joined_texts [] = []
joined_texts (name ∷ []) = name
joined_texts (name ∷ more ∷ names) = name ++ 44 ∷ joined_texts (more ∷ names)

-- a kind of fault with its detail; without a detail no space stands after the kind
abbrev pub fault_text : List ℕ → List ℕ → List ℕ
fault_text kind [] = kind
fault_text kind (c ∷ detail) = kind ++ 32 ∷ c ∷ detail

-- the line of a fault: `path:line:column: Kind detail`; a fault without a place stands at 0:0
abbrev pub fault_line : List ℕ → ℕ → ℕ → List ℕ → List ℕ → List ℕ
fault_line path line column kind detail =
    path ++ 58 ∷ (decimal line ++ 58 ∷ (decimal column ++ 58 ∷ 32 ∷ (fault_text kind detail ++ 10 ∷ [])))

abbrev pub usage_line : List ℕ
usage_line = codes "usage: nand COMMAND ARGUMENTS\n"

abbrev pub read_fault_line : List ℕ
read_fault_line = codes "nand: read fault\n"

abbrev pub want_of_memory_line : List ℕ
want_of_memory_line = codes "nand: want of memory\n"
