-- The heap: its free parts, linked one to the next, and its live blocks (book, chapter 12).
use Rattle.std.specs.Prelude.{◌≡◌, ◌≤◌, ◌<◌, ◌⊎◌, ℕ, suc, ◌+◌, ◌-◌, nat_lt, if◌then◌else◌, List, [], ◌∷◌, ◌++◌, map, slice_index, Option, Some, None, option_map}
use Rattle.std.specs.List.{AllByRecursion}
use Rattle.word16.specs.Memory.{heap, screen, keyboard}

-- the word at an address of heap or screen; the words of a state begin with that of the heap's first address
abbrev pub word_at : List ℕ → ℕ → ℕ
word_at words a = slice_index words (a - heap)

-- words in a row: where they begin, and how many they are
pub record Part : Type 0 where
  pub begin : ℕ
  pub size : ℕ

-- a block that was asked for: its place, and how many words were asked
pub record Block : Type 0 where
  pub place : ℕ
  pub words : ℕ

-- The part whose first word is at this place: that word says how many words the part has.
abbrev pub part_at : List ℕ → ℕ → Part
part_at words c = record { begin = c; size = word_at words c }

-- the part of a block: its first word stands before the block's place
abbrev pub part_of : List ℕ → Block → Part
part_of words b = part_at words (b.place - 1)

-- From the address a on these places are linked, each to the next by the word after its first, and the last one to
-- none.
abbrev pub Links : List ℕ → ℕ → List ℕ → Type 0
Links words a [] = a ≡ 0
Links words a (c ∷ cs) = (a ≡ c) × Links words (word_at words (c + 1)) cs

-- all its words are the heap's, those from 2048 to 16383
abbrev pub IsInHeap : Part → Type 0
IsInHeap p = (heap ≤ p.begin) × (p.begin + p.size ≤ screen)

-- one ends before the other begins
abbrev pub AreApart : Part → Part → Type 0
AreApart p q = (p.begin + p.size ≤ q.begin) ⊎ (q.begin + q.size ≤ p.begin)

-- no two of these overlap
abbrev pub NoneOverlap : List Part → Type 0
NoneOverlap [] = Unit {0}
NoneOverlap (p ∷ ps) = AllByRecursion (AreApart p) ps × NoneOverlap ps

-- at least one word, and a part that holds them and its own first word
abbrev pub IsBlock : List ℕ → Block → Type 0
IsBlock words b = (1 ≤ b.place) × (1 ≤ b.words) × (b.words + 1 ≤ word_at words (b.place - 1))

-- the free parts and those of the live blocks
abbrev pub parts_of : List ℕ → List ℕ → List Block → List Part
parts_of words free live = map (part_at words) free ++ map (part_of words) live

-- The free parts are those that are linked from this address on, each of two words at least. They and the parts of the
-- live blocks lie in the heap, and no two of them overlap. (So no free part comes twice: DistinctLaw.)
pub record HeapOf (words : List ℕ) (first : ℕ) (free : List ℕ) (live : List Block) : Type 0 where
  pub links : Links words first free
  pub long : AllByRecursion (λ c. 2 ≤ word_at words c) free
  pub blocks : AllByRecursion (IsBlock words) live
  pub inside : AllByRecursion IsInHeap (parts_of words free live)
  pub apart : NoneOverlap (parts_of words free live)

-- a heap with these live blocks, whatever its free parts are
abbrev pub Heap : List ℕ → ℕ → List Block → Type 0
Heap words first live = (free : List ℕ) × HeapOf words first free live

-- How many of these parts come before the first that has n words; none where no part has as many.
abbrev pub passed_block : List ℕ → ℕ → List ℕ → Option ℕ
passed_block words n [] = None
passed_block words n (c ∷ cs) = if nat_lt (word_at words c) n then option_map (λ k. suc k) (passed_block words n cs) else Some 0

-- the address is that of a word of one of these blocks
abbrev pub InBlocks : List Block → ℕ → Type 0
InBlocks [] a = ⊥
InBlocks (b ∷ bs) a = ((b.place ≤ a) × (a < b.place + b.words)) ⊎ InBlocks bs a

-- the words that no call of the heap may change: those of the live blocks, and those of the screen
abbrev pub IsKept : List Block → ℕ → Type 0
IsKept live a = InBlocks live a ⊎ ((screen ≤ a) × (a < keyboard))
