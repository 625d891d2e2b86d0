-- Strings made and given back (book, chapter 12).
use Rattle.std.specs.Prelude.{◌≡◌, ◌≤◌, ◌<◌, ◌+◌, ◌*◌, ◌^◌, ◌⊎◌, ℕ, zero, suc, List, [], ◌∷◌, ◌++◌, Some, codes, length}
use Rattle.jack_core.specs.Texts.{the_subroutines}
use Rattle.jack_core.specs.declared.program.Core.{Core}
use Rattle.jack_meaning.specs.Meaning.{State}
use Rattle.os_laws.specs.Calls.{given_back}
use Rattle.os_laws.specs.Heap.{Block, passed_block}
use Rattle.os_laws.specs.HeapCalls.{HasHeap, Holds, IsFull, KeepsOthers, Freed}
use Rattle.os_laws.specs.Names.{IsShipped}
use Rattle.os_functions.specs.Calls.{HasStatics, CallsNext, Returns}
use Rattle.os_functions.specs.StringLaws.{StringAt, CallsString}
use Rattle.os_strings.specs.Errors.{ComesToError}

-- the block of a string's three words
abbrev pub object_block : ℕ → Block
object_block o = record { place = o; words = 3 }

-- the blocks of a string: where it has room for characters, theirs comes first
abbrev pub blocks_of : ℕ → ℕ → ℕ → List Block
blocks_of o place zero = object_block o ∷ []
blocks_of o place (suc r) = record { place = place; words = suc r } ∷ object_block o ∷ []

-- The next step is a call of String.new with this length. In the heap the free part after the first k is the first that
-- has room for the string's three words.
pub record Making {core : Core} {p : IsShipped core} (h : HasStatics p) (s : State) (max : ℕ) : Type 0 where
  pub parts : List ℕ
  pub live : List Block
  pub heap : HasHeap s h.free parts live
  pub k : ℕ
  pub fit : passed_block s.words 4 parts ≡ Some k
  pub call : CallsNext p (codes "String") (codes "new") s (max ∷ [])

module _ {core : Core} {p : IsShipped core} {h : HasStatics p} {s : State} {max : ℕ} (m : Making h s max) where
  -- the call has come back with the place of an empty string, whose blocks are new
  pub record IsMade (s' : State) : Type 0 where
    pub place : ℕ
    pub frames : s'.frames ≡ (given_back s m.call.caller m.call.below place).frames
    pub string : StringAt s'.words place [] max
    pub heap : Holds s' h.free (blocks_of place string.place max ++ m.live)
    pub keeps : KeepsOthers h.free m.live s s'

  -- the block of its three words is new, and no other; words of free parts may have changed
  pub record HasObject (statics words : List ℕ) : Type 0 where
    pub place : ℕ
    pub heap : Holds (record s { statics = statics; words = words }) h.free (object_block place ∷ m.live)
    pub keeps : KeepsOthers h.free m.live s (record s { statics = statics; words = words })

-- these are the blocks without that one
abbrev pub IsWithout : List Block → Block → List Block → Type 0
IsWithout all b left = (front : List Block) × (back : List Block) × (all ≡ front ++ b ∷ back) × (left ≡ front ++ back)

-- these are the blocks without those of a string
abbrev pub AreWithout : List Block → ℕ → ℕ → ℕ → List Block → Type 0
AreWithout all o place zero left = IsWithout all (object_block o) left
AreWithout all o place (suc r) left = (middle : List Block) × IsWithout all (record { place = place; words = suc r }) middle × IsWithout middle (object_block o) left

-- The next step is a call of `dispose` of a string whose blocks are live.
pub record Disposing {core : Core} {p : IsShipped core} (h : HasStatics p) (s : State) (o : ℕ) (text : List ℕ) (room : ℕ) : Type 0 where
  pub call : CallsString p s (codes "dispose") o [] text room
  pub parts : List ℕ
  pub live : List Block
  pub heap : HasHeap s h.free parts live
  pub left : List Block
  pub own : AreWithout live o call.string.place room left

module _ {core : Core} (p : IsShipped core) (h : HasStatics p) (s : State) (max : ℕ) where
  -- Either the string is made, or after the block of its three words there is no room for the characters.
  abbrev pub NewLaw : Type 0
  NewLaw =
      max < 2 ^ 15 → (m : Making h s max)
      → ((n : ℕ) × (n ≤ 258300 + 18 * m.k) × (s' : State) × Returns (the_subroutines core) s n s' × IsMade m s')
      ⊎ ((statics words : List ℕ) × ComesToError p m.call (258300 + 18 * m.k) 6 statics words × HasObject m statics words × ((14335 < max) ⊎ IsFull (record s { statics = statics; words = words }) h.free max))

  -- an empty string with no room is always made
  abbrev pub NewEmptyLaw : Type 0
  NewEmptyLaw = max ≡ 0 → (m : Making h s max) → (n : ℕ) × (n ≤ 90 + 18 * m.k) × (s' : State) × Returns (the_subroutines core) s n s' × IsMade m s'

  -- a length whose signed reading is below 0
  abbrev pub NewErrorLaw : Type 0
  NewErrorLaw = 2 ^ 15 ≤ max → max < 2 ^ 16 → (m : Making h s max) → (statics words : List ℕ) × ComesToError p m.call (80 + 18 * m.k) 14 statics words × HasObject m statics words

  -- no free part has room for the three words
  abbrev pub NewFullLaw : Type 0
  NewFullLaw = (f : IsFull s h.free 3) (c : CallsNext p (codes "String") (codes "new") s (max ∷ [])) → ComesToError p c (30 + 18 * length f.parts) 6 s.statics s.words

-- the blocks of the string are live no more
abbrev pub DisposeLaw : {core : Core} (p : IsShipped core) (h : HasStatics p) (s : State) (o : ℕ) (text : List ℕ) (room : ℕ) → Type 0
DisposeLaw {core} p h s o text room = (d : Disposing h s o text room) → (n : ℕ) × (n ≤ 50) × (s' : State) × Returns (the_subroutines core) s n s' × Freed d.call.call h.free d.left s'

pub record MakingLaws : Type 0 where
  pub new : {core : Core} (p : IsShipped core) (h : HasStatics p) (s : State) (max : ℕ)
      → NewLaw p h s max
  pub new_empty : {core : Core} (p : IsShipped core) (h : HasStatics p) (s : State) (max : ℕ)
      → NewEmptyLaw p h s max
  pub new_error : {core : Core} (p : IsShipped core) (h : HasStatics p) (s : State) (max : ℕ)
      → NewErrorLaw p h s max
  pub new_full : {core : Core} (p : IsShipped core) (h : HasStatics p) (s : State) (max : ℕ)
      → NewFullLaw p h s max
  pub dispose : {core : Core} (p : IsShipped core) (h : HasStatics p) (s : State) (o : ℕ)
      (text : List ℕ) (room : ℕ) → DisposeLaw p h s o text room
