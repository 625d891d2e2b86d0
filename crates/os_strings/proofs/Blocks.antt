-- Stores into a block's words: the heap stays, and so do the other blocks.
use Rattle.std.proofs.Common.{◌⊎◌, inl, inr, ⊎_elim, ℕ, ◌+◌, ◌-◌, ◌<◌, ◌≤◌, List, [], ◌∷◌, map, refl, ◌∙◌, arith, length-set}
use Rattle.std.specs.Prelude.{slice_index}
use Rattle.std.specs.List.{AllByRecursion}
use Rattle.jack_meaning.specs.Meaning.{State}
use Rattle.os_laws.specs.Heap.{Block, part_at, part_of, IsInHeap, AreApart, NoneOverlap, IsBlock, HeapOf, InBlocks, IsKept}
use Rattle.os_laws.specs.HeapCalls.{Holds, KeepsOthers}
use Rattle.os_laws.proofs.KeepingStores as keeping
use Rattle.os_laws.proofs.Parts.{all_split, last_ones}
use Rattle.os_laws.proofs.Storing.{other_word}
use Rattle.os_functions.specs.StringLaws.{with_heap_word}

module _ (ws : List ℕ) (first : ℕ) (parts : List ℕ) (b : Block) (live : List Block) (heap : HeapOf ws first parts (b ∷ live)) where
  alone : NoneOverlap (map (part_of ws) (b ∷ live))
  alone = last_ones (map (part_at ws) parts) (map (part_of ws) (b ∷ live)) heap.apart

  inside : AllByRecursion IsInHeap (map (part_of ws) (b ∷ live))
  inside = (all_split IsInHeap (map (part_at ws) parts) (map (part_of ws) (b ∷ live)) heap.inside).1

  -- its words lie in the heap
  pub own_words : (2049 ≤ b.place) × (b.place + b.words ≤ 16384)
  own_words = let block = heap.blocks.0 in let i = inside.0 in (omega (arith, block, i), omega (arith, block, i))

  -- the words of other blocks are none of its own
  others : (bs : List Block) → AllByRecursion (IsBlock ws) bs → AllByRecursion IsInHeap (map (part_of ws) bs) → AllByRecursion (AreApart (part_of ws b)) (map (part_of ws) bs) → (a : ℕ) → InBlocks bs a → (2048 ≤ a) × ((a < b.place) ⊎ (b.place + b.words ≤ a))
  others [] h i k a n = absurd n
  others (o ∷ bs) h i k a n =
      let block = heap.blocks.0 in
      let other = h.0 in
      let inner = i.0 in
      ⊎_elim
      (λ mine. (omega (arith, mine, other, inner), ⊎_elim (λ l. inr (let r : b.place + b.words ≤ a = omega (arith, l, mine, other, block) in r)) (λ r. inl (let l : a < b.place = omega (arith, r, mine, other, block) in l)) k.0))
      (λ later. others bs h.1 i.1 k.1 a later) n

  pub kept_apart : (a : ℕ) → IsKept live a → (2048 ≤ a) × ((a < b.place) ⊎ (b.place + b.words ≤ a))
  kept_apart a k = ⊎_elim (others live heap.blocks.1 inside.1 alone.0 a) (λ s. let o = own_words in (omega (arith, s), inr (omega (arith, s, o)))) k

-- two blocks lie apart
pub two_apart : (ws : List ℕ) (first : ℕ) (parts : List ℕ) (b c : Block) (live : List Block) → HeapOf ws first parts (b ∷ c ∷ live) → (c.place + c.words ≤ b.place) ⊎ (b.place + b.words ≤ c.place)
two_apart ws first parts b c live heap =
    let block = heap.blocks.0 in
    let other = heap.blocks.1.0 in
    ⊎_elim (λ l. inr (let r : b.place + b.words ≤ c.place = omega (arith, l, block, other) in r)) (λ r. inl (let l : c.place + c.words ≤ b.place = omega (arith, r, block, other) in l)) (alone ws first parts b (c ∷ live) heap).0.0

-- a store into a block that is live
pub stored_holds : (s : State) (free : ℕ) (live : List Block) (a w : ℕ) → IsKept live a → Holds s free live → Holds (record s { words = with_heap_word s.words a w }) free live
stored_holds s free live a w k h = (
  h.0,
  record {
    room = record { static = h.1.room.static; words = length-set s.words (a - 2048) w ∙ h.1.room.words };
    heap = keeping.law s.words (slice_index s.statics free) h.0 live a w h.1.heap k;
  },
)

-- it changes no word of the others
pub stored_keeps : (s : State) (free : ℕ) (b : Block) (live : List Block) (a w : ℕ) → Holds s free (b ∷ live) → b.place ≤ a → a < b.place + b.words → KeepsOthers free live s (record s { words = with_heap_word s.words a w })
stored_keeps s free b live a w h low high =
    let own = own_words s.words (slice_index s.statics free) h.0 b live h.1.heap in
    record {
      statics = λ k d. refl;
      same_length = refl;
      words = λ c k.
          let apart = kept_apart s.words (slice_index s.statics free) h.0 b live h.1.heap c k in
          let side = apart.1 in
          other_word s.words a c w (omega (arith, own, low)) apart.0 (λ e. ⊎_elim (λ l. omega (arith, l, e, low)) (λ r. omega (arith, r, e, high)) side);
    }

-- ---- what is kept, one after the other

pub keeps_then : (free : ℕ) (live : List Block) (s t u : State) → KeepsOthers free live s t → KeepsOthers free live t u → KeepsOthers free live s u
keeps_then free live s t u a b = record {
  statics = λ k d. b.statics k d ∙ a.statics k d;
  same_length = b.same_length ∙ a.same_length;
  words = λ c k. b.words c k ∙ a.words c k;
}

pub keeps_fewer : (free : ℕ) (b : Block) (live : List Block) (s t : State) → KeepsOthers free (b ∷ live) s t → KeepsOthers free live s t
keeps_fewer free b live s t k = record {
  statics = k.statics;
  same_length = k.same_length;
  words = λ c i. k.words c (⊎_elim (λ l. inl (inr l)) (λ r. inr r) i);
}
