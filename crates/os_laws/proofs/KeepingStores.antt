-- A store into a live block's words or the screen keeps the heap.
use Rattle.std.proofs.Common.{◌≢◌, ⊎_elim, ℕ, ◌+◌, ◌-◌, ◌<◌, ◌≤◌, List, [], ◌∷◌, ◌++◌, map, arith}
use Rattle.std.specs.Prelude.{slice_set}
use Rattle.std.specs.List.{AllByRecursion}
use Rattle.os_laws.specs.Heap.{word_at, Part, Block, part_at, part_of, IsInHeap, AreApart, NoneOverlap, IsBlock, InBlocks}
use Rattle.os_laws.specs.Laws.{StoreLaw}
use Rattle.os_laws.proofs.Parts.{all_split, all_of_map, all_both, all_map, last_ones}
use Rattle.os_laws.proofs.Storing.{other_word, SameAt, heap_kept}

-- an address in none of these blocks' parts is no word of theirs
outside : (ws : List ℕ) (p : Part) (a : ℕ) (live : List Block) → p.begin ≤ a → a < p.begin + p.size → AllByRecursion (IsBlock ws) live → AllByRecursion (λ b. AreApart p (part_of ws b)) live → InBlocks live a → ⊥
outside ws p a [] low high h k i = i
outside ws p a (b ∷ bs) low high h k i =
    let block = h.0 in
    ⊎_elim (λ inside. ⊎_elim (λ l. omega (arith, l, inside, block, low, high)) (λ r. omega (arith, r, inside, block, low, high)) k.0) (λ later. outside ws p a bs low high h.1 k.1 later) i

-- free parts are apart from each block
apart_of_blocks : (ws : List ℕ) (parts : List ℕ) (live : List Block) → NoneOverlap (map (part_at ws) parts ++ map (part_of ws) live) → AllByRecursion (λ c. AllByRecursion (λ b. AreApart (part_at ws c) (part_of ws b)) live) parts
apart_of_blocks ws [] live h = tt
apart_of_blocks ws (c ∷ cs) live h =
    (all_of_map (AreApart (part_at ws c)) (part_of ws) live (all_split (AreApart (part_at ws c)) (map (part_at ws) cs) (map (part_of ws) live) h.0).1, apart_of_blocks ws cs live h.1)

-- a word of a block, of one of these or of another one, is not the first word of the part of one of these
header_of : (ws : List ℕ) (a : ℕ) (other : Block) (bs : List Block) → IsBlock ws other → AllByRecursion (IsBlock ws) bs → AllByRecursion (λ b. AreApart (part_of ws other) (part_of ws b)) bs → other.place ≤ a → a < other.place + other.words
    → AllByRecursion (λ (b : Block). b.place - 1 ≢ a) bs
header_of ws a other [] o h k low high = tt
header_of ws a other (b ∷ bs) o h k low high =
    let block = h.0 in
    ((λ e. ⊎_elim (λ l. omega (arith, l, e, o, block, low, high)) (λ r. omega (arith, r, e, o, block, low, high)) k.0), header_of ws a other bs o h.1 k.1 low high)

headers : (ws : List ℕ) (a : ℕ) (live : List Block) → AllByRecursion (IsBlock ws) live → NoneOverlap (map (part_of ws) live) → InBlocks live a → AllByRecursion (λ (b : Block). b.place - 1 ≢ a) live
headers ws a [] h k i = tt
headers ws a (b ∷ bs) h k i =
    let block = h.0 in
    let apart = all_of_map (AreApart (part_of ws b)) (part_of ws) bs k.0 in
    ⊎_elim
    (λ mine. ((λ e. omega (arith, e, block, mine)), header_of ws a b bs block h.1 apart mine.0 mine.1))
    (λ later. ((λ e. outside ws (part_of ws b) a bs (omega (arith, e)) (omega (arith, e, block)) h.1 apart later), headers ws a bs h.1 k.1 later)) i

above : (ws : List ℕ) (a : ℕ) (live : List Block) → 16384 ≤ a → AllByRecursion (IsBlock ws) live → AllByRecursion (λ (b : Block). IsInHeap (part_of ws b)) live → AllByRecursion (λ (b : Block). b.place - 1 ≢ a) live
above ws a [] h k i = tt
above ws a (b ∷ bs) h k i = let block = k.0 in let inside = i.0 in ((λ e. omega (arith, e, h, block, inside)), above ws a bs h k.1 i.1)

low_in : (ws : List ℕ) (a : ℕ) (live : List Block) → AllByRecursion (IsBlock ws) live → AllByRecursion (λ (b : Block). IsInHeap (part_of ws b)) live → InBlocks live a → 2048 ≤ a
low_in ws a [] k i h = absurd h
low_in ws a (b ∷ bs) k i h = let inside = i.0 in ⊎_elim (λ mine. omega (arith, mine, inside)) (λ later. low_in ws a bs k.1 i.1 later) h

pub law : StoreLaw
law ws first parts live a w heap kept =
    let blocks_inside = all_of_map IsInHeap (part_of ws) live (all_split IsInHeap (map (part_at ws) parts) (map (part_of ws) live) heap.inside).1 in
    let free_inside = all_of_map IsInHeap (part_at ws) parts (all_split IsInHeap (map (part_at ws) parts) (map (part_of ws) live) heap.inside).0 in
    let low : 2048 ≤ a = ⊎_elim (low_in ws a live heap.blocks blocks_inside) (λ s. omega (arith, s)) kept in
    let away : (p : Part) → IsInHeap p → AllByRecursion (λ b. AreApart p (part_of ws b)) live → (k : ℕ) → p.begin ≤ k → k < p.begin + p.size → k ≢ a =
    λ p inside apart k from to e. ⊎_elim (λ i. outside ws p a live (omega (arith, e, from)) (omega (arith, e, to)) heap.blocks apart i) (λ s. omega (arith, s, e, to, inside)) kept in
    let known = all_both (λ c. 2 ≤ word_at ws c) (λ c. IsInHeap (part_at ws c) × AllByRecursion (λ b. AreApart (part_at ws c) (part_of ws b)) live) (λ c. (2 ≤ word_at ws c) × IsInHeap (part_at ws c) × AllByRecursion (λ b. AreApart (part_at ws c) (part_of ws b)) live) parts (λ c l k. (l, k.0, k.1)) heap.long
    (all_both (λ c. IsInHeap (part_at ws c)) (λ c. AllByRecursion (λ b. AreApart (part_at ws c) (part_of ws b)) live) (λ c. IsInHeap (part_at ws c) × AllByRecursion (λ b. AreApart (part_at ws c) (part_of ws b)) live) parts (λ c i k. (i, k)) free_inside (apart_of_blocks ws parts live heap.apart)) in
    let ws' = slice_set ws (a - 2048) w in
    let differ = ⊎_elim (headers ws a live heap.blocks (last_ones (map (part_at ws) parts) (map (part_of ws) live) heap.apart)) (λ s. above ws a live s.0 heap.blocks blocks_inside) kept in
    heap_kept ws ws' first parts live heap
    (all_map (λ c. (2 ≤ word_at ws c) × IsInHeap (part_at ws c) × AllByRecursion (λ b. AreApart (part_at ws c) (part_of ws b)) live) (SameAt ws ws') parts (λ c k. other_word ws a c w low k.1.0 (away (part_at ws c) k.1 k.2 c (omega arith) (omega (arith, k)))) known)
    (all_map (λ c. (2 ≤ word_at ws c) × IsInHeap (part_at ws c) × AllByRecursion (λ b. AreApart (part_at ws c) (part_of ws b)) live) (λ c. SameAt ws ws' (c + 1)) parts (λ c k. other_word ws a (c + 1) w low (omega (arith, k.1)) (away (part_at ws c) k.1 k.2 (c + 1) (omega arith) (omega (arith, k)))) known)
    (all_both (λ (b : Block). b.place - 1 ≢ a) (λ (b : Block). IsInHeap (part_of ws b)) (λ (b : Block). SameAt ws ws' (b.place - 1)) live (λ b d i. other_word ws a (b.place - 1) w low i.0 d) differ blocks_inside)
