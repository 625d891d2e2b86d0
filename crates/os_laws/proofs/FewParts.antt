-- The free parts are few: their places differ, and each is one of the heap's.
use Rattle.std.proofs.Common.{◌≡◌, ⊎_elim, ℕ, ◌+◌, ◌-◌, ◌<◌, ◌≤◌, false, nat_eq, List, [], ◌∷◌, ◌++◌, map, length, ◌∙◌, arith}
use Rattle.std.specs.List.{AllByRecursion, IsDistinct, range_with_len}
use Rattle.std.proofs.lemmas.Bool.Decides.{nat_tests, Decides-eqb}
use Rattle.std.proofs.lemmas.Cmp.{nat_eq_equiv}
use Rattle.std.proofs.lemmas.List.Elements.{All-from_recursion, All-contains}
use Rattle.std.proofs.lemmas.List.FromFn.{length-range_with_len, get_or-range_with_len}
use Rattle.std.proofs.lemmas.Map.Made.{length-le_from_is_member, is_member-Decides}
use Rattle.os_laws.specs.Heap.{word_at, Part, Block, part_at, part_of, IsInHeap, AreApart, NoneOverlap, HeapOf}
use Rattle.os_laws.specs.Laws.{DistinctLaw}
use Rattle.os_laws.proofs.Parts.{all_split, all_of_map, all_both}

differ : (c q : ℕ) → c < q → nat_eq c q ≡ false
differ c q h = grind (arith, nat_tests)

differ_back : (c q : ℕ) → q < c → nat_eq c q ≡ false
differ_back c q h = grind (arith, nat_tests)

others_differ : (ws : List ℕ) (c : ℕ) (cs : List ℕ) → 2 ≤ word_at ws c → AllByRecursion (λ q. 2 ≤ word_at ws q) cs → AllByRecursion (λ q. AreApart (part_at ws c) (part_at ws q)) cs → AllByRecursion (λ q. nat_eq c q ≡ false) cs
others_differ ws c [] l h a = tt
others_differ ws c (q ∷ cs) l h a =
    let long = h.0 in
    (⊎_elim (λ x. differ c q (omega (arith, x, l))) (λ y. differ_back c q (omega (arith, y, long))) a.0, others_differ ws c cs l h.1 a.1)

all_differ : (ws : List ℕ) (cs : List ℕ) → NoneOverlap (map (part_at ws) cs) → AllByRecursion (λ q. 2 ≤ word_at ws q) cs → IsDistinct nat_eq cs
unfolding IsDistinct
all_differ ws [] h l = tt
all_differ ws (c ∷ cs) h l = (others_differ ws c cs l.0 l.1 (all_of_map (AreApart (part_at ws c)) (part_at ws) cs h.0), all_differ ws cs h.1 l.1)

first_ones : (xs ys : List Part) → NoneOverlap (xs ++ ys) → NoneOverlap xs
first_ones [] ys h = tt
first_ones (x ∷ xs) ys h = ((all_split (AreApart x) xs ys h.0).0, first_ones xs ys h.1)

pub distinct : DistinctLaw
distinct ws first parts live h = all_differ ws parts (first_ones (map (part_at ws) parts) (map (part_of ws) live) h.apart) h.long

-- at most one for each word of the heap
pub few_parts : (ws : List ℕ) (first : ℕ) (parts : List ℕ) (live : List Block) → HeapOf ws first parts live → length parts ≤ 14336
few_parts ws first parts live h =
    let inside = all_of_map IsInHeap (part_at ws) parts (all_split IsInHeap (map (part_at ws) parts) (map (part_of ws) live) h.inside).0 in
    let lies : AllByRecursion (λ q. (2 ≤ word_at ws q) × IsInHeap (part_at ws q)) parts = all_both (λ q. 2 ≤ word_at ws q) (λ q. IsInHeap (part_at ws q)) (λ q. (2 ≤ word_at ws q) × IsInHeap (part_at ws q)) parts (λ q a b. (a, b)) h.long inside in
    let fewer = length-le_from_is_member nat_eq_equiv parts (range_with_len 2048 14336) (distinct ws first parts live h)
    (λ q m.
    let p = All-contains (λ r. (2 ≤ word_at ws r) × IsInHeap (part_at ws r)) parts q (All-from_recursion (λ r. (2 ≤ word_at ws r) × IsInHeap (part_at ws r)) parts lies) ((is_member-Decides Decides-eqb parts q).0 m) in
    (is_member-Decides Decides-eqb (range_with_len 2048 14336) q).1 (q - 2048, omega (arith, p, length-range_with_len 2048 14336), get_or-range_with_len 2048 14336 (q - 2048) q (omega (arith, p)) ∙ (let e : 2048 + (q - 2048) ≡ q = omega (arith, p) in e))) in
    omega (arith, fewer, length-range_with_len 2048 14336)
