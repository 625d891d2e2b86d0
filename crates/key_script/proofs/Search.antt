-- Where moments rise, the lines whose moment has come are the first ones.
use Rattle.std.proofs.Common.{◌≡◌, ℕ, zero, suc, ◌+◌, ◌<◌, ◌≤◌, Bool, true, false, cond, List, [], ◌∷◌, length, take, slice_index_or, refl, ap, ◌∙◌, arith, leb-true}
use Rattle.std.specs.Prelude.{filter, nat_le}
use Rattle.std.specs.List.{AllWithin}
use Rattle.std.specs.List.Sorted.{IsNonDecreasingBy, IsPartitionPoint}
use Rattle.grammar.specs.Cutting.{last_of}
use Rattle.key_script.specs.declared.lines.Line.{Line}
use Rattle.key_script.specs.Codes.{are_rising, has_come, code_of, code_at}
use Rattle.std.proofs.lemmas.Bool.{and_parts}

at_least : (least : ℕ) (ls : List Line) → are_rising least ls ≡ true → (j : ℕ) (d : Line) → j < length ls → least ≤ (slice_index_or ls j d).moment
at_least least [] up j d h = absurd (omega arith)
at_least least (l ∷ ls) up zero d h = leb-true least l.moment (and_parts _ _ up).0
at_least least (l ∷ ls) up (suc j) d h =
    let one = leb-true least l.moment (and_parts _ _ up).0 in
    let rest = at_least (l.moment + 1) ls (and_parts (nat_le least l.moment) (are_rising (l.moment + 1) ls) up).1 j d (omega (arith, h)) in
    omega (arith, one, rest)

pub in_order : (least : ℕ) (ls : List Line) → are_rising least ls ≡ true → IsNonDecreasingBy (λ (l : Line). l.moment) ls
in_order least [] up i j d le h = absurd (omega arith)
in_order least (l ∷ ls) up zero zero d le h = omega arith
in_order least (l ∷ ls) up zero (suc j) d le h = let rest = at_least (l.moment + 1) ls (and_parts (nat_le least l.moment) (are_rising (l.moment + 1) ls) up).1 j d (omega (arith, h)) in omega (arith, rest)
in_order least (l ∷ ls) up (suc i) zero d le h = absurd (omega arith)
in_order least (l ∷ ls) up (suc i) (suc j) d le h = in_order (l.moment + 1) ls (and_parts _ _ up).1 i j d (omega (arith, le)) (omega (arith, h))

filter_none : (p : Line → Bool) (ls : List Line) → AllWithin (λ l. p l ≡ false) ls 0 (length ls) → filter p ls ≡ []
filter_none p [] none = refl
filter_none p (l ∷ ls) none =
    ap (λ (b : Bool). cond b (l ∷ filter p ls) (filter p ls)) (none 0 l (omega arith) (omega arith))
    ∙ filter_none p ls (λ k d lo hi. none (suc k) d (omega arith) (omega (arith, hi)))

filter_front : (p : Line → Bool) (ls : List Line) (k : ℕ) → IsPartitionPoint (λ l. p l ≡ true) (λ l. p l ≡ false) ls k → filter p ls ≡ take k ls
filter_front p [] zero point = refl
filter_front p [] (suc k) point = refl
filter_front p (l ∷ ls) zero point = filter_none p (l ∷ ls) point.1
filter_front p (l ∷ ls) (suc k) point =
    ap (λ (b : Bool). cond b (l ∷ filter p ls) (filter p ls)) (point.0 0 l (omega arith) (omega arith))
    ∙ ap (λ (m : List Line). l ∷ m) (filter_front p ls k ((λ i d lo hi. point.0 (suc i) d (omega arith) (omega (arith, hi))), (λ i d lo hi. point.1 (suc i) d (omega (arith, lo)) (omega (arith, hi)))))

pub code_by : (ls : List Line) (c k : ℕ) → IsPartitionPoint (λ l. has_come c l ≡ true) (λ l. has_come c l ≡ false) ls k → code_at ls c ≡ code_of (last_of (take k ls))
code_by ls c k point = ap (λ (m : List Line). code_of (last_of m)) (filter_front (has_come c) ls k point)
