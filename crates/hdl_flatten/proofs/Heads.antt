-- Parts that are kept as kinds, nodes and heads.
use Rattle.std.proofs.Common.{◌≡◌, ◌<◌, ◌≤◌, ◌+◌, ◌-◌, ℕ, zero, suc, List, [], ◌∷◌, ◌++◌, length, map, take, drop, refl, sym, ap, subst, ◌∙◌, arith}
use Rattle.std.specs.Prelude.{Option, Some, None, slice_get, slice_index, slice_index_or, slice_range}
use Rattle.std.specs.List.{All}
use Rattle.std.proofs.lemmas.List.{length-append, length-drop, get_or_append_left, take-append-le, drop-append-le, take-map, drop-map, map-append, take_all, drop_at}
use Rattle.std.proofs.lemmas.List.Elements.{All-append}
use Rattle.hdl_flatten.specs.declared.flat.PartAt.{PartAt}
use Rattle.hdl_flatten.specs.declared.parts.Head.{Head}
use Rattle.hdl_flatten.specs.declared.parts.Kind.{Kind}
use Rattle.hdl_flatten.specs.Kept.{renumbered}
use Rattle.hdl_flatten.specs.Inner.Heads.{HasMore, IsHead, kind_at, part_from, part_of}

-- what is there is found
pub found : {X : Type 0} (xs : List X) (k : ℕ) (x d : X) → slice_get xs k ≡ Some x → slice_index_or xs k d ≡ x
found [] k x d e = absurd cc
found (y ∷ xs) zero x d e = cc
found (y ∷ xs) (suc k) x d e = found xs k x d e

pub there : {X : Type 0} (xs : List X) (k : ℕ) (x : X) → slice_get xs k ≡ Some x → k < length xs
there [] k x e = absurd cc
there (y ∷ xs) zero x e = omega arith
there (y ∷ xs) (suc k) x e = let lt = there xs k x e in omega (arith, lt)

pub got : {X : Type 0} (xs : List X) (k : ℕ) (d : X) → k < length xs → slice_get xs k ≡ Some (slice_index_or xs k d)
got [] k d lt = absurd (omega (arith, lt))
got (y ∷ xs) zero d lt = refl
got (y ∷ xs) (suc k) d lt = got xs k d (omega (arith, lt))

-- ---- more kinds and nodes

range_kept : (nodes more : List ℕ) (i j : ℕ) → i ≤ j → j ≤ length nodes → slice_range (nodes ++ more) i j ≡ slice_range nodes i j
range_kept nodes more i j le lt =
    let long = length-drop i nodes in
    ap (take (j - i)) (drop-append-le i nodes more (omega (arith, le, lt))) ∙ take-append-le (j - i) (drop i nodes) more (omega (arith, le, lt, long))

range_end : (nodes more : List ℕ) (i j : ℕ) → i ≡ length nodes → j ≡ length (nodes ++ more) → slice_range (nodes ++ more) i j ≡ more
range_end nodes more i j e f =
    let long = length-append nodes more in
    ap (take (j - i)) (drop_at nodes more i (sym e)) ∙ take_all (j - i) more (omega (arith, e, f, long))

part_kept : (kinds more : List Kind) (nodes outs : List ℕ) (head : Head) → IsHead kinds (length nodes) head → part_of (kinds ++ more) (nodes ++ outs) head ≡ part_of kinds nodes head
part_kept kinds more nodes outs head is =
    let kind = kind_at kinds head.kind in
    let same : kind_at (kinds ++ more) head.kind ≡ kind = get_or_append_left kinds more _ head.kind is.kind in
    let outs_are : slice_range (nodes ++ outs) head.from (head.from + kind.outs) ≡ slice_range nodes head.from (head.from + kind.outs) = range_kept nodes outs head.from (head.from + kind.outs) (omega arith) is.end in
    ap (part_from (nodes ++ outs) head.from) same
    ∙ ap (λ (os : List ℕ). record { chip = kind.chip; outs = os; block = kind.block }) outs_are

parts_kept : (kinds more : List Kind) (nodes outs : List ℕ) (heads : List Head) → All (IsHead kinds (length nodes)) heads → map (part_of (kinds ++ more) (nodes ++ outs)) heads ≡ map (part_of kinds nodes) heads
parts_kept kinds more nodes outs [] all = refl
parts_kept kinds more nodes outs (head ∷ heads) all =
    ap (λ (p : PartAt). p ∷ map (part_of (kinds ++ more) (nodes ++ outs)) heads) (part_kept kinds more nodes outs head (all 0 head (omega arith)))
    ∙ ap (λ (ps : List PartAt). part_of kinds nodes head ∷ ps) (parts_kept kinds more nodes outs heads (λ k d lt. all (suc k) d (omega (arith, lt))))

-- ---- one more part

abbrev pub kind_of : PartAt → Kind
kind_of part = record { chip = part.chip; outs = length part.outs; block = part.block }

pub one_more : (kinds kinds2 : List Kind) (nodes nodes2 : List ℕ) (heads heads2 : List Head) (part : PartAt) (head : Head) → All (IsHead kinds (length nodes)) heads → HasMore kinds kinds2 → slice_get kinds2 head.kind ≡ Some (kind_of part) →
    nodes2 ≡ nodes ++ part.outs → head.from ≡ length nodes → heads2 ≡ heads ++ head ∷ [] →
    map (part_of kinds2 nodes2) heads2 ≡ map (part_of kinds nodes) heads ++ part ∷ []
one_more kinds kinds2 nodes nodes2 heads heads2 part head all h kind e from f =
    let long = length-append nodes part.outs in
    let outs_are : slice_range nodes2 head.from (head.from + length part.outs) ≡ part.outs =
    ap (λ (ns : List ℕ). slice_range ns head.from (head.from + length part.outs)) e ∙ range_end nodes part.outs head.from (head.from + length part.outs) from (omega (arith, from, long)) in
    let last : part_of kinds2 nodes2 head ≡ part =
    ap (part_from nodes2 head.from) (found kinds2 head.kind (kind_of part) _ kind)
    ∙ ap (λ (os : List ℕ). record { chip = part.chip; outs = os; block = part.block }) outs_are in
    let before : map (part_of kinds2 nodes2) heads ≡ map (part_of kinds nodes) heads =
    ap (λ (ns : List ℕ). map (part_of kinds2 ns) heads) e ∙ ap (λ (ks : List Kind). map (part_of ks (nodes ++ part.outs)) heads) h.longer ∙ parts_kept kinds h.more nodes part.outs heads all in
    ap (map (part_of kinds2 nodes2)) f ∙ map-append (part_of kinds2 nodes2) heads (head ∷ [])
    ∙ ap (λ (ps : List PartAt). ps ++ part_of kinds2 nodes2 head ∷ []) before
    ∙ ap (λ (p : PartAt). map (part_of kinds nodes) heads ++ p ∷ []) last

-- ---- each head names what is there

head_stays : (kinds kinds2 : List Kind) (n n2 : ℕ) (head : Head) → IsHead kinds n head → HasMore kinds kinds2 → n ≤ n2 → IsHead kinds2 n2 head
head_stays kinds kinds2 n n2 head is h le =
    let same : kind_at kinds2 head.kind ≡ kind_at kinds head.kind = ap (λ (ks : List Kind). kind_at ks head.kind) h.longer ∙ get_or_append_left kinds h.more _ head.kind is.kind in
    let outs = ap (λ (k : Kind). k.outs) same in
    let long = ap length h.longer ∙ length-append kinds h.more in
    let end = is.end in
    let number = is.kind in
    record { kind = omega (arith, long, number); end = omega (arith, outs, end, le) }

alone : {X : Type 0} (P : X → Type 0) (x : X) → P x → All P (x ∷ [])
alone P x p zero d lt = p
alone P x p (suc k) d lt = absurd (omega (arith, lt))

pub heads_stay : (kinds kinds2 : List Kind) (nodes nodes2 : List ℕ) (heads heads2 : List Head) (part : PartAt) (head : Head) → All (IsHead kinds (length nodes)) heads → HasMore kinds kinds2 → slice_get kinds2 head.kind ≡ Some (kind_of part) →
    nodes2 ≡ nodes ++ part.outs → head.from ≡ length nodes → heads2 ≡ heads ++ head ∷ [] → All (IsHead kinds2 (length nodes2)) heads2
heads_stay kinds kinds2 nodes nodes2 heads heads2 part head all h kind e from f =
    let long = ap length e ∙ length-append nodes part.outs in
    let outs = ap (λ (k : Kind). k.outs) (found kinds2 head.kind (kind_of part) (record { chip = []; outs = 0; block = None }) kind) in
    let last : IsHead kinds2 (length nodes2) head = record { kind = there kinds2 head.kind (kind_of part) kind; end = omega (arith, outs, long, from) } in
    let before : All (IsHead kinds2 (length nodes2)) heads = λ k d lt. head_stays kinds kinds2 (length nodes) (length nodes2) _ (all k d lt) h (omega (arith, long)) in
    subst (λ (l : List Head). All (IsHead kinds2 (length nodes2)) l) (sym f) (All-append (IsHead kinds2 (length nodes2)) heads (head ∷ []) before (alone (IsHead kinds2 (length nodes2)) head last))

-- ---- other places

part_renumbered : (kinds : List Kind) (nodes places : List ℕ) (head : Head) → part_of kinds (map (slice_index places) nodes) head ≡ renumbered places (part_of kinds nodes head)
part_renumbered kinds nodes places head =
    let kind = kind_at kinds head.kind in
    let end = head.from + kind.outs in
    ap (λ (os : List ℕ). record { chip = kind.chip; outs = os; block = kind.block })
    (ap (take (end - head.from)) (drop-map (slice_index places) head.from nodes) ∙ take-map (slice_index places) (end - head.from) (drop head.from nodes))

pub all_renumbered : (kinds : List Kind) (nodes places : List ℕ) (heads : List Head) → map (part_of kinds (map (slice_index places) nodes)) heads ≡ map (renumbered places) (map (part_of kinds nodes) heads)
all_renumbered kinds nodes places [] = refl
all_renumbered kinds nodes places (head ∷ heads) =
    ap (λ (p : PartAt). p ∷ map (part_of kinds (map (slice_index places) nodes)) heads) (part_renumbered kinds nodes places head)
    ∙ ap (λ (ps : List PartAt). renumbered places (part_of kinds nodes head) ∷ ps) (all_renumbered kinds nodes places heads)

-- ---- each item

pub all_mapped : (f : ℕ → ℕ) (xs ys : List ℕ) → length ys ≡ length xs → ((k : ℕ) → k < length xs → slice_index ys k ≡ f (slice_index xs k)) → ys ≡ map f xs
all_mapped f [] [] e h = refl
all_mapped f [] (y ∷ ys) e h = absurd (omega (arith, e))
all_mapped f (x ∷ xs) [] e h = absurd (omega (arith, e))
all_mapped f (x ∷ xs) (y ∷ ys) e h =
    ap (λ (z : ℕ). z ∷ ys) (h 0 (omega arith)) ∙ ap (λ (zs : List ℕ). f x ∷ zs) (all_mapped f xs ys (omega (arith, e)) (λ k lt. h (suc k) (omega (arith, lt))))

abbrev to_list : Option PartAt → List PartAt
to_list None = []
to_list (Some p) = p ∷ []

one_taken : (all : List PartAt) (k : ℕ) (p : PartAt) → slice_get all k ≡ Some p → take (suc k) all ≡ take k all ++ p ∷ []
one_taken [] k p e = absurd cc
one_taken (q ∷ all) zero p e = ap to_list e
one_taken (q ∷ all) (suc k) p e = ap (λ (ps : List PartAt). q ∷ ps) (one_taken all k p e)

pub more_taken : (all now next : List PartAt) (k : ℕ) (p q : PartAt) → now ≡ take k all → next ≡ now ++ p ∷ [] → p ≡ q → slice_get all k ≡ Some q → next ≡ take (k + 1) all
more_taken all now next k p q e f g h =
    let n : suc k ≡ k + 1 = omega arith in
    f ∙ ap (λ (ps : List PartAt). ps ++ p ∷ []) e ∙ ap (λ (x : PartAt). take k all ++ x ∷ []) g ∙ sym (one_taken all k q h) ∙ ap (λ m. take m all) n
