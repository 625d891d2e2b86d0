-- Which bits lead to which, as more is found.
use Rattle.std.proofs.Common.{◌≡◌, ℕ, zero, suc, ◌+◌, ◌<◌, ◌≤◌, ◌⊎◌, inl, inr, Bool, true, false, cond, ◌&&◌, ◌||◌, List, [], ◌∷◌, ◌++◌, length, map, Some, get_or, take, drop, refl, sym, ap, subst, ◌∙◌, arith, below_more}
use Rattle.std.specs.Prelude.{slice_get, slice_index_or, slice_set}
use Rattle.std.proofs.lemmas.List.{append-nil, drop_all, take_all}
use Rattle.std.proofs.lemmas.Option.{slice_get_within, get_or_from_slice_get}
use Rattle.hdl_check.proofs.MarkLemmas.{both}
use Rattle.hdl_plans.specs.Loops.{BitAt, bit_at}
use Rattle.hdl_plans.specs.Ways.{Chain, Way}
use Rattle.hdl_plans.proofs.Walks.{one_step}
use Rattle.hdl_loops.specs.Inner.Hops.{bit, is_bit, HasHop}
use Rattle.hdl_loops.specs.Inner.Bundles.{hops_in, turn}
use Rattle.hdl_loops.specs.declared.bundle.Bundle.{Bundle}
use Rattle.hdl_loops.specs.Inner.Trees.{place_in, IsGrown}
use Rattle.hdl_loops.specs.Inner.Pairs.{is_pair, has_pair, has_name, AreWays, KeepsPairs, IsOnlyMore, BitLeads}
use Rattle.hdl_loops.specs.declared.hops.Hop.{Hop}
use Rattle.hdl_loops.specs.declared.tree.Node.{Node}
use Rattle.hdl_loops.specs.declared.tree.Tree.{Tree}
use Rattle.hdl_loops.specs.declared.pairs.Pair.{Pair}
use Rattle.hdl_loops.specs.declared.pairs.PinNames.{PinNames}
use Rattle.hdl_loops.proofs.Growing.{bit_is, some_of, node_way, way_marked, one_more}
use Rattle.hdl_loops.proofs.Bundling.{hop_back, hop_forth}
use Rattle.hdl_loops.proofs.Lists.{get_there}
use Rattle.hdl_loops.proofs.Passing.{any_inserted}

-- ---- a key more

-- ---- pairs

or_cases : (a b : Bool) → (a || b) ≡ true → (a ≡ true) ⊎ (b ≡ true)
or_cases true b h = inl refl
or_cases false b h = inr h

and_both : (a b : Bool) → a ≡ true → b ≡ true → (a && b) ≡ true
and_both true b e f = f
and_both false b e f = absurd cc

pub only_more : (old new : List Pair) (b : Bool) (p : Pair) → new ≡ cond b old (old ++ p ∷ []) → IsOnlyMore old new (bit p.from) (bit p.to)
only_more old new b p is n m k l h = by (or_cases (has_pair old (bit_at [] n k) (bit_at [] m l)) (is_pair (bit_at [] n k) (bit_at [] m l) p) (any_inserted (is_pair (bit_at [] n k) (bit_at [] m l)) b old p (ap (λ (ps : List Pair). has_pair ps (bit_at [] n k) (bit_at [] m l)) (sym is) ∙ h)))
  where
    by : (has_pair old (bit_at [] n k) (bit_at [] m l) ≡ true) ⊎ (is_pair (bit_at [] n k) (bit_at [] m l) p ≡ true) → (has_pair old (bit_at [] n k) (bit_at [] m l) ≡ true) ⊎ ((bit p.from ≡ bit_at [] n k) × (bit p.to ≡ bit_at [] m l))
    by (inl e) = inl e
    by (inr e) = let r = both (is_bit (bit_at [] n k) p.from) (is_bit (bit_at [] m l) p.to) e in inr (bit_is n k p.from r.0, bit_is m l p.to r.1)

pub ways_more : (hs : List Hop) (old new : List Pair) (x y : BitAt) → AreWays hs old → IsOnlyMore old new x y → Way (HasHop hs) x y → AreWays hs new
ways_more hs old new x y are only w n m b k h = by (only n m b k h)
  where
    by : (has_pair old (bit_at [] n b) (bit_at [] m k) ≡ true) ⊎ ((x ≡ bit_at [] n b) × (y ≡ bit_at [] m k)) → Way (HasHop hs) (bit_at [] n b) (bit_at [] m k)
    by (inl e) = are n m b k e
    by (inr e) = subst (λ (v : BitAt). Way (HasHop hs) v (bit_at [] m k)) e.0 (subst (Way (HasHop hs) x) e.1 w)

pub pairs_kept : (a b c : List Pair) → KeepsPairs a b → KeepsPairs b c → KeepsPairs a c
pairs_kept a b c h g x y e = g x y (h x y e)

-- the pairs of all that is reached
pub tree_leads : (hs : List Hop) (t : Tree) (names : PinNames) (ps : List Pair) (x : BitAt) (k : ℕ) → IsGrown hs t x → length t.nodes.items ≤ k →
    ((j : ℕ) → j < k → (node : Node) → slice_get t.nodes.items j ≡ Some node → has_name names node.hop.to.name.now ≡ true → has_pair ps x (bit node.hop.to) ≡ true) → BitLeads hs names ps x
tree_leads hs t names ps x k grown le all m b named w =
    let marked = way_marked hs t x (bit_at [] m b) grown w in
    let s = some_of (place_in t (bit_at [] m b)) marked in
    let n = grown.right.places m b s.0 s.1 in
    let lt = slice_get_within t.nodes.items s.0 n.0 n.1 in
    let name_is : n.0.hop.to.name.now ≡ m = ap (λ (v : BitAt). v.name) n.2 in
    subst (λ (v : BitAt). has_pair ps x v ≡ true) n.2 (all s.0 (omega (arith, lt, le)) n.0 n.1 (ap (has_name names) name_is ∙ named))

pub way_at : (hs : List Hop) (t : Tree) (list : List Node) (x : BitAt) (j : ℕ) (d : Node) → IsGrown hs t x → list ≡ t.nodes.items → j < length list → Way (HasHop hs) x (bit (get_or list j d).hop.to)
way_at hs t list x j d grown same lt =
    let item = get_or list j d in
    let at : slice_get t.nodes.items j ≡ Some item = ap (λ (v : List Node). slice_get v j) (sym same) ∙ get_there list j d lt in
    subst (λ (v : BitAt). Way (HasHop hs) v (bit item.hop.to)) grown.root (node_way hs t grown.right j item at)

pub there_more : (names : PinNames) (list : List Node) (x : BitAt) (j : ℕ) (d : Node) (old new : List Pair) → KeepsPairs old new → (has_name names (get_or list j d).hop.to.name.now ≡ true → has_pair new x (bit (get_or list j d).hop.to) ≡ true) →
    ((i : ℕ) → i < j → (node : Node) → slice_get list i ≡ Some node → has_name names node.hop.to.name.now ≡ true → has_pair old x (bit node.hop.to) ≡ true) →
    (i : ℕ) → i < j + 1 → (node : Node) → slice_get list i ≡ Some node → has_name names node.hop.to.name.now ≡ true → has_pair new x (bit node.hop.to) ≡ true
there_more names list x j d old new keeps here before =
    below_more (λ i. (node : Node) → slice_get list i ≡ Some node → has_name names node.hop.to.name.now ≡ true → has_pair new x (bit node.hop.to) ≡ true) j
    (λ i lt node e named. keeps x (bit node.hop.to) (before i lt node e named))
    (λ node e. subst (λ (v : Node). has_name names v.hop.to.name.now ≡ true → has_pair new x (bit v.hop.to) ≡ true) (get_or_from_slice_get list j node d e) here)

pub leads_kept : (hs : List Hop) (names : PinNames) (old new : List Pair) (x : BitAt) → KeepsPairs old new → BitLeads hs names old x → BitLeads hs names new x
leads_kept hs names old new x keeps leads m k named w = keeps x (bit_at [] m k) (leads m k named w)

-- ---- hops the other way

-- a way is gone back by the hops the other way
back_on : (hs gs : List Hop) (ms : List BitAt) (x y : BitAt) → ((a b : BitAt) → HasHop hs a b → HasHop gs b a) → Chain (HasHop hs) x ms y → Way (HasHop gs) y x
back_on hs gs [] x y go s = one_step y x (go x y s)
back_on hs gs (m ∷ ms) x y go s = one_more gs y m x (back_on hs gs ms m y go s.1) (go x m s.0)

pub way_back : (bs back : List Bundle) → back ≡ map turn bs → (x y : BitAt) → Way (HasHop (hops_in bs)) x y → Way (HasHop (hops_in back)) y x
way_back bs back is x y w = subst (λ (v : List Bundle). Way (HasHop (hops_in v)) y x) (sym is) (back_on (hops_in bs) (hops_in (map turn bs)) w.over x y (hop_back bs) w.steps)

pub way_forth : (bs back : List Bundle) → back ≡ map turn bs → (x y : BitAt) → Way (HasHop (hops_in back)) y x → Way (HasHop (hops_in bs)) x y
way_forth bs back is x y w =
    let v : Way (HasHop (hops_in (map turn bs))) y x = subst (λ (v : List Bundle). Way (HasHop (hops_in v)) y x) is w in
    back_on (hops_in (map turn bs)) (hops_in bs) v.over y x (λ a b h. hop_forth bs b a h) v.steps

-- ---- bundles that are turned where they stand

one_done_at : (bs : List Bundle) (k : ℕ) (b : Bundle) → k < length bs → slice_index_or (map turn (take k bs) ++ drop k bs) k b ≡ b → slice_set (map turn (take k bs) ++ drop k bs) k (turn b) ≡ map turn (take (suc k) bs) ++ drop (suc k) bs
one_done_at [] k b lt e = absurd (omega (arith, lt))
one_done_at (x ∷ bs) zero b lt e = ap (λ (v : Bundle). turn v ∷ bs) (sym e)
one_done_at (x ∷ bs) (suc k) b lt e = ap (λ (v : List Bundle). turn x ∷ v) (one_done_at bs k b (omega (arith, lt)) e)

pub one_done : (bs now : List Bundle) (k : ℕ) (b : Bundle) → k < length bs → now ≡ map turn (take k bs) ++ drop k bs → slice_index_or now k b ≡ b → slice_set now k (turn b) ≡ map turn (take (suc k) bs) ++ drop (suc k) bs
one_done bs now k b lt is e =
    ap (λ (v : List Bundle). slice_set v k (turn b)) is ∙ one_done_at bs k b lt (ap (λ (v : List Bundle). slice_index_or v k b) (sym is) ∙ e)

pub all_done : (bs now : List Bundle) (k : ℕ) → length bs ≤ k → now ≡ map turn (take k bs) ++ drop k bs → now ≡ map turn bs
all_done bs now k le is = is ∙ ap (λ (v : List Bundle). map turn v ++ drop k bs) (take_all k bs le) ∙ ap (λ (v : List Bundle). map turn bs ++ v) (drop_all k bs le) ∙ append-nil (map turn bs)
