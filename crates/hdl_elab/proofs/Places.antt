-- The places of nodes: each is there, and each node of the new netlist stands at one of them.
use Rattle.std.proofs.Common.{◌≡◌, ℕ, zero, suc, ◌<◌, ◌⊎◌, inl, inr, Bool, true, false, ◌||◌, List, [], ◌∷◌, length, Some, refl, sym, ◌∙◌, arith}
use Rattle.std.specs.Prelude.{slice_get, slice_index}
use Rattle.std.specs.List.{list_any}
use Rattle.std.proofs.Common.{get_or, eqb}
use Rattle.std.proofs.lemmas.Bool.Decides.{Decides-eqb}
use Rattle.std.proofs.lemmas.Grind.{get_or_default_zero}
use Rattle.std.proofs.lemmas.Map.Keys.{IsDistinct-from_apart}
use Rattle.std.proofs.lemmas.Map.Steps.{length-le_from_distinct_below}
use Rattle.std.proofs.lemmas.Option.{slice_get_within}
use Rattle.netlist.specs.Net.{Net}
use Rattle.netlist.specs.Renamed.{IsRenamed}

pub record ItemAt {X : Type 0} (xs : List X) (k : ℕ) : Type 0 where
  pub item : X
  pub there : slice_get xs k ≡ Some item

pub item_at : {X : Type 0} (xs : List X) (k : ℕ) → k < length xs → ItemAt xs k
item_at [] k lt = absurd (omega arith)
item_at (x ∷ xs) zero lt = record { item = x; there = refl }
item_at (x ∷ xs) (suc k) lt = let r = item_at xs k (omega arith) in record { item = r.item; there = r.there }

pub same_or_not : (a b : ℕ) → (a ≡ b) ⊎ (a ≡ b → ⊥)
same_or_not a b = grind arith

-- ---- a number among those of a list, or not

pub record StandsAt (places : List ℕ) (k : ℕ) : Type 0 where
  pub i : ℕ
  pub below : i < length places
  pub at : slice_index places i ≡ k

abbrev StandsNowhere : List ℕ → ℕ → Type 0
StandsNowhere places k = (i : ℕ) → i < length places → slice_index places i ≡ k → ⊥

nowhere_of : (p : ℕ) (ps : List ℕ) (k : ℕ) → (p ≡ k → ⊥) → StandsNowhere ps k → StandsNowhere (p ∷ ps) k
nowhere_of p ps k ne not zero lt e = ne e
nowhere_of p ps k ne not (suc i) lt e = not i (omega arith) e

stands_by : (p : ℕ) (ps : List ℕ) (k : ℕ) → (p ≡ k) ⊎ (p ≡ k → ⊥) → StandsAt ps k ⊎ StandsNowhere ps k → StandsAt (p ∷ ps) k ⊎ StandsNowhere (p ∷ ps) k
stands_by p ps k (inl e) rest = inl (record { i = 0; below = omega arith; at = e })
stands_by p ps k (inr ne) (inl r) = let lt = r.below in inl (record { i = suc r.i; below = omega (arith, lt); at = r.at })
stands_by p ps k (inr ne) (inr not) = inr (nowhere_of p ps k ne not)

stands : (places : List ℕ) (k : ℕ) → StandsAt places k ⊎ StandsNowhere places k
stands [] k = inr (λ i lt e. absurd (omega arith))
stands (p ∷ ps) k = stands_by p ps k (same_or_not p k) (stands ps k)

-- ---- this many numbers apart, each below their number, are all of them

not_same : (a b : ℕ) (t : Bool) → eqb a b ≡ t → (a ≡ b → ⊥) → t ≡ false
not_same a b true e ne = absurd (ne ((Decides-eqb a b).0 e))
not_same a b false e ne = refl

get_zero : (xs : List ℕ) (i d : ℕ) → i < length xs → get_or xs i d ≡ slice_index xs i
get_zero xs i d lt = get_or_default_zero xs i d lt

apart_by : (k : ℕ) (places : List ℕ) → ((i j : ℕ) → i < length places → j < length places → slice_index places i ≡ slice_index places j → i ≡ j) → StandsNowhere places k → (i j : ℕ) (d : ℕ) → i < j → j < length (k ∷ places) → eqb (get_or (k ∷ places) i d) (get_or (k ∷ places) j d) ≡ false
apart_by k places apart not i zero d lt below = absurd (omega arith)
apart_by k places apart not zero (suc j) d lt below =
    let inside : j < length places = omega arith in
    not_same k (get_or places j d) (eqb k (get_or places j d)) refl (λ e. not j inside (sym (e ∙ get_zero places j d inside)))
apart_by k places apart not (suc i) (suc j) d lt below =
    let a : i < length places = omega arith in
    let b : j < length places = omega arith in
    not_same (get_or places i d) (get_or places j d) (eqb (get_or places i d) (get_or places j d)) refl
    (λ e. let same : i ≡ j = apart i j a b (sym (get_zero places i d a) ∙ e ∙ get_zero places j d b) in absurd (omega arith))

below_by : (x : ℕ) (xs : List ℕ) (n q : ℕ) (t : Bool) → eqb q x ≡ t → (t || list_any (eqb q) xs) ≡ true → x < n → (list_any (eqb q) xs ≡ true → q < n) → q < n
below_by x xs n q true e h lt go = let same : q ≡ x = (Decides-eqb q x).0 e in omega arith
below_by x xs n q false e h lt go = go h

below_any : (xs : List ℕ) (n : ℕ) → ((i : ℕ) → i < length xs → slice_index xs i < n) → (q : ℕ) → list_any (eqb q) xs ≡ true → q < n
below_any [] n below q h = absurd cc
below_any (x ∷ xs) n below q h = below_by x xs n q (eqb q x) refl h (below 0 (omega arith)) (below_any xs n (λ i lt. below (suc i) (omega arith)) q)

below_all : (k : ℕ) (places : List ℕ) (n : ℕ) → k < n → ((i : ℕ) → i < length places → slice_index places i < n) → (i : ℕ) → i < length (k ∷ places) → slice_index (k ∷ places) i < n
below_all k places n lt below zero h = lt
below_all k places n lt below (suc i) h = below i (omega arith)

stands_if : (places : List ℕ) (k : ℕ) → ((i j : ℕ) → i < length places → j < length places → slice_index places i ≡ slice_index places j → i ≡ j) → ((i : ℕ) → i < length places → slice_index places i < length places) → k < length places → StandsAt places k ⊎ StandsNowhere places k → StandsAt places k
stands_if places k apart below lt (inl r) = r
stands_if places k apart below lt (inr not) =
    let many = length-le_from_distinct_below (k ∷ places) (length places) (IsDistinct-from_apart eqb (k ∷ places) (apart_by k places apart not)) (below_any (k ∷ places) (length places) (below_all k places (length places) lt below)) in
    absurd (omega (arith, many))

-- ---- the places of a renamed netlist

module _ (old new : Net) (places : List ℕ) (is : IsRenamed old new places) where
  pub place_there : (k : ℕ) → k < length old.nodes → slice_index places k < length new.nodes
  place_there k lt =
      let x = item_at old.nodes k lt in
      slice_get_within new.nodes (slice_index places k) _ (is.nodes k x.item x.there)

  pub from_place : (k : ℕ) → k < length new.nodes → StandsAt places k
  from_place k lt =
      let a = is.places_number in
      let b = is.nodes_number in
      let inside : k < length places = omega (arith, a, b) in
      stands_if places k is.apart (λ i h. let c = place_there i (omega (arith, a, h)) in omega (arith, a, b, c)) inside (stands places k)
