-- What is known of chips, as one more is noted.
use Rattle.std.proofs.Common.{◌≡◌, ℕ, zero, suc, ◌<◌, ◌⊎◌, inl, inr, true, List, [], ◌∷◌, ◌++◌, length, set, Option, Some, None, refl, sym, ap, subst, ◌∙◌, arith}
use Rattle.std.specs.Prelude.{slice_get}
use Rattle.hdl_tree.specs.declared.library.Entry.{Entry}
use Rattle.hdl_tree.specs.declared.ends.End.{End}
use Rattle.hdl_tree.specs.Chips.{Chips, end_of}
use Rattle.hdl_plans.specs.Loops.{BitAt}
use Rattle.hdl_loops.specs.Inner.Hops.{input_of, output_of}
use Rattle.hdl_loops.specs.Inner.Knowing.{crosses_in, crosses_by, leads, leads_in, IsHop, IsRight, AreKnown, IsDone, KnowNothing, StaysKnown, Notes}
use Rattle.hdl_loops.specs.declared.hops.Hop.{Hop}
use Rattle.hdl_loops.specs.declared.known.Known.{Known}

abbrev Lists : Type 0
Lists = List (Option Known)

set_cases : (xs : Lists) (k j : ℕ) (v y : Option Known) → slice_get (set xs k v) j ≡ Some y → ((j ≡ k) × (v ≡ y)) ⊎ (slice_get xs j ≡ Some y)
set_cases [] k j v y e = inr e
set_cases (x ∷ xs) zero zero v y e = inl (refl, cc)
set_cases (x ∷ xs) zero (suc j) v y e = inr e
set_cases (x ∷ xs) (suc k) zero v y e = inr e
set_cases (x ∷ xs) (suc k) (suc j) v y e = by (set_cases xs k j v y e)
  where
    by : ((j ≡ k) × (v ≡ y)) ⊎ (slice_get xs j ≡ Some y) → ((suc j ≡ suc k) × (v ≡ y)) ⊎ (slice_get (x ∷ xs) (suc j) ≡ Some y)
    by (inl p) = inl (ap suc p.0, p.1)
    by (inr p) = inr p

set_here : (xs : Lists) (k : ℕ) (v : Option Known) → k < length xs → slice_get (set xs k v) k ≡ Some v
set_here [] k v lt = absurd (omega arith)
set_here (x ∷ xs) zero v lt = refl
set_here (x ∷ xs) (suc k) v lt = set_here xs k v (omega (arith, lt))

still_by : (old : Lists) (k : ℕ) (inside : Known) → slice_get old k ≡ Some None → (j : ℕ) (other : Known) → slice_get old j ≡ Some (Some other) → slice_get (set old k (Some inside)) j ≡ Some (Some other)
still_by [] k inside none j other e = absurd cc
still_by (x ∷ xs) zero inside none zero other e = absurd cc
still_by (x ∷ xs) zero inside none (suc j) other e = e
still_by (x ∷ xs) (suc k) inside none zero other e = e
still_by (x ∷ xs) (suc k) inside none (suc j) other e = still_by xs k inside none j other e

only_by : (k j : ℕ) (inside other : Known) (was : Option (Option Known)) → ((j ≡ k) × (Some inside ≡ Some other)) ⊎ (was ≡ Some (Some other)) → (was ≡ Some (Some other)) ⊎ ((j ≡ k) × (other ≡ inside))
only_by k j inside other was (inl p) = let same : inside ≡ other = cc (p.1) in inr (p.0, sym same)
only_by k j inside other was (inr p) = inl p

pub notes_new : (old new : Lists) (k : ℕ) (inside : Known) → new ≡ set old k (Some inside) → k < length old → slice_get old k ≡ Some None → Notes old new k inside
notes_new old new k inside is lt none = record {
  stays = λ j other e. ap (λ (xs : Lists). slice_get xs j) is ∙ still_by old k inside none j other e;
  noted = (inside, ap (λ (xs : Lists). slice_get xs k) is ∙ set_here old k (Some inside) lt);
  only = λ j other e. only_by k j inside other (slice_get old j) (set_cases old k j (Some inside) (Some other) (ap (λ (xs : Lists). slice_get xs j) (sym is) ∙ e));
}

pub notes_same : (old : Lists) (k : ℕ) (inside was : Known) → slice_get old k ≡ Some (Some was) → Notes old old k inside
notes_same old k inside was e = record { stays = λ j other h. h; noted = (was, e); only = λ j other h. inl h }

-- ---- what is known stays

leads_still : (old new : Lists) (k : ℕ) (x y : BitAt) (o : Option (Option Known)) → StaysKnown old new → slice_get old k ≡ o → leads_in o x y ≡ true → leads_in (slice_get new k) x y ≡ true
leads_still old new k x y None stays e h = absurd cc
leads_still old new k x y (Some None) stays e h = absurd cc
leads_still old new k x y (Some (Some inside)) stays e h = ap (λ (o : Option (Option Known)). leads_in o x y) (stays k inside e) ∙ h

by_end_still : (old new : Lists) (k : ℕ) (x y : BitAt) (o : Option End) → StaysKnown old new → crosses_by o (slice_get old k) x y ≡ true → crosses_by o (slice_get new k) x y ≡ true
by_end_still old new k x y (Some e) stays h = h
by_end_still old new k x y None stays h = leads_still old new k x y (slice_get old k) stays refl h

crosses_still : (chips : Chips) (old new : Lists) (k : ℕ) (x y : BitAt) (o : Option Entry) → StaysKnown old new → crosses_in chips o (slice_get old k) x y ≡ true → crosses_in chips o (slice_get new k) x y ≡ true
crosses_still chips old new k x y None stays h = h
crosses_still chips old new k x y (Some entry) stays h = by_end_still old new k x y (end_of chips.memories entry) stays h

hop_still : (chips : Chips) (old new : Lists) (chip : Entry) (h : Hop) → StaysKnown old new → IsHop chips old chip h → IsHop chips new chip h
hop_still chips old new chip h stays r = record {
  i = r.i;
  part = r.part;
  inner = r.inner;
  there = r.there;
  found = r.found;
  place = r.place;
  goes_in = r.goes_in;
  goes_out = r.goes_out;
  crosses_it = crosses_still chips old new h.chip (input_of h.through) (output_of h.through) (slice_get chips.entries h.chip) stays r.crosses_it;
}

right_still : (chips : Chips) (old new : Lists) (chip : Entry) (inside : Known) → StaysKnown old new → IsRight chips old chip inside → IsRight chips new chip inside
right_still chips old new chip inside stays r = record { hops = λ p h e. hop_still chips old new chip h stays (r.hops p h e); linked = r.linked; sound = r.sound; covers = r.covers; clear = r.clear; full = r.full }

-- one more is right
pub known_more : (chips : Chips) (old new : Lists) (k : ℕ) (entry : Entry) (inside : Known) → Notes old new k inside → slice_get chips.entries k ≡ Some entry → AreKnown chips old → IsRight chips old entry inside → AreKnown chips new
known_more chips old new k entry inside notes there known right j chip other e f = by (notes.only j other f)
  where
    by : (slice_get old j ≡ Some (Some other)) ⊎ ((j ≡ k) × (other ≡ inside)) → IsRight chips new chip other
    by (inl p) = right_still chips old new chip other notes.stays (known j chip other e p)
    by (inr p) =
        let at : slice_get chips.entries k ≡ Some chip = ap (slice_get chips.entries) (sym p.0) ∙ e in
        let same : entry ≡ chip = cc in
        subst (λ (v : Known). IsRight chips new chip v) (sym p.1) (subst (λ (v : Entry). IsRight chips new v inside) same (right_still chips old new entry inside notes.stays right))

pub done_still : (chips : Chips) (old new : Lists) (k : ℕ) → StaysKnown old new → IsDone chips old k → IsDone chips new k
done_still chips old new k stays done chip at is = let r = done chip at is in (r.0, stays k r.0 r.1)

pub none_more : (xs : Lists) → KnowNothing xs → KnowNothing (xs ++ None ∷ [])
none_more [] h zero list e = cc
none_more [] h (suc k) list e = cc
none_more (x ∷ xs) h zero list e = h zero list e
none_more (x ∷ xs) h (suc k) list e = none_more xs (λ j l f. h (suc j) l f) k list e

-- what leads is known
pub leads_known : (o : Option (Option Known)) (x y : BitAt) → leads_in o x y ≡ true → (inside : Known) × (o ≡ Some (Some inside)) × (leads inside x y ≡ true)
leads_known None x y h = absurd cc
leads_known (Some None) x y h = absurd cc
leads_known (Some (Some inside)) x y h = (inside, refl, h)
