-- How the stages of chips change.
use Rattle.std.proofs.Common.{◌≡◌, ◌≢◌, ℕ, zero, suc, ◌+◌, ◌<◌, ◌⊎◌, inl, inr, Bool, true, false, cond, List, [], ◌∷◌, set, Option, Some, None, refl, sym, ap, subst, ◌∙◌, arith}
use Rattle.std.specs.Prelude.{slice_get, count_by, ◌||◌}
use Rattle.std.specs.Str.{bytes_eq}
use Rattle.std.specs.Cmp.Lexicographic.{bytes_decides}
use Rattle.std.proofs.lemmas.List.{length-set}
use Rattle.std.proofs.lemmas.List.Sums.{sum_by-set}
use Rattle.std.proofs.lemmas.Option.{get_or_from_slice_get, slice_get_within}
use Rattle.hdl_tree.specs.declared.tree.Part.{Part}
use Rattle.hdl_tree.specs.declared.library.Entry.{Entry}
use Rattle.hdl_tree.specs.Chips.{Chips}
use Rattle.hdl_tree.specs.Writable.{is_among}
use Rattle.hdl_check.specs.Locations.{IsFaultless}
use Rattle.hdl_check.specs.Inner.Progress.{IsProgress, Avoids, AreOpen, is_open, is_new, PartIsFine, PartsAreFine, ChipIsFine}
use Rattle.hdl_check.specs.Whole.{AreDistinct}
use Rattle.hdl_check.specs.declared.stage.Stage.{Stage}
use Rattle.hdl_check.specs.declared.stage.Stage.TheVariants.{New, Open, Done}
use Rattle.hdl_check.proofs.Firsts.{fine_chip}

-- ---- writes

pub get_set_same : {A : Type 0} (xs : List A) (k : ℕ) (v x : A) → slice_get xs k ≡ Some x → slice_get (set xs k v) k ≡ Some v
get_set_same [] k v x h = absurd cc
get_set_same (y ∷ ys) zero v x h = refl
get_set_same (y ∷ ys) (suc k) v x h = get_set_same ys k v x h

pub get_set_other : {A : Type 0} (xs : List A) (k j : ℕ) (v : A) → j ≢ k → slice_get (set xs k v) j ≡ slice_get xs j
get_set_other [] k j v h = refl
get_set_other (y ∷ ys) zero zero v h = absurd (h refl)
get_set_other (y ∷ ys) zero (suc j) v h = refl
get_set_other (y ∷ ys) (suc k) zero v h = refl
get_set_other (y ∷ ys) (suc k) (suc j) v h = get_set_other ys k j v (λ e. h (ap suc e))

same_or : (j k : ℕ) → (j ≡ k) ⊎ (j ≢ k)
same_or j k = grind arith

count_set : (xs : List Stage) (k : ℕ) (v x : Stage) → slice_get xs k ≡ Some x → count_by is_new (set xs k v) + cond (is_new x) 1 0 ≡ count_by is_new xs + cond (is_new v) 1 0
count_set xs k v x h =
    ap (λ (z : Stage). count_by is_new (set xs k v) + cond (is_new z) 1 0) (sym (get_or_from_slice_get xs k x x h))
    ∙ sum_by-set (λ (z : Stage). cond (is_new z) 1 0) xs k v x (slice_get_within xs k x h)

-- ---- what is done stays done

abbrev pub StaysDone : List Stage → List Stage → Type 0
StaysDone old new = (k r : ℕ) → slice_get old k ≡ Some (Done r) → slice_get new k ≡ Some (Done r)

fine_kept : (chips : Chips) (a b : List Stage) (entry : Entry) (i : ℕ) (part : Part) → StaysDone a b → PartIsFine chips a entry i part → PartIsFine chips b entry i part
fine_kept chips a b entry i part h f = let n = f.entered in record { entered = record { inner = n.inner; number = n.number; rank = n.rank; found = n.found; there = n.there; done = h n.number n.rank n.done }; connections = f.connections }

pub parts_kept : (chips : Chips) (a b : List Stage) (entry : Entry) (n : ℕ) → StaysDone a b → PartsAreFine chips a entry n → PartsAreFine chips b entry n
parts_kept chips a b entry n h f = λ i part lt there. fine_kept chips a b entry i part h (f i part lt there)

-- ---- a chip is opened

module _ (chips : Chips) (distinct : AreDistinct chips.entries) (s : List Stage) (done k : ℕ) (p : IsProgress chips s done) (new : slice_get s k ≡ Some New) where
  opened_done : (j r : ℕ) → slice_get (set s k Open) j ≡ Some (Done r) → slice_get s j ≡ Some (Done r)
  opened_done j r h = at (same_or j k)
    where
      at : (j ≡ k) ⊎ (j ≢ k) → slice_get s j ≡ Some (Done r)
      at (inl e) = let o : slice_get (set s k Open) j ≡ Some Open = ap (slice_get (set s k Open)) e ∙ get_set_same s k Open New new in absurd cc
      at (inr n) = sym (get_set_other s k j Open n) ∙ h

  pub done_opened : (j r : ℕ) → slice_get s j ≡ Some (Done r) → slice_get (set s k Open) j ≡ Some (Done r)
  done_opened j r h = at (same_or j k)
    where
      at : (j ≡ k) ⊎ (j ≢ k) → slice_get (set s k Open) j ≡ Some (Done r)
      at (inl e) = let o : slice_get s j ≡ Some New = ap (slice_get s) e ∙ new in absurd cc
      at (inr n) = get_set_other s k j Open n ∙ h

  pub opened : IsProgress chips (set s k Open) done
  opened = record {
    long = length-set s k Open ∙ p.long;
    ranked = λ j r h. p.ranked j r (opened_done j r h);
    faultless = λ j r entry h there outer avoids. p.faultless j r entry (opened_done j r h) there outer (λ i q other e lt at. avoids i q other (done_opened i q e) lt at);
  }

  pub opened_names : (entry : Entry) (outer : List (List ℕ)) → slice_get chips.entries k ≡ Some entry → AreOpen chips s outer → AreOpen chips (set s k Open) (entry.name ∷ outer)
  opened_names entry outer here o j other there = at (bytes_eq other.name entry.name) refl
    where
      at : (b : Bool) → bytes_eq other.name entry.name ≡ b → (b || is_among other.name outer) ≡ is_open (slice_get (set s k Open) j)
      at true e =
          let same : j ≡ k = distinct j k other entry there here ((bytes_decides other.name entry.name).0 e) in
          sym (ap is_open (ap (slice_get (set s k Open)) same ∙ get_set_same s k Open New new))
      at false e =
          let apart : j ≢ k = λ q. let f : other ≡ entry = cc (sym there ∙ ap (slice_get chips.entries) q ∙ here) in let t = (bytes_decides other.name entry.name).1 (ap (λ (x : Entry). x.name) f) in cc in
          o j other there ∙ sym (ap is_open (get_set_other s k j Open apart))

-- ---- a chip is closed

module _ (chips : Chips) (distinct : AreDistinct chips.entries) (s : List Stage) (done k : ℕ) (p : IsProgress chips s done) (open_here : slice_get s k ≡ Some Open) (fine : (entry : Entry) → slice_get chips.entries k ≡ Some entry → ChipIsFine chips s entry) where
  new_stages : List Stage
  new_stages = set s k (Done done)

  pub done_closed : (j r : ℕ) → slice_get s j ≡ Some (Done r) → slice_get (set s k (Done done)) j ≡ Some (Done r)
  done_closed j r h = at (same_or j k)
    where
      at : (j ≡ k) ⊎ (j ≢ k) → slice_get (set s k (Done done)) j ≡ Some (Done r)
      at (inl e) = let o : slice_get s j ≡ Some Open = ap (slice_get s) e ∙ open_here in absurd cc
      at (inr n) = get_set_other s k j (Done done) n ∙ h

  still_done : (j r : ℕ) → slice_get s j ≡ Some (Done r) → slice_get new_stages j ≡ Some (Done r)
  unfolding new_stages
  still_done j r h = done_closed j r h

  closed_done : (j r : ℕ) → slice_get new_stages j ≡ Some (Done r) → ((j ≡ k) × (r ≡ done)) ⊎ (slice_get s j ≡ Some (Done r))
  unfolding new_stages
  closed_done j r h = at (same_or j k)
    where
      at : (j ≡ k) ⊎ (j ≢ k) → ((j ≡ k) × (r ≡ done)) ⊎ (slice_get s j ≡ Some (Done r))
      at (inl e) = let o : slice_get (set s k (Done done)) j ≡ Some (Done done) = ap (slice_get (set s k (Done done))) e ∙ get_set_same s k (Done done) Open open_here in inl (e, cc)
      at (inr n) = inr (sym (get_set_other s k j (Done done) n) ∙ h)

  -- the names round the chip, with its own
  own_avoids : (entry : Entry) (outer : List (List ℕ)) → slice_get chips.entries k ≡ Some entry → Avoids chips new_stages done outer → Avoids chips s done (entry.name ∷ outer)
  own_avoids entry outer here avoids j q other e lt there = at (bytes_eq other.name entry.name) refl
    where
      at : (b : Bool) → bytes_eq other.name entry.name ≡ b → (b || is_among other.name outer) ≡ false
      at true same =
          let f : j ≡ k = distinct j k other entry there here ((bytes_decides other.name entry.name).0 same) in
          let o : slice_get s j ≡ Some Open = ap (slice_get s) f ∙ open_here in absurd cc
      at false same = avoids j q other (still_done j q e) lt there

  closed_faultless : (j r : ℕ) (entry : Entry) → ((j ≡ k) × (r ≡ done)) ⊎ (slice_get s j ≡ Some (Done r)) → slice_get chips.entries j ≡ Some entry → (outer : List (List ℕ)) → Avoids chips new_stages r outer → IsFaultless chips (entry.name ∷ outer) entry
  closed_faultless j r entry (inl h) there outer avoids =
      let here : slice_get chips.entries k ≡ Some entry = ap (slice_get chips.entries) (sym h.0) ∙ there in
      fine_chip chips s done p (entry.name ∷ outer) (own_avoids entry outer here (subst (λ x. Avoids chips new_stages x outer) h.1 avoids)) entry (fine entry here)
  closed_faultless j r entry (inr h) there outer avoids = p.faultless j r entry h there outer (λ i q other e lt at. avoids i q other (still_done i q e) lt at)

  ranked_by : (j r : ℕ) → ((j ≡ k) × (r ≡ done)) ⊎ (slice_get s j ≡ Some (Done r)) → r < done + 1
  ranked_by j r (inl h) = let e : r ≡ done = h.1 in omega arith
  ranked_by j r (inr h) = let lt : r < done = p.ranked j r h in omega arith

  pub closed : IsProgress chips (set s k (Done done)) (done + 1)
  unfolding new_stages
  closed = record {
    long = length-set s k (Done done) ∙ p.long;
    ranked = λ j r h. ranked_by j r (closed_done j r h);
    faultless = λ j r entry h there outer avoids. closed_faultless j r entry (closed_done j r h) there outer avoids;
  }

  -- the names round the chip, which are those of the chips that stay open
  pub closed_names : (entry : Entry) (outer : List (List ℕ)) → slice_get chips.entries k ≡ Some entry → is_among entry.name outer ≡ false → AreOpen chips s (entry.name ∷ outer) → AreOpen chips (set s k (Done done)) outer
  closed_names entry outer here apart o j other there = at (same_or j k)
    where
      at : (j ≡ k) ⊎ (j ≢ k) → is_among other.name outer ≡ is_open (slice_get (set s k (Done done)) j)
      at (inl e) =
          let same : other ≡ entry = cc (sym there ∙ ap (slice_get chips.entries) e ∙ here) in
          ap (λ (x : Entry). is_among x.name outer) same ∙ apart ∙ sym (ap is_open (ap (slice_get (set s k (Done done))) e ∙ get_set_same s k (Done done) Open open_here))
      at (inr n) = by (bytes_eq other.name entry.name) refl
        where
          by : (b : Bool) → bytes_eq other.name entry.name ≡ b → is_among other.name outer ≡ is_open (slice_get (set s k (Done done)) j)
          by true e = absurd (n (distinct j k other entry there here ((bytes_decides other.name entry.name).0 e)))
          by false e = ap (λ b. b || is_among other.name outer) (sym e) ∙ o j other there ∙ sym (ap is_open (get_set_other s k j (Done done) n))

-- ---- counts and names

-- what is at a place that is open
open_there : (o : Option Stage) → is_open o ≡ true → o ≡ Some Open
open_there None h = absurd cc
open_there (Some New) h = absurd cc
open_there (Some Open) h = refl
open_there (Some (Done r)) h = absurd cc

-- a chip whose name is among those of the open ones
pub open_named : (chips : Chips) (s : List Stage) (k : ℕ) (entry : Entry) (outer : List (List ℕ)) → slice_get chips.entries k ≡ Some entry → AreOpen chips s (entry.name ∷ outer) → slice_get s k ≡ Some Open
open_named chips s k entry outer here o =
    open_there (slice_get s k) (sym (o k entry here) ∙ ap (λ b. b || is_among entry.name outer) ((bytes_decides entry.name entry.name).1 refl))

pub same_new : (s : List Stage) (k r : ℕ) → slice_get s k ≡ Some Open → count_by is_new (set s k (Done r)) ≡ count_by is_new s
same_new s k r opened = let a = count_set s k (Done r) Open opened in omega (arith, a)

pub fewer_new : (s : List Stage) (k : ℕ) → slice_get s k ≡ Some New → count_by is_new (set s k Open) + 1 ≡ count_by is_new s
fewer_new s k new = let a = count_set s k Open New new in omega (arith, a)
