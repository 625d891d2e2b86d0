-- Static words, file by file.
use Rattle.std.proofs.Common.{◌≡◌, ◌+◌, ◌-◌, ◌^◌, ◌<◌, ◌≤◌, ◌++◌, ℕ, zero, suc, List, [], ◌∷◌, length, min, max, refl, sym, ap, subst, ◌∙◌, arith, add-one, slice_index, slice_set, if◌then◌else◌, length-append}
use Rattle.std.specs.Prelude.{◌==◌}
use Rattle.std.proofs.lemmas.Bool.{cases_eq, eq-eqb, ne_eqb}
use Rattle.vm_link.specs.Sections.{Section}
use Rattle.vm_link.specs.Faults.{words_before, file_words}
use Rattle.vm_link.specs.Inner.Words.{AreBases}
use Rattle.vm_link.proofs.Marking.{⊎_by}

pub index_front : (xs ys : List ℕ) (k : ℕ) → k < length xs → slice_index (xs ++ ys) k ≡ slice_index xs k
index_front [] ys k h = absurd (omega arith)
index_front (x ∷ xs) ys zero h = refl
index_front (x ∷ xs) ys (suc k) h = index_front xs ys k (omega arith)

pub index_last : (xs : List ℕ) (v : ℕ) → slice_index (xs ++ v ∷ []) (length xs) ≡ v
index_last [] v = refl
index_last (x ∷ xs) v = index_last xs v

pub index_set : (xs : List ℕ) (f v : ℕ) → f < length xs → slice_index (slice_set xs f v) f ≡ v
index_set [] f v h = absurd (omega arith)
index_set (x ∷ xs) zero v h = refl
index_set (x ∷ xs) (suc f) v h = index_set xs f v (omega arith)

pub index_other : (xs : List ℕ) (f v k : ℕ) → (f ≡ k → ⊥) → slice_index (slice_set xs f v) k ≡ slice_index xs k
index_other [] f v k h = refl
index_other (x ∷ xs) zero v zero h = absurd (h refl)
index_other (x ∷ xs) zero v (suc k) h = refl
index_other (x ∷ xs) (suc f) v zero h = refl
index_other (x ∷ xs) (suc f) v (suc k) h = index_other xs f v k (λ e. h (ap suc e))

-- one more file
pub sat_step : (kept : List Section) (i b w r : ℕ) → b ≡ min (words_before kept i) (2 ^ 64 - 1) → w ≡ file_words kept i → r ≡ min (b + w) (2 ^ 64 - 1)
    → r ≡ min (words_before kept (i + 1)) (2 ^ 64 - 1)
sat_step kept i b w r e f g = rw add-one (omega arith)

pub bases_more : (kept : List Section) (n v : ℕ) (bs : List ℕ) → AreBases kept n bs → v ≡ min (words_before kept n) (2 ^ 64 - 1) → AreBases kept (n + 1) (bs ++ v ∷ [])
bases_more kept n v bs h e = record {
  count = length-append bs (v ∷ []) ∙ ap (λ z. z + 1) h.count;
  at = λ k below. ⊎_by (cases_eq k n)
      (λ same. subst (λ z. slice_index (bs ++ v ∷ []) z ≡ min (words_before kept z) (2 ^ 64 - 1)) (sym same)
      (subst (λ z. slice_index (bs ++ v ∷ []) z ≡ min (words_before kept n) (2 ^ 64 - 1)) h.count (index_last bs v ∙ e)))
      (λ other. let c = h.count in index_front bs (v ∷ []) k (omega arith) ∙ h.at k (omega arith));
}

-- one more section, of a file that is counted or of one that is not
pub words_then : (words : List ℕ) (f w k r : ℕ) → f < length words
    → max (slice_index (slice_set words f (max (slice_index words f) w)) k) r ≡ max (slice_index words k) (if f == k then max w r else r)
words_then words f w k r h = ⊎_by (cases_eq f k)
    (λ same. subst (λ z. max (slice_index (slice_set words f (max (slice_index words f) w)) z) r ≡ max (slice_index words z) (if f == z then max w r else r)) same
    (rw (index_set words f (max (slice_index words f) w) h, eq-eqb f f refl) (omega arith)))
    (λ other. rw (index_other words f (max (slice_index words f) w) k other, ne_eqb f k other) refl)

pub words_else : (f k w r x n : ℕ) → k < n → n ≤ f → max x r ≡ max x (if f == k then max w r else r)
words_else f k w r x n h l = let other : f ≡ k → ⊥ = λ e. omega arith in rw (ne_eqb f k other) refl
