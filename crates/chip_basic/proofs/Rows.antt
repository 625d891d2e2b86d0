-- Lists that are made from their places.
use Rattle.std.proofs.Common.{◌≡◌, ℕ, zero, suc, ◌+◌, ◌<◌, [], ◌∷◌, ◌++◌, map, Some, sym, ap, ◌∙◌, subst, arith, add-zero, zero-add}
use Rattle.std.proofs.lemmas.List.FromFn.{map-range_with_len_more}
use Rattle.std.specs.Prelude.{slice_get}
use Rattle.std.specs.List.{range_with_len}
use Rattle.hdl_tree.specs.declared.tree.Part.{Part}
use Rattle.hdl_tree.specs.Behaviour.{Each}
use Rattle.chip_basic.specs.Hdl.{each}

pub one_more : (f : ℕ → Part) (n : ℕ) → each (n + 1) f ≡ each n f ++ f n ∷ []
one_more f n = map-range_with_len_more f 0 n n (zero-add n)

get_of_map : {X : Type 0} → (f : ℕ → X) (n a i : ℕ) → i < n → slice_get (map f (range_with_len a n)) i ≡ Some (f (a + i))
get_of_map f zero a i h = absurd (omega arith)
get_of_map f (suc n) a zero h = ap (λ x. Some (f x)) (sym (add-zero a))
get_of_map f (suc n) a (suc i) h =
    let lt : i < n = omega arith in
    let e : (a + 1) + i ≡ a + suc i = omega arith in
    get_of_map f n (a + 1) i lt ∙ ap (λ x. Some (f x)) e

-- item i of a list that is made from its places
pub get_of_row : {X : Type 0} → (f : ℕ → X) (n i : ℕ) → i < n → slice_get (map f (range_with_len 0 n)) i ≡ Some (f i)
get_of_row f n i h = get_of_map f n 0 i h ∙ ap (λ x. Some (f x)) (zero-add i)

each_of_map : {X : Type 0} (P : X → Type 0) (f : ℕ → X) (n a : ℕ) → Each P (map f (range_with_len a n)) → (i : ℕ) → i < n → P (f (a + i))
each_of_map P f zero a h i lt = absurd (omega arith)
each_of_map P f (suc n) a h zero lt = subst (λ x. P (f x)) (sym (add-zero a)) h.0
each_of_map P f (suc n) a h (suc i) lt =
    let e : (a + 1) + i ≡ a + suc i = omega arith in
    let below : i < n = omega arith in
    subst (λ x. P (f x)) e (each_of_map P f n (a + 1) h.1 i below)

-- what holds of each item of such a list
pub each_of_row : {X : Type 0} (P : X → Type 0) (f : ℕ → X) (n : ℕ) → Each P (map f (range_with_len 0 n)) → (i : ℕ) → i < n → P (f i)
each_of_row P f n h i lt = subst (λ x. P (f x)) (zero-add i) (each_of_map P f n 0 h i lt)
