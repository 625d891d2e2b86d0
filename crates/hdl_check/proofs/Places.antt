-- Where a chip of a name stands, as the table says it.
use Rattle.std.proofs.Common.{◌≡◌, ℕ, zero, suc, ◌+◌, ◌<◌, List, ◌⊎◌, inl, inr, [], ◌∷◌, ◌++◌, length, take, get_or, length-append, Option, Some, None, refl, sym, ap, ◌∙◌, arith, zero-add}
use Rattle.std.specs.Prelude.{slice_get, MatchOption}
use Rattle.hdl_tree.specs.declared.library.Entry.{Entry}
use Rattle.hdl_tree.specs.Chips.{find_entry}
use Rattle.name_table.specs.Names.{find_value}
use Rattle.hdl_check.specs.Inner.Progress.{numbered_entries, ArePorts}
use Rattle.std.proofs.lemmas.Option.{slice_get_read, slice_get_within}
use Rattle.name_table.specs.Tables.{table_of, Finds}
use Rattle.hdl_check.specs.Faults.{ports_of}
use Rattle.hdl_check.specs.declared.check.Port.{Port}
use Rattle.name_table.specs.declared.Table.{Table}
use Rattle.hdl_check.proofs.Rows.{place_of, no_place, take_next}

pub place_found : (es : List Entry) (name : List ℕ) (o : Option ℕ) → o ≡ find_value name (numbered_entries 0 es) → MatchOption o (find_entry es name ≡ None) (λ k. (k < length es) × (find_entry es name ≡ slice_get es k))
place_found es name None h = no_place es name 0 (sym h)
place_found es name (Some k) h =
    let s = place_of es name 0 k (sym h) in
    let e : k ≡ s.place = s.k_is ∙ zero-add s.place in
    (omega (arith, s.within), s.same ∙ ap (slice_get es) (sym e))

last_or : {A : Type 0} (xs : List A) (x y : A) (k : ℕ) → slice_get (xs ++ x ∷ []) k ≡ Some y → (slice_get xs k ≡ Some y) ⊎ ((k ≡ length xs) × (x ≡ y))
last_or [] x y zero e = inr (refl, cc)
last_or [] x y (suc k) e = absurd cc
last_or (z ∷ zs) x y zero e = inl e
last_or (z ∷ zs) x y (suc k) e = elim (last_or zs x y k e) [ inl h ↦ inl h | inr h ↦ inr (ap suc h.0, h.1) ]

each_next : (es : List Entry) (ts : List (Table Port)) (entry : Entry) (table : Table Port) → length ts ≡ length es → ((k : ℕ) (a : Entry) (t : Table Port) → slice_get es k ≡ Some a → slice_get ts k ≡ Some t → Finds t (ports_of a.chip)) → Finds table (ports_of entry.chip) →
    (k : ℕ) (a : Entry) (t : Table Port) → (slice_get es k ≡ Some a) ⊎ ((k ≡ length es) × (entry ≡ a)) → (slice_get ts k ≡ Some t) ⊎ ((k ≡ length ts) × (table ≡ t)) → Finds t (ports_of a.chip)
each_next es ts entry table n h f k a t (inl p) (inl q) = h k a t p q
each_next es ts entry table n h f k a t (inl p) (inr q) = let lt : k < length es = slice_get_within es k a p in let e : k ≡ length ts = q.0 in absurd (omega arith)
each_next es ts entry table n h f k a t (inr p) (inl q) = let lt : k < length ts = slice_get_within ts k t q in let e : k ≡ length es = p.0 in absurd (omega arith)
each_next es ts entry table n h f k a t (inr p) (inr q) = λ x. ap (λ (u : Table Port). find_value x (table_of u)) (sym q.1) ∙ f x ∙ ap (λ (b : Entry). find_value x (ports_of b.chip)) p.1

-- the pins of one chip more
pub ports_next : (entries : List Entry) (i : ℕ) (entry : Entry) (tables new : List (Table Port)) (table : Table Port) → i < length entries → entry ≡ get_or entries i entry → ArePorts (take i entries) tables → new ≡ tables ++ table ∷ [] → Finds table (ports_of entry.chip) → ArePorts (take (i + 1) entries) new
ports_next entries i entry tables new table lt is a e f =
    let next : take (i + 1) entries ≡ take i entries ++ entry ∷ [] = take_next entries i entry (slice_get_read entries (length entries) i entry refl lt is) in
    record {
      as_many = ap length e ∙ length-append tables (table ∷ []) ∙ ap (λ n. n + 1) a.as_many ∙ sym (ap length next ∙ length-append (take i entries) (entry ∷ []));
      each = λ k b t p q. each_next (take i entries) tables entry table a.as_many a.each f k b t (last_or (take i entries) entry b k (ap (λ xs. slice_get xs k) (sym next) ∙ p)) (last_or tables table t k (ap (λ xs. slice_get xs k) (sym e) ∙ q));
    }
