-- The chips of a tree, put after those in them.
use Rattle.std.proofs.Common.{◌≡◌, ◌≢◌, ℕ, zero, suc, ◌-◌, ◌<◌, ◌≤◌, ◌⊎◌, inl, inr, Bool, true, false, nat_eq, List, [], ◌∷◌, ◌++◌, length, length-append, replicate, set, Option, Some, None, refl, sym, ap, subst, ◌∙◌, arith}
use Rattle.std.specs.Prelude.{slice_get}
use Rattle.std.proofs.lemmas.Option.{slice_get_within}
use Rattle.std.proofs.lemmas.List.{length-set, length-replicate}
use Rattle.std.proofs.lemmas.Bool.Decides.{Decides-eqb}
use Rattle.hdl_tree.specs.declared.tree.Part.{Part}
use Rattle.hdl_tree.specs.declared.library.Entry.{Entry}
use Rattle.hdl_tree.specs.Chips.{Chips, find_chip, parts_of}
use Rattle.hdl_tree.specs.Behaviour.{chip_of}
use Rattle.hdl_check.specs.Faults.{part_fault_by}
use Rattle.hdl_check.specs.Locations.{AtPart, Inside, at_inner, inner_of, fault_of_part, fault_at, IsFaultless}
use Rattle.hdl_check.proofs.Keeping.{get_set_other, get_set_same}
use Rattle.hdl_plans.specs.Plans.{IsSound}
use Rattle.hdl_plans.specs.Planned.{plan_of}
use Rattle.hdl_plans.proofs.Nesting.{faultless_sound}
use Rattle.hdl_check.specs.Whole.{TopIsFaultless}
use Rattle.hdl_flatten.specs.Ends.{EndsHavePins}
use Rattle.hdl_flatten.proofs.Ending.{has_ends}
use Rattle.hdl_flatten.specs.declared.nest.Nested.{Nested}
use Rattle.hdl_flatten.specs.declared.nest.Nest.{Nest}
use Rattle.hdl_flatten.specs.Inner.Nests.{IsFine, IsFineAt, StandsAt, AreAt, IsNested, IsNest, HasNumber, IsSearch, Grows, IsNestOf}
use Rattle.hdl_flatten.proofs.Lists.{get_there, get_front, get_last, last_or, assoc, nil_after}

-- ---- growing

pub number_grows : (a b : List Nested) (r k : ℕ) → Grows a b → HasNumber a r k → HasNumber b r k
number_grows a b r k g h = record { nested = h.nested; at = ap (λ t. slice_get t r) g.longer ∙ get_front a g.more r h.nested h.at; number = h.number }

pub length_grows : (a b : List Nested) → Grows a b → length a ≤ length b
length_grows a b g = omega (arith, ap length g.longer, length-append a g.more)

stands_grows : (chips : Chips) (a b : List Nested) (i j : ℕ) (p : Part) (r : ℕ) → Grows a b → i ≤ j → StandsAt chips a i p r → StandsAt chips b j p r
stands_grows chips a b i j p r g le s =
    let lt : r < i = s.before in
    record { nested = s.nested; chip = s.chip; before = omega arith; at = ap (λ t. slice_get t r) g.longer ∙ get_front a g.more r s.nested s.at; there = s.there; found = s.found }

pub at_grows : (chips : Chips) (a b : List Nested) (i j : ℕ) (ps : List Part) (rs : List ℕ) → Grows a b → i ≤ j → AreAt chips a i ps rs → AreAt chips b j ps rs
at_grows chips a b i j [] [] g le h = tt
at_grows chips a b i j [] (r ∷ rs) g le h = h
at_grows chips a b i j (p ∷ ps) [] g le h = h
at_grows chips a b i j (p ∷ ps) (r ∷ rs) g le h = (stands_grows chips a b i j p r g le h.0, at_grows chips a b i j ps rs g le h.1)

pub at_more : (chips : Chips) (nest : List Nested) (i : ℕ) (ps : List Part) (rs : List ℕ) (p : Part) (r : ℕ) → AreAt chips nest i ps rs → StandsAt chips nest i p r → AreAt chips nest i (ps ++ p ∷ []) (rs ++ r ∷ [])
at_more chips nest i [] [] p r h s = (s, tt)
at_more chips nest i [] (x ∷ rs) p r h s = absurd h
at_more chips nest i (q ∷ ps) [] p r h s = absurd h
at_more chips nest i (q ∷ ps) (x ∷ rs) p r h s = (h.0, at_more chips nest i ps rs p r h.1 s)

-- ---- one chip more

nested_grows : (chips : Chips) (a b : List Nested) (i : ℕ) (nested : Nested) → Grows a b → IsNested chips a i nested → IsNested chips b i nested
nested_grows chips a b i nested g n = record { chip = n.chip; there = n.there; fine = n.fine; parts = at_grows chips a b i i (parts_of chips n.chip) nested.parts.items g (omega arith) n.parts }

nest_next : (chips : Chips) (nest new : List Nested) (x : Nested) → new ≡ nest ++ x ∷ [] → IsNest chips nest → IsNested chips nest (length nest) x → IsNest chips new
nest_next chips nest new x e are here i y got = by (last_or nest x y i (ap (λ t. slice_get t i) (sym e) ∙ got))
  where
    grown : Grows nest new
    grown = record { more = x ∷ []; longer = e }

    by : (slice_get nest i ≡ Some y) ⊎ ((i ≡ length nest) × (x ≡ y)) → IsNested chips new i y
    by (inl h) = nested_grows chips nest new i y grown (are i y h)
    by (inr h) = subst (λ (z : Nested). IsNested chips new i z) h.1 (subst (λ (n : ℕ). IsNested chips new n x) (sym h.0) (nested_grows chips nest new (length nest) x grown here))

some_is : (a b : ℕ) → Some (Some a) ≡ Some (Some b) → a ≡ b
some_is a b h = let s : Some a ≡ Some b = cc in cc

ranked_by : (ranks : List (Option ℕ)) (nest new : List Nested) (x : Nested) (k j r : ℕ) (b : Bool) → nat_eq j k ≡ b → new ≡ nest ++ x ∷ [] → x.number ≡ k → k < length ranks → ((m q : ℕ) → slice_get ranks m ≡ Some (Some q) → HasNumber nest q m) → slice_get (set ranks k (Some (length nest))) j ≡ Some (Some r) → HasNumber new r j
ranked_by ranks nest new x k j r true is e number lt ranked got =
    let same : j ≡ k = (Decides-eqb j k).0 is in
    let old = get_there ranks k lt in
    let here : slice_get (set ranks k (Some (length nest))) j ≡ Some (Some (length nest)) = ap (slice_get (set ranks k (Some (length nest)))) same ∙ get_set_same ranks k (Some (length nest)) old.0 old.1 in
    let at : length nest ≡ r = some_is (length nest) r (sym here ∙ got) in
    record { nested = x; at = ap (λ n. slice_get new n) (sym at) ∙ ap (λ t. slice_get t (length nest)) e ∙ get_last nest x; number = number ∙ sym same }
ranked_by ranks nest new x k j r false is e number lt ranked got =
    let apart : j ≢ k = λ same. let yes = (Decides-eqb j k).1 same in cc in
    number_grows nest new r j (record { more = x ∷ []; longer = e }) (ranked j r (sym (get_set_other ranks k j (Some (length nest)) apart) ∙ got))

pub search_next : (chips : Chips) (ranks : List (Option ℕ)) (nest new : List Nested) (x : Nested) (k : ℕ) (chip : Entry) → IsSearch chips ranks nest → new ≡ nest ++ x ∷ [] → x.number ≡ k → slice_get chips.entries k ≡ Some chip → IsFine chips chip → AreAt chips nest (length nest) (parts_of chips chip) x.parts.items → IsSearch chips (set ranks k (Some (length nest))) new
search_next chips ranks nest new x k chip s e number there fine at =
    let within : k < length chips.entries = slice_get_within chips.entries k chip there in
    let long = s.long in
    let lt : k < length ranks = omega arith in
    record {
      long = length-set ranks k (Some (length nest)) ∙ s.long;
      ranked = λ j r got. ranked_by ranks nest new x k j r (nat_eq j k) refl e number lt s.ranked got;
      right = nest_next chips nest new x e s.right (record { chip = chip; there = ap (slice_get chips.entries) number ∙ there; fine = fine; parts = at });
    }

-- ---- at the start

none_at : (n k r : ℕ) → slice_get (replicate n None) k ≡ Some (Some r) → ⊥
none_at zero k r h = cc
none_at (suc n) zero r h = let s : None ≡ Some r = cc in cc
none_at (suc n) (suc k) r h = none_at n k r h

pub search_none : (chips : Chips) (ranks : List (Option ℕ)) (nest : List Nested) → ranks ≡ replicate (length chips.entries) None → nest ≡ [] → IsSearch chips ranks nest
search_none chips ranks nest e f = record {
  long = ap length e ∙ length-replicate (length chips.entries) None;
  ranked = λ k r h. absurd (none_at (length chips.entries) k r (ap (λ t. slice_get t k) (sym e) ∙ h));
  right = λ i nested h. let g : slice_get [] i ≡ Some nested = ap (λ (t : List Nested). slice_get t i) (sym f) ∙ h in absurd cc;
}

pub fine_top : (chips : Chips) (top : List ℕ) (k : ℕ) → EndsHavePins chips → TopIsFaultless chips top → k < length chips.entries → find_chip chips top ≡ slice_get chips.entries k → IsFineAt chips (length chips.entries) k
fine_top chips top k ends faultless lt e =
    let got = get_there chips.entries k lt in
    let found : find_chip chips top ≡ Some got.0 = e ∙ got.1 in
    record {
      chip = got.0;
      there = got.1;
      fine = record { name = top; found = found; outer = got.0.name ∷ []; faultless = faultless got.0 found };
      sound = faultless_sound chips top got.0 (has_ends chips ends) found (faultless got.0 found);
    }

pub nest_is : (chips : Chips) (top : List ℕ) (k : ℕ) (ranks : List (Option ℕ)) (nest : Nest) → IsFineAt chips (length chips.entries) k → find_chip chips top ≡ slice_get chips.entries k → IsSearch chips ranks nest.chips.items → HasNumber nest.chips.items nest.top k → IsNestOf chips top nest
nest_is chips top k ranks nest fine e s h = record {
  chip = fine.chip;
  found = e ∙ fine.there;
  right = s.right;
  nested = h.nested;
  at = h.at;
  there = ap (slice_get chips.entries) h.number ∙ fine.there;
}
