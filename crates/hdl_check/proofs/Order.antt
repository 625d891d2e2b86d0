-- At most one first fault.
use Rattle.std.proofs.Common.{◌≡◌, ℕ, ◌<◌, ◌≤◌, ◌⊎◌, inl, inr, List, Some, refl, sym, ap, ◌∙◌, arith}
use Rattle.hdl_tree.specs.declared.library.Entry.{Entry}
use Rattle.hdl_tree.specs.Chips.{Chips}
use Rattle.hdl_check.specs.declared.fault.NamedFault.{NamedFault}
use Rattle.hdl_check.specs.Locations.{Location, AtPin, AtBody, AtPart, Inside, AtConnection, IsEarlier, fault_at, IsFaultless, IsFirstFault}

-- one of two places is the earlier one
abbrev IsOrdered : Location → Location → Type 0
IsOrdered s t = (s ≡ t) ⊎ (IsEarlier s t ⊎ IsEarlier t s)

compare_ℕ : (i j : ℕ) → (i ≡ j) ⊎ ((i < j) ⊎ (j < i))
compare_ℕ i j = grind arith

le_or : (i j : ℕ) → (i ≤ j) ⊎ (j < i)
le_or i j = grind arith

by_pin : (k l : ℕ) → (k ≡ l) ⊎ ((k < l) ⊎ (l < k)) → IsOrdered (AtPin k) (AtPin l)
by_pin k l (inl e) = inl (ap AtPin e)
by_pin k l (inr h) = inr h

by_part : (i j : ℕ) → (i ≡ j) ⊎ ((i < j) ⊎ (j < i)) → IsOrdered (AtPart i) (AtPart j)
by_part i j (inl e) = inl (ap AtPart e)
by_part i j (inr h) = inr h

by_inside : (i j : ℕ) (s t : Location) → IsOrdered s t → (i ≡ j) ⊎ ((i < j) ⊎ (j < i)) → IsOrdered (Inside i s) (Inside j t)
by_inside i j s t o (inr (inl h)) = inr (inl (inl h))
by_inside i j s t o (inr (inr h)) = inr (inr (inl h))
by_inside i j s t (inl e) (inl f) = inl (ap (λ x. Inside x s) f ∙ ap (Inside j) e)
by_inside i j s t (inr (inl h)) (inl f) = inr (inl (inr (f, h)))
by_inside i j s t (inr (inr h)) (inl f) = inr (inr (inr (sym f, h)))

by_connection : (i j k l : ℕ) → (k ≡ l) ⊎ ((k < l) ⊎ (l < k)) → (i ≡ j) ⊎ ((i < j) ⊎ (j < i)) → IsOrdered (AtConnection i k) (AtConnection j l)
by_connection i j k l o (inr (inl h)) = inr (inl (inl h))
by_connection i j k l o (inr (inr h)) = inr (inr (inl h))
by_connection i j k l (inl e) (inl f) = inl (ap (λ x. AtConnection x k) f ∙ ap (AtConnection j) e)
by_connection i j k l (inr (inl h)) (inl f) = inr (inl (inr (f, h)))
by_connection i j k l (inr (inr h)) (inl f) = inr (inr (inr (sym f, h)))

ordered : (s t : Location) → IsOrdered s t
ordered (AtPin k) (AtPin l) = by_pin k l (compare_ℕ k l)
ordered (AtPin k) AtBody = inr (inl tt)
ordered (AtPin k) (AtPart j) = inr (inl tt)
ordered (AtPin k) (Inside j t) = inr (inl tt)
ordered (AtPin k) (AtConnection j l) = inr (inl tt)
ordered AtBody (AtPin l) = inr (inr tt)
ordered AtBody AtBody = inl refl
ordered AtBody (AtPart j) = inr (inl tt)
ordered AtBody (Inside j t) = inr (inl tt)
ordered AtBody (AtConnection j l) = inr (inl tt)
ordered (AtPart i) (AtPin l) = inr (inr tt)
ordered (AtPart i) AtBody = inr (inr tt)
ordered (AtPart i) (AtPart j) = by_part i j (compare_ℕ i j)
ordered (AtPart i) (Inside j t) = inr (le_or i j)
ordered (AtPart i) (AtConnection j l) = inr (le_or i j)
ordered (Inside i s) (AtPin l) = inr (inr tt)
ordered (Inside i s) AtBody = inr (inr tt)
ordered (Inside i s) (AtPart j) = inr (elim (le_or j i) [ inl h ↦ inr h | inr h ↦ inl h ])
ordered (Inside i s) (Inside j t) = by_inside i j s t (ordered s t) (compare_ℕ i j)
ordered (Inside i s) (AtConnection j l) = inr (le_or i j)
ordered (AtConnection i k) (AtPin l) = inr (inr tt)
ordered (AtConnection i k) AtBody = inr (inr tt)
ordered (AtConnection i k) (AtPart j) = inr (elim (le_or j i) [ inl h ↦ inr h | inr h ↦ inl h ])
ordered (AtConnection i k) (Inside j t) = inr (elim (le_or j i) [ inl h ↦ inr h | inr h ↦ inl h ])
ordered (AtConnection i k) (AtConnection j l) = by_connection i j k l (compare_ℕ k l) (compare_ℕ i j)

module _ (chips : Chips) (names : List (List ℕ)) (entry : Entry) where
  same_by : (f g : NamedFault) (h : IsFirstFault chips names entry f) (k : IsFirstFault chips names entry g) → IsOrdered h.place k.place → f ≡ g
  same_by f g h k (inl e) = let m : Some f ≡ Some g = sym h.there ∙ ap (fault_at chips names entry) e ∙ k.there in cc
  same_by f g h k (inr (inl e)) = let n = k.first h.place e in let m = h.there in absurd cc
  same_by f g h k (inr (inr e)) = let n = h.first k.place e in let m = k.there in absurd cc

  pub one_first : (f g : NamedFault) → IsFirstFault chips names entry f → IsFirstFault chips names entry g → f ≡ g
  one_first f g h k = same_by f g h k (ordered h.place k.place)

  pub not_both : (f : NamedFault) → IsFirstFault chips names entry f → IsFaultless chips names entry → ⊥
  not_both f h n = let e = n h.place in let g = h.there in cc
