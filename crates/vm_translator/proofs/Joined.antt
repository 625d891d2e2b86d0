-- One more range at the end.
use Rattle.std.proofs.Common.{◌≡◌, ◌+◌, ◌<◌, ◌≤◌, ◌++◌, ◌⊎◌, ℕ, zero, suc, true, false, List, [], ◌∷◌, length, get_or, set, refl, sym, ap, subst, ◌∙◌, arith, inl, inr, append_assoc, take, map}
use Rattle.std.proofs.lemmas.Bool.{and_parts, eqb-true, cases_Bool}
use Rattle.outer_world.specs.declared.point.Point.{Point}
use Rattle.image_map.specs.declared.map.PointRange.{PointRange}
use Rattle.vm_link.specs.declared.linked.Linked.{Linked}
use Rattle.vm_translator.specs.declared.layout.Placed.{Placed}
use Rattle.vm_translator.specs.declared.layout.Layout.{Layout}
use Rattle.vm_translator.specs.Places.{base_of, program}
use Rattle.vm_translator.specs.Image.{join, merged_ranges, points_of, range_of, same_point, shared_at, start_ranges, stretched_ranges}
use Rattle.vm_translator.specs.Tables.{IsLayout, added_range}
use Rattle.std.proofs.lemmas.List.{take_all, take_more, map-append}

⊎_by : {A B C : Type 0} → A ⊎ B → (A → C) → (B → C) → C
⊎_by (inl a) f g = f a
⊎_by (inr b) f g = g b

same : (p q : Point) → same_point p q ≡ true → p ≡ q
same p q e =
    let h = and_parts _ _ e in
    let s = eqb-true _ _ h.0 in
    let n = eqb-true _ _ h.1 in
    λ i. record { sub = s i; number = n i }

-- a range before, and one more at the end
join_added : (x : PointRange) (ys : List PointRange) (r : PointRange) → join x (added_range ys r) ≡ added_range (join x ys) r
join_added x [] r = refl
join_added x (y ∷ []) r = ⊎_by (cases_Bool (same_point x.point y.point)) joined apart
  where
    joined : same_point x.point y.point ≡ true → join x (added_range (y ∷ []) r) ≡ added_range (join x (y ∷ [])) r
    joined e = ⊎_by (cases_Bool (same_point y.point r.point))
        (λ f. let p = same x.point y.point e in let g = subst (λ z. same_point z r.point ≡ true) (sym p) f in rw (e, f, e, g) refl)
        (λ f. let p = same x.point y.point e in let g = subst (λ z. same_point z r.point ≡ false) (sym p) f in rw (e, f, e, g) refl)

    apart : same_point x.point y.point ≡ false → join x (added_range (y ∷ []) r) ≡ added_range (join x (y ∷ [])) r
    apart e = ⊎_by (cases_Bool (same_point y.point r.point)) (λ f. rw (e, f, e) refl) (λ f. rw (e, f, e) refl)
join_added x (y ∷ z ∷ zs) r = ⊎_by (cases_Bool (same_point x.point y.point)) (λ e. rw e refl) (λ e. rw e refl)

pub merged_added : (xs : List PointRange) (r : PointRange) → merged_ranges (xs ++ r ∷ []) ≡ added_range (merged_ranges xs) r
merged_added [] r = refl
merged_added (x ∷ xs) r = ap (join x) (merged_added xs r) ∙ join_added x (merged_ranges xs) r

-- a write at the last place
pub added_same : (ys : List PointRange) (n : ℕ) (r last : PointRange) → length ys ≡ suc n → last ≡ get_or ys n last
    → same_point last.point r.point ≡ true → set ys n (record { from = last.from; to = r.to; point = last.point }) ≡ added_range ys r
added_same [] n r last h l e = absurd (omega arith)
added_same (y ∷ []) zero r last h l e =
    let m : last ≡ y = l in
    subst (λ (z : PointRange). set (y ∷ []) 0 (record { from = last.from; to = r.to; point = last.point }) ≡ added_range (z ∷ []) r) m (rw e refl)
added_same (y ∷ []) (suc n) r last h l e = absurd (omega arith)
added_same (y ∷ z ∷ zs) zero r last h l e = absurd (omega arith)
added_same (y ∷ z ∷ zs) (suc n) r last h l e = ap (λ ws. y ∷ ws) (added_same (z ∷ zs) n r last (omega arith) l e)

pub added_other : (ys : List PointRange) (n : ℕ) (r last : PointRange) → length ys ≡ suc n → last ≡ get_or ys n last
    → same_point last.point r.point ≡ false → ys ++ r ∷ [] ≡ added_range ys r
added_other [] n r last h l e = absurd (omega arith)
added_other (y ∷ []) zero r last h l e = let m : last ≡ y = l in let f = subst (λ (z : PointRange). same_point z.point r.point ≡ false) m e in rw f refl
added_other (y ∷ []) (suc n) r last h l e = absurd (omega arith)
added_other (y ∷ z ∷ zs) zero r last h l e = absurd (omega arith)
added_other (y ∷ z ∷ zs) (suc n) r last h l e = ap (λ ws. y ∷ ws) (added_other (z ∷ zs) n r last (omega arith) l e)

pub added_first : (ys : List PointRange) (r : PointRange) → length ys ≡ 0 → ys ++ r ∷ [] ≡ added_range ys r
added_first [] r h = refl
added_first (y ∷ ys) r h = absurd (omega arith)

pub stretched_last : (ys : List PointRange) (n to : ℕ) (last : PointRange) → length ys ≡ suc n → last ≡ get_or ys n last
    → set ys n (record { from = last.from; to = to; point = last.point }) ≡ stretched_ranges to ys
stretched_last [] n to last h l = absurd (omega arith)
stretched_last (y ∷ []) zero to last h l = let m : last ≡ y = l in ap (λ (z : PointRange). record { from = z.from; to = to; point = z.point } ∷ []) m
stretched_last (y ∷ []) (suc n) to last h l = absurd (omega arith)
stretched_last (y ∷ z ∷ zs) zero to last h l = absurd (omega arith)
stretched_last (y ∷ z ∷ zs) (suc n) to last h l = ap (λ ws. y ∷ ws) (stretched_last (z ∷ zs) n to last (omega arith) l)

-- the ranges of one more step, and of all
pub points_more : (start : List PointRange) (xs : List Placed) (i : ℕ) (d : Placed) (r : PointRange) (ps qs : List PointRange) → i < length xs → r ≡ range_of (get_or xs i d)
    → ps ≡ merged_ranges (start ++ map range_of (take i xs)) → qs ≡ added_range ps r → qs ≡ merged_ranges (start ++ map range_of (take (i + 1) xs))
points_more start xs i d r ps qs h e p q =
    let t : map range_of (take (i + 1) xs) ≡ map range_of (take i xs) ++ r ∷ []
    = ap (map range_of) (take_more xs i d h) ∙ map-append range_of (take i xs) (get_or xs i d ∷ []) ∙ ap (λ (z : PointRange). map range_of (take i xs) ++ z ∷ []) (sym e) in
    q ∙ ap (λ zs. added_range zs r) p ∙ sym (merged_added (start ++ map range_of (take i xs)) r) ∙ ap merged_ranges (append_assoc start (map range_of (take i xs)) (r ∷ []))
    ∙ ap (λ zs. merged_ranges (start ++ zs)) (sym t)

pub points_done : (l : Linked) (layout : Layout) (from i : ℕ) (ps qs : List PointRange) → IsLayout (base_of l) l.functions layout → length layout.placed.items ≤ i
    → ps ≡ merged_ranges (start_ranges l ++ map range_of (take i layout.placed.items)) → from ≡ shared_at l → qs ≡ stretched_ranges from ps → qs ≡ points_of l
points_done l layout from i ps qs lay h p n q =
    let all : ps ≡ merged_ranges (start_ranges l ++ map range_of (program l))
    = p ∙ ap (λ xs. merged_ranges (start_ranges l ++ map range_of xs)) (take_all i layout.placed.items h ∙ lay.placed) in
    q ∙ ap (λ k. stretched_ranges k ps) n ∙ ap (stretched_ranges (shared_at l)) all
