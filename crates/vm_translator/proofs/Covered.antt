-- The ranges of points cover the image, and each address has the point of its step.
use Rattle.std.proofs.Common.{◌≡◌, ◌+◌, ◌<◌, ◌≤◌, ◌++◌, ◌⊎◌, ◌&&◌, ◌||◌, ℕ, Bool, true, false, List, [], ◌∷◌, Some, None, nat_eq, refl, sym, ap, subst, ◌∙◌, arith, inl, inr, if◌then◌else◌}
use Rattle.std.specs.Prelude.{nat_le, nat_lt, map, not, length, filter}
use Rattle.std.specs.List.{list_any}
use Rattle.std.proofs.lemmas.Bool.{cases_Bool, cases_lt, le-leb, lt-leb, lt-ltb, le-ltb, and_parts, eqb-true}
use Rattle.outer_world.specs.declared.point.Point.{Point}
use Rattle.vm_templates.specs.declared.routines.Routine.{Routine}
use Rattle.vm_templates.specs.declared.routines.Routine.TheVariants as routine
use Rattle.vm_link.specs.declared.linked.Code.{Code}
use Rattle.vm_link.specs.declared.linked.Linked.{Linked}
use Rattle.vm_link.specs.declared.linked.LinkedFunction.{LinkedFunction}
use Rattle.image_map.specs.declared.map.PointRange.{PointRange}
use Rattle.vm_translator.specs.declared.layout.Placed.{Placed}
use Rattle.vm_translator.specs.Shapes.{step_size}
use Rattle.vm_translator.specs.Places.{base_of, end_of, program, words_in, words_of}
use Rattle.vm_translator.specs.Shared.{all_routines, is_routine, routine_for, same_routine, used_routines, uses}
use Rattle.vm_translator.specs.declared.ends.Closing.TheVariants as closes
use Rattle.vm_translator.specs.Image.{closing_size, join, merged_ranges, stretched_ranges, same_point, range_of, start_ranges, points_of, entry_of, names, names_end, shared_at}
use Rattle.image_map.specs.Map.{point_in, Covers}
use Rattle.vm_translator.proofs.Sums.{size_some}
use Rattle.vm_translator.proofs.Chained.{Chain, chain_from, chain_up}

⊎_by : {A B C : Type 0} → A ⊎ B → (A → C) → (B → C) → C
⊎_by (inl a) f g = f a
⊎_by (inr b) f g = g b

-- an address in the first range, below it, and above it
pub in_range : (r : PointRange) (rs : List PointRange) (k : ℕ) → r.from ≤ k → k < r.to → point_in (r ∷ rs) k ≡ Some r.point
in_range r rs k a b = rw (le-leb r.from k a, lt-ltb k r.to b) refl

below_range : (r : PointRange) (rs : List PointRange) (k : ℕ) → k < r.from → point_in (r ∷ rs) k ≡ point_in rs k
below_range r rs k h = rw (lt-leb r.from k h) refl

above_range : (r : PointRange) (rs : List PointRange) (k : ℕ) → r.to ≤ k → point_in (r ∷ rs) k ≡ point_in rs k
above_range r rs k h = ⊎_by (cases_lt k r.from) (λ l. below_range r rs k l) (λ l. rw (le-leb r.from k l, le-ltb k r.to h) refl)

same : (p q : Point) → same_point p q ≡ true → p ≡ q
same p q e =
    let h = and_parts _ _ e in
    let s = eqb-true _ _ h.0 in
    let n = eqb-true _ _ h.1 in
    λ i. record { sub = s i; number = n i }

-- two ranges of one point, joined
as_one : (r s : PointRange) (ss : List PointRange) (k : ℕ) → r.from < r.to → s.from ≡ r.to → r.to < s.to → r.point ≡ s.point
    → point_in (record { from = r.from; to = s.to; point = r.point } ∷ ss) k ≡ point_in (r ∷ s ∷ ss) k
as_one r s ss k some next more p =
    let x : PointRange = record { from = r.from; to = s.to; point = r.point } in
    ⊎_by (cases_lt k r.from)
    (λ l. below_range x ss k l ∙ sym (below_range r (s ∷ ss) k l ∙ below_range s ss k (omega arith)))
    (λ l. ⊎_by (cases_lt k r.to)
    (λ b. in_range x ss k l (omega arith) ∙ sym (in_range r (s ∷ ss) k l b))
    (λ b. ⊎_by (cases_lt k s.to)
    (λ c. in_range x ss k l c ∙ ap Some p ∙ sym (above_range r (s ∷ ss) k b ∙ in_range s ss k (omega arith) c))
    (λ c. above_range x ss k c ∙ sym (above_range r (s ∷ ss) k b ∙ above_range s ss k c))))

join_same : (at to : ℕ) (r : PointRange) (ss : List PointRange) → Covers at (r ∷ ss) to → (Covers at (join r ss) to) × ((k : ℕ) → point_in (join r ss) k ≡ point_in (r ∷ ss) k)
join_same at to r [] h = (h, λ k. refl)
join_same at to r (s ∷ ss) h = ⊎_by (cases_Bool (same_point r.point s.point))
    (λ e.
    let f = h.0 in
    let m = h.1 in
    let t = h.2 in
    let next = t.0 in
    let more = t.1 in
    let c : Covers at (record { from = r.from; to = s.to; point = r.point } ∷ ss) to = (f, omega arith, t.2) in (
      subst (λ b. Covers at (if b then record { from = r.from; to = s.to; point = r.point } ∷ ss else r ∷ s ∷ ss) to) (sym e) c,
      λ k. subst (λ b. point_in (if b then record { from = r.from; to = s.to; point = r.point } ∷ ss else r ∷ s ∷ ss) k ≡ point_in (r ∷ s ∷ ss) k) (sym e) (as_one r s ss k (omega arith) next more (same r.point s.point e)),
    ))
    (λ e. (
      subst (λ b. Covers at (if b then record { from = r.from; to = s.to; point = r.point } ∷ ss else r ∷ s ∷ ss) to) (sym e) h,
      λ k. subst (λ b. point_in (if b then record { from = r.from; to = s.to; point = r.point } ∷ ss else r ∷ s ∷ ss) k ≡ point_in (r ∷ s ∷ ss) k) (sym e) refl,
    ))

-- an address that the first range is not of, over two rests that say the same of it
over : (r : PointRange) (xs ys : List PointRange) (k : ℕ) → point_in xs k ≡ point_in ys k → point_in (r ∷ xs) k ≡ point_in (r ∷ ys) k
over r xs ys k e = ap (λ o. if nat_le r.from k && nat_lt k r.to then Some r.point else o) e

merged_same : (at to : ℕ) (rs : List PointRange) → Covers at rs to → (Covers at (merged_ranges rs) to) × ((k : ℕ) → point_in (merged_ranges rs) k ≡ point_in rs k)
merged_same at to [] h = (h, λ k. refl)
merged_same at to (r ∷ rs) h =
    let m = merged_same r.to to rs h.2 in
    let j = join_same at to r (merged_ranges rs) (h.0, h.1, m.0) in
    (j.0, λ k. j.1 k ∙ over r (merged_ranges rs) rs k (m.1 k))

covers_up : (at to : ℕ) (rs : List PointRange) → Covers at rs to → at ≤ to
covers_up at to [] h = omega arith
covers_up at to (r ∷ rs) h = let u = covers_up r.to to rs h.2 in let m = h.1 in omega arith

-- ranges that are stretched, where there are some
stretched_covers : (at to up : ℕ) (rs : List PointRange) → (at ≡ to → up ≡ to) → to ≤ up → Covers at rs to → Covers at (stretched_ranges up rs) up
stretched_covers at to up [] l m h = let e = l h in omega arith
stretched_covers at to up (r ∷ []) l m h = let e = h.2 in let some = h.1 in (h.0, omega arith, refl)
stretched_covers at to up (r ∷ s ∷ rs) l m h =
    let t = h.2 in
    let some = t.1 in
    let u = covers_up s.to to rs t.2 in
    (h.0, h.1, stretched_covers r.to to up (s ∷ rs) (λ e. absurd (omega arith)) m t)

stretched_same : (at to up : ℕ) (rs : List PointRange) → to ≤ up → Covers at rs to → (k : ℕ) → k < to → point_in (stretched_ranges up rs) k ≡ point_in rs k
stretched_same at to up [] m h k l = refl
stretched_same at to up (r ∷ []) m h k l =
    let e = h.2 in
    ⊎_by (cases_lt k r.from)
    (λ b. below_range (record { from = r.from; to = up; point = r.point }) [] k b ∙ sym (below_range r [] k b))
    (λ b. in_range (record { from = r.from; to = up; point = r.point }) [] k b (omega arith) ∙ sym (in_range r [] k b (omega arith)))
stretched_same at to up (r ∷ s ∷ rs) m h k l = over r (stretched_ranges up (s ∷ rs)) (s ∷ rs) k (stretched_same r.to to up (s ∷ rs) m h.2 k l)

covers_both : (at mid to : ℕ) (rs ss : List PointRange) → Covers at rs mid → Covers mid ss to → Covers at (rs ++ ss) to
covers_both at mid to [] ss h k = subst (λ a. Covers a ss to) (sym h) k
covers_both at mid to (r ∷ rs) ss h k = (h.0, h.1, covers_both r.to mid to rs ss h.2 k)

-- past all ranges of the front
pub past_ranges : (at mid : ℕ) (rs ss : List PointRange) → Covers at rs mid → (k : ℕ) → mid ≤ k → point_in (rs ++ ss) k ≡ point_in ss k
past_ranges at mid [] ss h k l = refl
past_ranges at mid (r ∷ rs) ss h k l = let u = covers_up r.to mid rs h.2 in above_range r (rs ++ ss) k (omega arith) ∙ past_ranges r.to mid rs ss h.2 k l

pub chain_covers : (at to : ℕ) (xs : List Placed) → Chain at xs to → Covers at (map range_of xs) to
chain_covers at to [] h = h
chain_covers at to (x ∷ xs) h =
    let s = size_some x.code.step in
    let e = h.0 in
    let n : at + step_size x.code.step ≡ x.at + step_size x.code.step = omega arith in
    (e, omega arith, subst (λ a. Covers a (map range_of xs) to) n (chain_covers (at + step_size x.code.step) to xs h.1))

pub start_covers : (l : Linked) → Covers 0 (start_ranges l) (base_of l)
start_covers l = by_bare l.bare
  where
    by_bare : (b : Bool) → Covers 0 (if b then [] else record { from = 0; to = 21; point = record { sub = 0; number = 1 } } ∷ record { from = 21; to = 23; point = record { sub = 0; number = 2 } } ∷ []) (if b then 0 else 23)
    by_bare true = refl
    by_bare false = (refl, omega arith, (refl, omega arith, refl))

pub all_ranges : Linked → List PointRange
all_ranges l = start_ranges l ++ map range_of (program l)

ranges_cover : (l : Linked) → Covers 0 (start_ranges l ++ map range_of (program l)) (end_of l)
ranges_cover l = covers_both 0 (base_of l) (end_of l) (start_ranges l) (map range_of (program l)) (start_covers l) (chain_covers (base_of l) (end_of l) (program l) (chain_from 0 (base_of l) l.functions))

-- the point of an address of the code is that of the ranges before they are merged
pub points_are : (l : Linked) (k : ℕ) → k < end_of l → point_in (points_of l) k ≡ point_in (start_ranges l ++ map range_of (program l)) k
points_are l k h = stretched_same 0 (end_of l) (shared_at l) (merged_ranges (start_ranges l ++ map range_of (program l))) (omega arith) m.0 k h ∙ m.1 k
  where
    m : (Covers 0 (merged_ranges (start_ranges l ++ map range_of (program l))) (end_of l)) × ((k : ℕ) → point_in (merged_ranges (start_ranges l ++ map range_of (program l))) k ≡ point_in (start_ranges l ++ map range_of (program l)) k)
    m = merged_same 0 (end_of l) (start_ranges l ++ map range_of (program l)) (ranges_cover l)

-- The ranges cover the image up to the routines.
pub points_cover : (l : Linked) → (0 ≡ end_of l → shared_at l ≡ end_of l) → Covers 0 (points_of l) (shared_at l)
points_cover l none = stretched_covers 0 (end_of l) (shared_at l) (merged_ranges (start_ranges l ++ map range_of (program l))) none (omega arith) m
  where
    m : Covers 0 (merged_ranges (start_ranges l ++ map range_of (program l))) (end_of l)
    m = (merged_same 0 (end_of l) (start_ranges l ++ map range_of (program l)) (ranges_cover l)).0

-- An image whose end is named has code.
some_code : (at to : ℕ) (f : Placed → Bool) (xs : List Placed) → Chain at xs to → list_any f xs ≡ true → 0 < to
some_code at to f [] h e = absurd (cc e)
some_code at to f (x ∷ xs) h e = let s = size_some x.code.step in let up = chain_up (at + step_size x.code.step) to xs h.1 in omega arith

named_code : (l : Linked) → names_end l ≡ true → 0 < end_of l
named_code l = some l.bare (nat_eq (end_of l) (entry_of l)) (list_any (names (base_of l) l.functions (end_of l)) (program l)) refl (some_code (base_of l) (end_of l) (names (base_of l) l.functions (end_of l)) (program l) (chain_from 0 (base_of l) l.functions))
  where
    some : (b x y : Bool) → l.bare ≡ b → (y ≡ true → 0 < end_of l) → ((not b && x) || y) ≡ true → 0 < end_of l
    some true x y e h t = h t
    some false x y e h t = let z : base_of l ≡ 23 = ap (λ b. if b then 0 else 23) e in omega arith

-- A program has code where some step goes through a routine.
some_step : (f : Code → Bool) (cs : List Code) → list_any f cs ≡ true → 0 < words_of cs
some_step f [] e = absurd (cc e)
some_step f (c ∷ cs) e = let s = size_some c.step in omega arith

some_function : (f : Code → Bool) (fs : List LinkedFunction) → list_any (λ (g : LinkedFunction). list_any f g.code) fs ≡ true → 0 < words_in fs
some_function f [] e = absurd (cc e)
some_function f (g ∷ fs) e = ⊎_by (cases_Bool (list_any f g.code))
    (λ t. let s = some_step f g.code t in omega arith)
    (λ t. let s = some_function f fs (sym (ap (λ b. b || list_any (λ (g : LinkedFunction). list_any f g.code) fs) t) ∙ e) in omega arith)

used_code : (l : Linked) (rs : List Routine) → l.bare ≡ true → nat_eq (length (filter (uses l) rs)) 0 ≡ false → 0 < end_of l
used_code l [] bare e = absurd (cc e)
used_code l (r ∷ rs) bare e = ⊎_by (cases_Bool (uses l r)) some
    (λ t. used_code l rs bare (sym (ap (λ b. nat_eq (length (if b then r ∷ filter (uses l) rs else filter (uses l) rs)) 0) t) ∙ e))
  where
    functions_use : Bool
    functions_use = list_any (λ (f : LinkedFunction). list_any (λ (c : Code). is_routine r (routine_for c.step)) f.code) l.functions

    some : uses l r ≡ true → 0 < end_of l
    some t =
        let own : functions_use ≡ true = sym (ap (λ b. (not b && same_routine r routine.Call) || functions_use) bare) ∙ t in
        let s = some_function (λ c. is_routine r (routine_for c.step)) l.functions own in
        omega arith

-- nothing closes a program without code
pub covers : (l : Linked) → Covers 0 (points_of l) (shared_at l)
covers l = points_cover l (none l.bare (nat_eq (length (used_routines l)) 0) (names_end l) (λ b e. used_code l all_routines b e) (named_code l) refl)
  where
    none : (b u n : Bool) → (l.bare ≡ true → u ≡ false → 0 < end_of l) → (n ≡ true → 0 < end_of l) → l.bare ≡ b → 0 ≡ end_of l
        → end_of l + closing_size (if b && not u then closes.Loop else if n then closes.Word else closes.Nothing) ≡ end_of l
    none true false n f g e z = let s = f e refl in absurd (omega arith)
    none true true true f g e z = let s = g refl in absurd (omega arith)
    none true true false f g e z = omega arith
    none false u true f g e z = let s = g refl in absurd (omega arith)
    none false u false f g e z = omega arith

-- past all ranges there is no point
pub past_all : (at to : ℕ) (rs : List PointRange) → Covers at rs to → (k : ℕ) → to ≤ k → point_in rs k ≡ None
past_all at to [] h k l = refl
past_all at to (r ∷ rs) h k l = let u = covers_up r.to to rs h.2 in above_range r rs k (omega arith) ∙ past_all r.to to rs h.2 k l

pub no_point : (l : Linked) (k : ℕ) → shared_at l ≤ k → point_in (points_of l) k ≡ None
no_point l k h = past_all 0 (shared_at l) (points_of l) (covers l) k h
