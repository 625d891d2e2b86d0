-- The linked subroutines are those that have a point, in order of their first address.
use Rattle.std.proofs.Common.{◌≡◌, ◌+◌, ◌<◌, ◌≤◌, ◌++◌, ℕ, suc, Bool, true, false, List, [], ◌∷◌, Option, Some, Ok, map, length, nat_eq, refl, sym, ap, subst, ◌∙◌, arith}
use Rattle.std.specs.List.{filter_map, list_any}
use Rattle.std.proofs.lemmas.Bool.{and_parts, eq-eqb, eqb-true, ne_eqb}
use Rattle.std.proofs.lemmas.List.{map-append}
use Rattle.image_map.specs.declared.map.PointRange.{PointRange}
use Rattle.jack_tree.specs.declared.tree.Subroutine.{Subroutine}
use Rattle.vm_tree.specs.declared.program.File.{File}
use Rattle.vm_tree.specs.declared.program.Function.{Function}
use Rattle.vm_link.specs.Links.{Links, whole}
use Rattle.vm_link.specs.Reached.{Keeps, dropped, kept, none}
use Rattle.vm_link.specs.Resolved.{code_of, entry_of, function_of}
use Rattle.vm_link.specs.Sections.{Section, file_sections, functions_from, sections_from}
use Rattle.vm_link.specs.declared.linked.Code.{Code}
use Rattle.vm_link.specs.declared.linked.Linked.{Linked}
use Rattle.vm_link.specs.declared.linked.LinkedFunction.{LinkedFunction}
use Rattle.vm_translator.specs.Image.{join, merged_ranges, points_of, range_of, same_point, shared_at, start_ranges, stretched_ranges}
use Rattle.vm_translator.specs.Places.{base_of, placed_code, placed_from, program, words_of}
use Rattle.vm_translator.specs.Shapes.{step_size}
use Rattle.vm_translator.specs.declared.layout.Placed.{Placed}
use Rattle.jack_debug.specs.declared.places.PlacedRange.{PlacedRange}
use Rattle.vm_debug.specs.Linked.{LinkedLaw, firsts}
use Rattle.vm_debug.specs.Places.{linked_numbers, placed_range, trees_of}

-- ---- first numbers

by_case : {A : Type 0} (b : Bool) → (b ≡ true → A) → (b ≡ false → A) → A
by_case true f g = f refl
by_case false f g = g refl

abbrev has : List ℕ → ℕ → Bool
has before n = list_any (nat_eq n) before

-- after a number the same
firsts_same : (before : List ℕ) (n : ℕ) (xs ys : List ℕ) → ((seen : List ℕ) → firsts seen xs ≡ firsts seen ys) → firsts before (n ∷ xs) ≡ firsts before (n ∷ ys)
firsts_same before n xs ys h = by_case (has before n) (λ e. rw e (h before)) (λ e. rw e (ap (λ z. n ∷ z) (h (n ∷ before))))

-- a number that comes again at once
firsts_again : (before : List ℕ) (n m : ℕ) (xs : List ℕ) → n ≡ m → firsts before (n ∷ xs) ≡ firsts before (n ∷ (m ∷ xs))
firsts_again before n m xs same =
    let own : nat_eq m n ≡ true = eq-eqb m n (sym same) in
    by_case (has before n)
    (λ e. let also : has before m ≡ true = subst (λ z. has before z ≡ true) same e in rw (e, also) refl)
    (λ e. rw (e, own) refl)

-- ---- the subroutines of ranges

abbrev subs_of : List PointRange → List ℕ
subs_of rs = map (λ (r : PointRange). r.point.sub) rs

placed_subs_are : (ts : List Subroutine) (rs : List PointRange) → map (λ (r : PlacedRange). r.point.sub) (map (placed_range ts) rs) ≡ subs_of rs
placed_subs_are ts [] = refl
placed_subs_are ts (r ∷ rs) = ap (λ z. r.point.sub ∷ z) (placed_subs_are ts rs)

stretched_are : (to : ℕ) (rs : List PointRange) → subs_of (stretched_ranges to rs) ≡ subs_of rs
stretched_are to [] = refl
stretched_are to (r ∷ []) = refl
stretched_are to (r ∷ s ∷ rs) = ap (λ z. r.point.sub ∷ z) (stretched_are to (s ∷ rs))

joined_are : (before : List ℕ) (r : PointRange) (rs : List PointRange) → firsts before (subs_of (join r rs)) ≡ firsts before (r.point.sub ∷ subs_of rs)
joined_are before r [] = refl
joined_are before r (s ∷ ss) = by_case (same_point r.point s.point)
    (λ e.
    let one : r.point.sub ≡ s.point.sub = eqb-true _ _ (and_parts _ _ e).0 in
    rw e (firsts_again before r.point.sub s.point.sub (subs_of ss) one))
    (λ e. rw e refl)

merged_are : (before : List ℕ) (rs : List PointRange) → firsts before (subs_of (merged_ranges rs)) ≡ firsts before (subs_of rs)
merged_are before [] = refl
merged_are before (r ∷ rs) =
    joined_are before r (merged_ranges rs) ∙ firsts_same before r.point.sub (subs_of (merged_ranges rs)) (subs_of rs) (λ seen. merged_are seen rs)

-- ---- the ranges of functions

-- The numbers of functions rise from above this one, and each has a command.
AreRising : ℕ → List LinkedFunction → Type 0
AreRising m [] = Unit {0}
AreRising m (f ∷ fs) = (m < f.number) × ((c : Code) × (cs : List Code) × (f.code ≡ c ∷ cs)) × AreRising f.number fs

AreAtMost : ℕ → List ℕ → Type 0
AreAtMost m [] = Unit {0}
AreAtMost m (n ∷ ns) = (n ≤ m) × AreAtMost m ns

at_most_more : (m k : ℕ) (ns : List ℕ) → m ≤ k → AreAtMost m ns → AreAtMost k ns
unfolding AreAtMost
at_most_more m k [] le h = tt
at_most_more m k (n ∷ ns) le h = let first = h.0 in (omega (arith, le, first), at_most_more m k ns le h.1)

has_none : (m n : ℕ) (ns : List ℕ) → m < n → AreAtMost m ns → has ns n ≡ false
unfolding AreAtMost
has_none m n [] lt h = refl
has_none m n (k ∷ ns) lt h =
    let first = h.0 in
    let other : n ≡ k → ⊥ = λ e. omega (arith, lt, first, e) in
    rw (ne_eqb n k other) (has_none m n ns lt h.1)

abbrev code_subs : List Placed → List ℕ
code_subs ps = subs_of (map range_of ps)

-- the commands of a function after its first have its number
code_are : (before : List ℕ) (k n at : ℕ) (cs : List Code) (more : List ℕ) → firsts (n ∷ before) (code_subs (placed_code k n at cs) ++ more) ≡ firsts (n ∷ before) more
code_are before k n at [] more = refl
code_are before k n at (c ∷ cs) more =
    let own : nat_eq n n ≡ true = eq-eqb n n refl in
    rw own (code_are before k n (at + step_size c.step) cs more)

code_first : (before : List ℕ) (k n at : ℕ) (c : Code) (cs : List Code) (more : List ℕ) → has before n ≡ false
    → firsts before (code_subs (placed_code k n at (c ∷ cs)) ++ more) ≡ n ∷ firsts (n ∷ before) more
code_first before k n at c cs more fresh = rw fresh (ap (λ z. n ∷ z) (code_are before k n (at + step_size c.step) cs more))

subs_append : (ps qs : List Placed) → code_subs (ps ++ qs) ≡ code_subs ps ++ code_subs qs
subs_append [] qs = refl
subs_append (p ∷ ps) qs = ap (λ z. p.point.sub ∷ z) (subs_append ps qs)

functions_are : (m : ℕ) (before : List ℕ) (k at : ℕ) (fs : List LinkedFunction) → AreAtMost m before → AreRising m fs → firsts before (code_subs (placed_from k at fs)) ≡ linked_numbers fs
unfolding AreAtMost AreRising
functions_are m before k at [] low rise = refl
functions_are m before k at (f ∷ fs) low (more, (c, cs, e), rest) =
    let n = f.number in
    let within : AreAtMost n (n ∷ before) = (omega arith, at_most_more m n before (omega (arith, more)) low) in
    let P : List Code → Type 0 = λ code. firsts before (code_subs (placed_code k n at code) ++ code_subs (placed_from (k + 1) (at + words_of code) fs)) ≡ n ∷ linked_numbers fs in
    let others = functions_are n (n ∷ before) (k + 1) (at + words_of (c ∷ cs)) fs within rest in
    let one : P (c ∷ cs) = code_first before k n at c cs (code_subs (placed_from (k + 1) (at + words_of (c ∷ cs)) fs)) (has_none m n before more low) ∙ ap (λ z. n ∷ z) others in
    ap (firsts before) (subs_append (placed_code k n at f.code) (placed_from (k + 1) (at + words_of f.code) fs)) ∙ subst P (sym e) one

-- ---- linked functions rise

-- Sections are functions, and have the numbers from this one on.
AreNumbered : ℕ → List Section → Type 0
AreNumbered n [] = Unit {0}
AreNumbered n (s ∷ ss) = (s.number ≡ n) × ((name : List ℕ) × (s.name ≡ Some name)) × AreNumbered (n + 1) ss

numbered_both : (n : ℕ) (ss ts : List Section) → AreNumbered n ss → AreNumbered (n + length ss) ts → AreNumbered n (ss ++ ts)
unfolding AreNumbered
numbered_both n [] ts h k = let e : n + 0 ≡ n = omega arith in subst (λ z. AreNumbered z ts) e k
numbered_both n (s ∷ ss) ts h k =
    let e : n + suc (length ss) ≡ n + 1 + length ss = omega arith in
    (h.0, h.1, numbered_both (n + 1) ss ts h.2 (subst (λ z. AreNumbered z ts) e k))

functions_numbered : (k n : ℕ) (fs : List Function) → AreNumbered n (functions_from k n fs)
unfolding AreNumbered
functions_numbered k n [] = tt
functions_numbered k n (f ∷ fs) = (refl, (f.name, refl), functions_numbered k (n + 1) fs)

sections_numbered : (k n : ℕ) (fs : List File) → AreNumbered n (sections_from false k n fs)
unfolding AreNumbered
sections_numbered k n [] = tt
sections_numbered k n (f ∷ fs) =
    numbered_both n (file_sections false k n f) (sections_from false (k + 1) (n + length (file_sections false k n f)) fs) (functions_numbered k n f.functions)
    (sections_numbered (k + 1) (n + length (file_sections false k n f)) fs)

-- a function has its first command, `function`
has_code : (all : List Section) (s : Section) (name : List ℕ) → s.name ≡ Some name → (c : Code) × (cs : List Code) × ((function_of all s).code ≡ c ∷ cs)
has_code all s name e =
    let P : Option (List ℕ) → Type 0 = λ o. (c : Code) × (cs : List Code) × (entry_of o s.locals s.lines ++ filter_map (code_of all s) s.lines ≡ c ∷ cs) in
    subst P (sym e) (_, _, refl)

kept_rise : (all : List Section) (P : ℕ → Type 0) (m n : ℕ) {i : ℕ} {ss ks : List Section} → Keeps P i ss ks → m < n → AreNumbered n ss → AreRising m (map (function_of all) ks)
unfolding AreNumbered AreRising
kept_rise all P m n none lt h = tt
kept_rise all P m n (kept {s = s} p r) lt (e, (name, named), h) = (
  omega (arith, lt, e),
  has_code all s name named,
  kept_rise all P s.number (n + 1) r (omega (arith, e)) h,
)
kept_rise all P m n (dropped p r) lt (e, named, h) = kept_rise all P m (n + 1) r (omega (arith, lt)) h

linked_rise : (files : List File) (linked : Linked) → Links false files (Ok linked) → (linked.bare ≡ false) × AreRising 0 linked.functions
linked_rise files linked (whole ks text keeps fault is) =
    let P : Linked → Type 0 = λ l. (l.bare ≡ false) × AreRising 0 l.functions in
    subst P (sym is) (refl, kept_rise ks _ 0 1 keeps (omega arith) (sections_numbered 0 1 files))

-- ---- the points of an image

start_are : (linked : Linked) → linked.bare ≡ false → (more : List ℕ) → firsts (0 ∷ []) (subs_of (start_ranges linked) ++ more) ≡ firsts (0 ∷ []) more
start_are linked e more = rw e refl

ranges_append : (rs ss : List PointRange) → subs_of (rs ++ ss) ≡ subs_of rs ++ subs_of ss
ranges_append rs ss = map-append (λ (r : PointRange). r.point.sub) rs ss

at_start : AreAtMost 0 (0 ∷ [])
unfolding AreAtMost
at_start = (omega arith, tt)

points_are : (files : List File) (linked : Linked) → Links false files (Ok linked) → firsts (0 ∷ []) (subs_of (points_of linked)) ≡ linked_numbers linked.functions
points_are files linked links =
    let r = linked_rise files linked links in
    let ranges = start_ranges linked ++ map range_of (program linked) in
    ap (firsts (0 ∷ [])) (stretched_are (shared_at linked) (merged_ranges ranges))
    ∙ merged_are (0 ∷ []) ranges
    ∙ ap (firsts (0 ∷ [])) (ranges_append (start_ranges linked) (map range_of (program linked)))
    ∙ start_are linked r.0 (code_subs (program linked))
    ∙ functions_are 0 (0 ∷ []) 0 (base_of linked) linked.functions at_start r.1

pub linked_are : LinkedLaw
linked_are own system files linked links =
    sym (ap (firsts (0 ∷ [])) (placed_subs_are (trees_of (own ++ system)) (points_of linked)) ∙ points_are files linked links)
