-- The names of a folder's files are one list: each stands in it as often as a file has it, once or not at all, and in order.
use Rattle.std.proofs.Common.{◌≡◌, ◌<◌, ◌≤◌, ◌+◌, ◌||◌, ℕ, suc, Bool, true, false, cond, List, [], ◌∷◌, Some, length, get_or, refl, sym, ◌∙◌, ap, subst, arith, Ordering, Less, Equal, Greater}
use Rattle.std.specs.Prelude.{filter, nat_eq}
use Rattle.std.specs.List.{ends_with}
use Rattle.std.specs.List.Sorted.{IsPermutation, IsSorted}
use Rattle.std.specs.Ordering.{is_eq, is_lt, nat_cmp, ordering_reverse}
use Rattle.std.specs.Cmp.Lexicographic.{bytes_decides, nat_list_cmp_total, slice_cmp, texts_ties}
use Rattle.std.specs.Str.{bytes_eq}
use Rattle.std.proofs.lemmas.List.Recursion.{is_sum_by}
use Rattle.std.proofs.lemmas.List.Sorted.{ranks_by, sorted_far, sum_by-IsPermutation}
use Rattle.outer_world.specs.Files.{AreDistinct, Files, IsListing, has_name, has_slash}
use Rattle.source_files.specs.Folder.{AreNames, ending_in}

-- how often a name stands in a list
abbrev one : List ℕ → List ℕ → ℕ
one name other = cond (bytes_eq name other) 1 0

abbrev times : List ℕ → List (List ℕ) → ℕ
times name [] = 0
times name (other ∷ names) = one name other + times name names

same_text : (x y : List ℕ) → bytes_eq x y ≡ true → x ≡ y
same_text x y h = (bytes_decides x y).0 h

itself : (x : List ℕ) → bytes_eq x x ≡ true
itself x = (bytes_decides x x).1 refl

-- ---- in a list of distinct names

counted : (b h : Bool) (m : ℕ) → (b ≡ true → h ≡ false) → m ≡ cond h 1 0 → cond b 1 0 + m ≡ cond (b || h) 1 0
counted true true m apart e = let bad = apart refl in absurd (let no : ⊥ = cc in no)
counted true false m apart e = omega (arith, e)
counted false h m apart e = omega (arith, e)

times_distinct : (name : List ℕ) (names : List (List ℕ)) → AreDistinct names → times name names ≡ cond (has_name names name) 1 0
times_distinct name [] d = refl
times_distinct name (x ∷ names) d =
    let same : bytes_eq name x ≡ true → has_name names name ≡ false = λ e. subst (λ n. has_name names n ≡ false) (sym (same_text name x e)) d.0 in
    counted (bytes_eq name x) (has_name names name) (times name names) same (times_distinct name names d.1)

-- ---- in those that end so

kept_times : (q b p : Bool) (m n : ℕ) → (b ≡ true → q ≡ p) → n ≡ cond p m 0 → cond q (cond b 1 0 + n) n ≡ cond p (cond b 1 0 + m) 0
kept_times true b true m n same e = ap (λ k. cond b 1 0 + k) e
kept_times false b false m n same e = e
kept_times true true false m n same e = let bad = same refl in absurd (let no : ⊥ = cc in no)
kept_times true false false m n same e = omega (arith, e)
kept_times false true true m n same e = let bad = same refl in absurd (let no : ⊥ = cc in no)
kept_times false false true m n same e = omega (arith, e)

times_kept : (q : Bool) (name x : List ℕ) (names : List (List ℕ)) → times name (cond q (x ∷ names) names) ≡ cond q (one name x + times name names) (times name names)
times_kept true name x names = refl
times_kept false name x names = refl

none_kept : (b : Bool) (n : ℕ) → n ≡ 0 → n ≡ cond b n 0
none_kept true n e = refl
none_kept false n e = e

times_filter : (p : List ℕ → Bool) (name : List ℕ) (names : List (List ℕ)) → times name (filter p names) ≡ cond (p name) (times name names) 0
times_filter p name [] = none_kept (p name) 0 refl
times_filter p name (x ∷ names) =
    times_kept (p x) name x (filter p names)
    ∙ kept_times (p x) (bytes_eq name x) (p name) (times name names) (times name (filter p names)) (λ e. ap p (sym (same_text name x e))) (times_filter p name names)

-- ---- in another order

times_moved : (name : List ℕ) (xs ys : List (List ℕ)) → IsPermutation xs ys → times name ys ≡ times name xs
times_moved name xs ys moved =
    is_sum_by (times name) (one name) refl (λ x zs. refl) ys ∙ sum_by-IsPermutation (one name) xs ys moved ∙ sym (is_sum_by (times name) (one name) refl (λ x zs. refl) xs)

-- ---- lists in order with the same names as often

below : List ℕ → List ℕ → Bool
below x y = is_lt (slice_cmp nat_cmp x y)

level : (r s : Ordering) → r ≡ ordering_reverse s → is_lt r ≡ false → is_lt s ≡ false → is_eq r ≡ true
level Less s e h k = absurd (let no : ⊥ = cc in no)
level Equal s e h k = refl
level Greater Less e h k = absurd (let no : ⊥ = cc in no)
level Greater Equal e h k = absurd (let no : ⊥ = cc in no)
level Greater Greater e h k = absurd (let no : ⊥ = cc in no)

neither_below : (x y : List ℕ) → is_lt (slice_cmp nat_cmp x y) ≡ false → is_lt (slice_cmp nat_cmp y x) ≡ false → x ≡ y
neither_below x y h k =
    same_text x y (texts_ties x y ∙ level (slice_cmp nat_cmp x y) (slice_cmp nat_cmp y x) (nat_list_cmp_total.antisymm x y) h k)

-- what holds of each element holds of a name that stands there
held_by : (P : List ℕ → Type 0) (b : Bool) (x name : List ℕ) (m : ℕ) → bytes_eq name x ≡ b → P x → (1 ≤ m → P name) → 1 ≤ cond b 1 0 + m → P name
held_by P true x name m e first later some = subst P (sym (same_text name x e)) first
held_by P false x name m e first later some = later (omega (arith, some))

held : (P : List ℕ → Type 0) (names : List (List ℕ)) (name : List ℕ) → ((j : ℕ) → j < length names → P (get_or names j name)) → 1 ≤ times name names → P name
held P [] name h some = absurd (omega (arith, some))
held P (x ∷ names) name h some =
    held_by P (bytes_eq name x) x name (times name names) refl (h 0 (omega arith)) (λ k. held P names name (λ j near. h (suc j) (omega (arith, near))) k) some

least : (x : List ℕ) (xs : List (List ℕ)) (name : List ℕ) → IsSorted (slice_cmp nat_cmp) (x ∷ xs) → 1 ≤ times name (x ∷ xs) → is_lt (slice_cmp nat_cmp name x) ≡ false
least x xs name up some =
    held (λ n. is_lt (slice_cmp nat_cmp n x) ≡ false) (x ∷ xs) name
    (λ j near. sorted_far (λ a b. is_lt (slice_cmp nat_cmp a b)) (ranks_by nat_list_cmp_total (λ (n : List ℕ). n)) (x ∷ xs) up 0 j name (omega arith) near) some

sorted_tail : (x : List ℕ) (xs : List (List ℕ)) → IsSorted (slice_cmp nat_cmp) (x ∷ xs) → IsSorted (slice_cmp nat_cmp) xs
sorted_tail x xs up = λ k d low near.
    let more : suc k + 1 ≡ suc (k + 1) = omega arith in
    subst (λ n. is_lt (slice_cmp nat_cmp (get_or (x ∷ xs) n d) (get_or xs k d)) ≡ false) more (up (suc k) d (omega arith) (omega (arith, near)))

first_there : (x : List ℕ) (xs : List (List ℕ)) → 1 ≤ times x (x ∷ xs)
first_there x xs = let e = ap (λ b. cond b 1 0 + times x xs) (itself x) in omega (arith, e)

fewer : (x : List ℕ) (xs ys : List (List ℕ)) → times x (x ∷ xs) ≡ times x ys → 1 ≤ times x ys
fewer x xs ys e = let h = first_there x xs in omega (arith, e, h)

pub one_order : (xs ys : List (List ℕ)) → IsSorted (slice_cmp nat_cmp) xs → IsSorted (slice_cmp nat_cmp) ys → ((name : List ℕ) → times name xs ≡ times name ys) → xs ≡ ys
one_order [] [] up up' same = refl
one_order [] (y ∷ ys) up up' same = let h = fewer y ys [] (sym (same y)) in absurd (omega (arith, h))
one_order (x ∷ xs) [] up up' same = let h = fewer x xs [] (same x) in absurd (omega (arith, h))
one_order (x ∷ xs) (y ∷ ys) up up' same =
    let first : x ≡ y = neither_below x y (least y ys x up' (fewer x xs (y ∷ ys) (same x))) (least x xs y up (fewer y ys (x ∷ xs) (sym (same y)))) in
    let rest : (name : List ℕ) → times name xs ≡ times name ys = λ name.
    let both = same name in let e = ap (one name) first in omega (arith, both, e) in
    let ih : xs ≡ ys = one_order xs ys (sorted_tail x xs up) (sorted_tail y ys up') rest in
    cc

-- ---- the names of a folder

stands_as : (files : Files) (folder : List ℕ) (all others : List (List ℕ)) (name : List ℕ) → IsListing files folder all → IsListing files folder others → has_name all name ≡ has_name others name
stands_as files folder all others name listing other = by_slash (has_slash name) refl
  where
    none : (names : List (List ℕ)) (b : Bool) → has_name names name ≡ b → IsListing files folder names → has_slash name ≡ true → has_name names name ≡ false
    none names true e lists slash = let bad = lists.no_slash name e in absurd (let no : ⊥ = cc in no)
    none names false e lists slash = e

    by_slash : (b : Bool) → has_slash name ≡ b → has_name all name ≡ has_name others name
    by_slash true slash = none all (has_name all name) refl listing slash ∙ sym (none others (has_name others name) refl other slash)
    by_slash false slash = listing.each name slash ∙ sym (other.each name slash)

times_listed : (files : Files) (folder ending : List ℕ) (all names : List (List ℕ)) (name : List ℕ) → IsListing files folder all → IsPermutation (ending_in ending all) names
    → times name names ≡ cond (ends_with nat_eq name ending) (cond (has_name all name) 1 0) 0
times_listed files folder ending all names name listing moved =
    times_moved name (ending_in ending all) names moved ∙ times_filter (λ n. ends_with nat_eq n ending) name all
    ∙ ap (λ n. cond (ends_with nat_eq name ending) n 0) (times_distinct name all listing.once)

pub one_list : (files : Files) (folder ending : List ℕ) (names others : List (List ℕ)) → AreNames (Some files) folder ending names → AreNames (Some files) folder ending others → names ≡ others
one_list files folder ending names others ((all, listing, moved), up) ((all', listing', moved'), up') =
    one_order names others up up' (λ name.
    times_listed files folder ending all names name listing moved
    ∙ ap (λ (b : Bool). cond (ends_with nat_eq name ending) (cond b 1 0) 0) (stands_as files folder all all' name listing listing')
    ∙ sym (times_listed files folder ending all' others name listing' moved'))
