-- The names of a folder whose files are known: there is a list of them, each once and in order.
use Rattle.std.specs.Prelude.{filter, is_some, not}
use Rattle.std.specs.List.Sorted.{IsPermutation, IsSorted}
use Rattle.std.specs.Ordering.{is_lt, nat_cmp, ordering_reverse}
use Rattle.std.specs.Cmp.Lexicographic.{nat_list_cmp_total, slice_cmp}
use Rattle.std.specs.Str.{bytes_eq}
use Rattle.std.proofs.Common.{◌≡◌, ◌++◌, ◌&&◌, ◌||◌, ℕ, zero, suc, Bool, true, false, cond, List, [], ◌∷◌, Some, refl, sym, ◌∙◌, ap, arith, add-one, Ordering, Less, Equal, Greater}
use Rattle.std.proofs.lemmas.List.Folds.{list_any-append}
use Rattle.std.proofs.lemmas.List.Sorted.{IsPermutation-cons, IsPermutation-middle, IsPermutation-refl, IsPermutation-trans}
use Rattle.std.proofs.lemmas.Slice.Eq.{bytes_eq-Decides}
use Rattle.outer_world.specs.Files.{AreDistinct, Files, IsListing, file_at, has_name, has_slash, path_in}

same_text : (x y : List ℕ) → bytes_eq x y ≡ true → x ≡ y
same_text x y h = (bytes_eq-Decides x y).0 h

itself : (x : List ℕ) → bytes_eq x x ≡ true
itself x = (bytes_eq-Decides x x).1 refl

or_left : (b c : Bool) → b ≡ true → (b || c) ≡ true
or_left b c h = rw h refl

or_right : (b c : Bool) → c ≡ true → (b || c) ≡ true
or_right true c h = refl
or_right false c h = h

never_and : (b : Bool) → (b && false) ≡ false
never_and true = refl
never_and false = refl

and_right : (b c : Bool) → (b && c) ≡ true → c ≡ true
and_right true c h = h
and_right false c h = let no : ⊥ = cc in absurd no

and_left : (b c : Bool) → (b && c) ≡ true → b ≡ true
and_left true c h = refl
and_left false c h = h

not_true : (b : Bool) → not b ≡ true → b ≡ false
not_true true h = sym h
not_true false h = refl

-- ---- names that pass a test, and each name once

passed : (p : List ℕ → Bool) (names : List (List ℕ)) (name : List ℕ) → has_name (filter p names) name ≡ (has_name names name && p name)
passed p [] name = refl
passed p (x ∷ names) name = by (p x) (bytes_eq name x) refl refl (passed p names name)
  where
    by : (b c : Bool) → p x ≡ b → bytes_eq name x ≡ c → has_name (filter p names) name ≡ (has_name names name && p name)
        → has_name (cond b (x ∷ filter p names) (filter p names)) name ≡ ((c || has_name names name) && p name)
    by true true e d rest = ap (λ (t : Bool). t || has_name (filter p names) name) d ∙ sym (ap p (same_text name x d) ∙ e)
    by true false e d rest = ap (λ (t : Bool). t || has_name (filter p names) name) d ∙ rest
    by false true e d rest = let here : p name ≡ false = ap p (same_text name x d) ∙ e in rest ∙ (ap (λ (t : Bool). has_name names name && t) here ∙ (never_and (has_name names name) ∙ sym here))
    by false false e d rest = rest

distinct : List (List ℕ) → List (List ℕ)
distinct [] = []
distinct (x ∷ names) = cond (has_name names x) (distinct names) (x ∷ distinct names)

distinct_has : (names : List (List ℕ)) (name : List ℕ) → has_name (distinct names) name ≡ has_name names name
unfolding distinct
distinct_has [] name = refl
distinct_has (x ∷ names) name = by (has_name names x) (bytes_eq name x) refl refl (distinct_has names name)
  where
    by : (b c : Bool) → has_name names x ≡ b → bytes_eq name x ≡ c → has_name (distinct names) name ≡ has_name names name
        → has_name (cond b (distinct names) (x ∷ distinct names)) name ≡ (c || has_name names name)
    by true true e d rest = rest ∙ (ap (has_name names) (same_text name x d) ∙ e)
    by true false e d rest = rest
    by false c e d rest = λ i. d i || rest i

distinct_apart : (names : List (List ℕ)) → AreDistinct (distinct names)
unfolding distinct
distinct_apart [] = tt
distinct_apart (x ∷ names) = by (has_name names x) refl (distinct_apart names)
  where
    by : (b : Bool) → has_name names x ≡ b → AreDistinct (distinct names) → AreDistinct (cond b (distinct names) (x ∷ distinct names))
    by true e rest = rest
    by false e rest = (distinct_has names x ∙ e, rest)

-- ---- the names among the ends of all paths

ends : List ℕ → List (List ℕ)
ends [] = [] ∷ []
ends (c ∷ text) = (c ∷ text) ∷ ends text

ends_whole : (text : List ℕ) → has_name (ends text) text ≡ true
unfolding ends
ends_whole [] = refl
ends_whole (c ∷ text) = or_left (bytes_eq (c ∷ text) (c ∷ text)) (has_name (ends text) (c ∷ text)) (itself (c ∷ text))

ends_behind : (front text name : List ℕ) → has_name (ends text) name ≡ true → has_name (ends (front ++ text)) name ≡ true
unfolding ends
ends_behind [] text name h = h
ends_behind (c ∷ front) text name h = or_right (bytes_eq name (c ∷ (front ++ text))) (has_name (ends (front ++ text)) name) (ends_behind front text name h)

ends_path : (folder name : List ℕ) → has_name (ends (path_in folder name)) name ≡ true
ends_path [] name = ends_whole name
ends_path (c ∷ folder) name = ends_behind (c ∷ folder) (47 ∷ name) name (ends_behind (47 ∷ []) name name (ends_whole name))

all_ends : Files → List (List ℕ)
all_ends [] = []
all_ends (f ∷ files) = ends f.0 ++ all_ends files

ends_there : (files : Files) (path name : List ℕ) → is_some (file_at files path) ≡ true → has_name (ends path) name ≡ true → has_name (all_ends files) name ≡ true
unfolding all_ends
ends_there [] path name h k = let no : ⊥ = cc in absurd no
ends_there (f ∷ files) path name h k =
    list_any-append (bytes_eq name) (ends f.0) (all_ends files) ∙ by (bytes_eq f.0 path) refl h (λ later. ends_there files path name later k)
  where
    by : (b : Bool) → bytes_eq f.0 path ≡ b → is_some (cond b (Some f.1) (file_at files path)) ≡ true → (is_some (file_at files path) ≡ true → has_name (all_ends files) name ≡ true) → (has_name (ends f.0) name || has_name (all_ends files) name) ≡ true
    by true e h later = or_left (has_name (ends f.0) name) (has_name (all_ends files) name) (ap (λ (p : List ℕ). has_name (ends p) name) (same_text f.0 path e) ∙ k)
    by false e h later = or_right (has_name (ends f.0) name) (has_name (all_ends files) name) (later h)

module _ (files : Files) (folder : List ℕ) where
  there : List ℕ → Bool
  there name = is_some (file_at files (path_in folder name))

  is_here : List ℕ → Bool
  is_here name = not (has_slash name) && is_some (file_at files (path_in folder name))

  pub here : List (List ℕ)
  here = distinct (filter (λ name. is_here name) (all_ends files))

  here_has : (name : List ℕ) → has_name here name ≡ (has_name (all_ends files) name && is_here name)
  unfolding here
  here_has name = distinct_has (filter (λ n. is_here n) (all_ends files)) name ∙ passed (λ n. is_here n) (all_ends files) name

  pub listed : IsListing files folder here
  unfolding is_here here
  listed = record {
    each = λ name plain. here_has name ∙ each_by name plain (is_some (file_at files (path_in folder name))) refl;
    no_slash = λ name h. not_true (has_slash name) (and_left (not (has_slash name)) (is_some (file_at files (path_in folder name))) (and_right (has_name (all_ends files) name) (is_here name) (sym (here_has name) ∙ h)));
    once = distinct_apart (filter (λ n. is_here n) (all_ends files));
  }
    where
      each_by : (name : List ℕ) → has_slash name ≡ false → (b : Bool) → is_some (file_at files (path_in folder name)) ≡ b → (has_name (all_ends files) name && (not (has_slash name) && is_some (file_at files (path_in folder name)))) ≡ is_some (file_at files (path_in folder name))
      each_by name plain true e =
          let found = ends_there files (path_in folder name) name e (ends_path folder name) in
          λ i. found i && (not (plain i) && is_some (file_at files (path_in folder name)))
      each_by name plain false e =
          let all = has_name (all_ends files) name in
          ap (λ (t : Bool). all && (not (has_slash name) && t)) e ∙ (ap (λ (t : Bool). all && t) (never_and (not (has_slash name))) ∙ (never_and all ∙ sym e))

-- ---- in order

below : List ℕ → List ℕ → Bool
below x y = is_lt (slice_cmp nat_cmp x y)

put_in : List ℕ → List (List ℕ) → List (List ℕ)
put_in x [] = x ∷ []
put_in x (y ∷ ys) = cond (is_lt (slice_cmp nat_cmp y x)) (y ∷ put_in x ys) (x ∷ y ∷ ys)

pub sort : List (List ℕ) → List (List ℕ)
sort [] = []
sort (x ∷ xs) = put_in x (sort xs)

put_moved : (x : List ℕ) (ys : List (List ℕ)) → IsPermutation (x ∷ ys) (put_in x ys)
unfolding put_in
put_moved x [] = IsPermutation-refl (x ∷ [])
put_moved x (y ∷ ys) = by (is_lt (slice_cmp nat_cmp y x)) (put_moved x ys)
  where
    by : (b : Bool) → IsPermutation (x ∷ ys) (put_in x ys) → IsPermutation (x ∷ y ∷ ys) (cond b (y ∷ put_in x ys) (x ∷ y ∷ ys))
    by true rest = IsPermutation-trans (x ∷ y ∷ ys) (y ∷ x ∷ ys) (y ∷ put_in x ys) (IsPermutation-middle (x ∷ []) y ys) (IsPermutation-cons y (x ∷ ys) (put_in x ys) rest)
    by false rest = IsPermutation-refl (x ∷ y ∷ ys)

pub sort_moved : (xs : List (List ℕ)) → IsPermutation xs (sort xs)
unfolding sort
sort_moved [] = IsPermutation-refl []
sort_moved (x ∷ xs) = IsPermutation-trans (x ∷ xs) (x ∷ sort xs) (put_in x (sort xs)) (IsPermutation-cons x xs (sort xs) (sort_moved xs)) (put_moved x (sort xs))

-- no name is below the one before it
abbrev Rise : List ℕ → List (List ℕ) → Type 0
Rise x [] = Unit {0}
Rise x (y ∷ ys) = (is_lt (slice_cmp nat_cmp y x) ≡ false) × Rise y ys

abbrev Up : List (List ℕ) → Type 0
Up [] = Unit {0}
Up (x ∷ xs) = Rise x xs

turned : (r s : Ordering) → r ≡ ordering_reverse s → is_lt s ≡ true → is_lt r ≡ false
turned r Less e h = ap is_lt e
turned r Equal e h = let no : ⊥ = cc in absurd no
turned r Greater e h = let no : ⊥ = cc in absurd no

not_below : (x y : List ℕ) → is_lt (slice_cmp nat_cmp y x) ≡ true → is_lt (slice_cmp nat_cmp x y) ≡ false
not_below x y h = turned (slice_cmp nat_cmp x y) (slice_cmp nat_cmp y x) (nat_list_cmp_total.antisymm x y) h

put_rises : (w x : List ℕ) (ys : List (List ℕ)) → is_lt (slice_cmp nat_cmp x w) ≡ false → Rise w ys → Rise w (put_in x ys)
unfolding put_in
put_rises w x [] low up = (low, tt)
put_rises w x (y ∷ ys) low up = by (is_lt (slice_cmp nat_cmp y x)) refl (λ k. put_rises y x ys k up.1)
  where
    by : (b : Bool) → is_lt (slice_cmp nat_cmp y x) ≡ b → (is_lt (slice_cmp nat_cmp x y) ≡ false → Rise y (put_in x ys)) → Rise w (cond b (y ∷ put_in x ys) (x ∷ y ∷ ys))
    by true e rest = (up.0, rest (not_below x y e))
    by false e rest = (low, (e, up.1))

put_up : (x : List ℕ) (ys : List (List ℕ)) → Up ys → Up (put_in x ys)
unfolding put_in
put_up x [] up = tt
put_up x (y ∷ ys) up = by (is_lt (slice_cmp nat_cmp y x)) refl
  where
    by : (b : Bool) → is_lt (slice_cmp nat_cmp y x) ≡ b → Up (cond b (y ∷ put_in x ys) (x ∷ y ∷ ys))
    by true e = put_rises y x ys (not_below x y e) up
    by false e = (e, up)

pub sort_up : (xs : List (List ℕ)) → Up (sort xs)
unfolding sort
sort_up [] = tt
sort_up (x ∷ xs) = put_up x (sort xs) (sort_up xs)

pub up_sorted : (xs : List (List ℕ)) → Up xs → IsSorted (slice_cmp nat_cmp) xs
up_sorted [] up k d low near = absurd (omega (arith, near))
up_sorted (x ∷ []) up k d low near = absurd (omega (arith, near))
up_sorted (x ∷ y ∷ ys) up zero d low near = up.0
up_sorted (x ∷ y ∷ ys) up (suc k) d low near = rw (add-one) (rw (add-one) at (up_sorted (y ∷ ys) up.1 k d (omega arith) (omega (arith, near))))
