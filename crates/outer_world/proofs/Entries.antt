-- Names, paths and files.
use Rattle.std.proofs.Common.{◌≡◌, ◌≢◌, ◌<◌, ◌++◌, ◌==◌, ◌||◌, [], ◌∷◌, ℕ, suc, Bool, true, false, List, Option, Some, None, MatchOption, length, get_or, inl, inr, ◌⊎◌, refl, sym, ◌∙◌, ap, arith, is_some, if◌then◌else◌}
use Rattle.std.specs.Borrow.{Bor}
use Rattle.std.specs.Str.{bytes_eq}
use Rattle.std.proofs.lemmas.List.Folds.{list_any-append}
use Rattle.std.proofs.lemmas.Bool.Decides.{nat_tests}
use Rattle.std.proofs.lemmas.Slice.Eq.{bytes_eq-Decides}
use Rattle.outer_world.specs.Files.{Files, file_at, AreDistinct, IsListing, has_name, has_slash, path_in}

pub append_cancel : (xs ys zs : List ℕ) → xs ++ ys ≡ xs ++ zs → ys ≡ zs
append_cancel [] ys zs e = e
append_cancel (x ∷ xs) ys zs e = append_cancel xs ys zs (let f : xs ++ ys ≡ xs ++ zs = cc in f)

pub below_rest : (s folder rest : List ℕ) (r : Option (Bor (List ℕ))) → s ≡ folder ++ rest → MatchOption r ((t : List ℕ) → rest ≢ 47 ∷ t) (λ x. rest ≡ 47 ∷ x.now)
    → MatchOption r ((name : List ℕ) → s ≢ folder ++ 47 ∷ name) (λ name. s ≡ folder ++ 47 ∷ name.now)
below_rest s folder rest None e h = λ name f. h name (append_cancel folder rest (47 ∷ name) (sym e ∙ f))
below_rest s folder rest (Some x) e h = e ∙ ap (λ y. folder ++ y) h

pub no_slash_from : (s : List ℕ) → ((k : ℕ) → k < length s → get_or s k 0 ≢ 47) → has_slash s ≡ false
no_slash_from [] h = refl
no_slash_from (c ∷ cs) h =
    let ne : c ≢ 47 = h 0 (omega arith) in
    let rest : has_slash cs ≡ false = no_slash_from cs (λ k lt. h (suc k) (omega arith)) in
    let first : (c == 47) ≡ false = grind (arith, nat_tests) in
    rw (first, rest) refl

pub path_in-nonempty : (folder name : List ℕ) → 0 < length folder → path_in folder name ≡ folder ++ 47 ∷ name
path_in-nonempty [] name lt = absurd (omega arith)
path_in-nonempty (c ∷ folder) name lt = refl

pub path_in-empty : (folder name : List ℕ) → length folder ≡ 0 → path_in folder name ≡ name
path_in-empty [] name e = refl
path_in-empty (c ∷ folder) name e = absurd (omega arith)

pub path_in-injective : (folder m n : List ℕ) → path_in folder m ≡ path_in folder n → m ≡ n
path_in-injective [] m n e = e
path_in-injective (c ∷ folder) m n e = let f : 47 ∷ m ≡ 47 ∷ n = append_cancel (c ∷ folder) (47 ∷ m) (47 ∷ n) e in cc

-- the entry of a path that is the folder's path of a name
pub entry_is : (path folder x : List ℕ) (r : Option (Bor (List ℕ))) → path ≡ path_in folder x → MatchOption r (has_slash x ≡ true) (λ n. (has_slash x ≡ false) × (n.now ≡ x))
    → MatchOption r ((name : List ℕ) → has_slash name ≡ false → path ≢ path_in folder name) (λ name. (has_slash name.now ≡ false) × (path ≡ path_in folder name.now))
entry_is path folder x None e h = λ name f g.
    let same : x ≡ name = path_in-injective folder x name (sym e ∙ g) in
    let bad : true ≡ false = sym h ∙ ap has_slash same ∙ f in cc
entry_is path folder x (Some n) e h = (ap has_slash h.1 ∙ h.0, e ∙ ap (path_in folder) (sym h.1))

-- ---- one more file

or-false : (b : Bool) → (b || false) ≡ b
or-false true = refl
or-false false = refl

false_from : (b : Bool) → (b ≡ true → ⊥) → b ≡ false
false_from true h = absurd (h refl)
false_from false h = refl

-- two tests that say the same
same_test : (a b : Bool) → (a ≡ true → b ≡ true) → (b ≡ true → a ≡ true) → a ≡ b
same_test true b f g = sym (f refl)
same_test false true f g = g refl
same_test false false f g = refl

bytes-eq : (xs ys : List ℕ) → bytes_eq xs ys ≡ true → xs ≡ ys
bytes-eq xs ys e = (bytes_eq-Decides xs ys).0 e

eq-bytes : (xs ys : List ℕ) → xs ≡ ys → bytes_eq xs ys ≡ true
eq-bytes xs ys e = (bytes_eq-Decides xs ys).1 e

some_if : (t b : Bool) (v : List ℕ) (o r : Option (List ℕ)) → is_some r ≡ (is_some o || b) → is_some (if t then Some v else r) ≡ (is_some (if t then Some v else o) || b)
some_if true b v o r h = refl
some_if false b v o r h = h

last_if : (b : Bool) (v : List ℕ) → is_some (if b then Some v else None) ≡ (false || b)
last_if true v = refl
last_if false v = refl

file_at-append : (fs : Files) (f : List ℕ × List ℕ) (p : List ℕ) → is_some (file_at (fs ++ f ∷ []) p) ≡ (is_some (file_at fs p) || bytes_eq f.0 p)
file_at-append [] f p = last_if (bytes_eq f.0 p) f.1
file_at-append (x ∷ fs) f p = some_if (bytes_eq x.0 p) (bytes_eq f.0 p) x.1 (file_at fs p) (file_at (fs ++ f ∷ []) p) (file_at-append fs f p)

-- a file that is no entry of the folder
pub more_none : (fs : Files) (folder : List ℕ) (names : List (List ℕ)) (f : List ℕ × List ℕ) → IsListing fs folder names
    → ((name : List ℕ) → has_slash name ≡ false → f.0 ≢ path_in folder name) → IsListing (fs ++ f ∷ []) folder names
more_none fs folder names f h none = record {
  each = λ name free.
      let other : bytes_eq f.0 (path_in folder name) ≡ false = false_from (bytes_eq f.0 (path_in folder name)) (λ e. none name free (bytes-eq f.0 (path_in folder name) e)) in
      h.each name free ∙ sym (or-false (is_some (file_at fs (path_in folder name)))) ∙ ap (λ b. is_some (file_at fs (path_in folder name)) || b) (sym other)
      ∙ sym (file_at-append fs f (path_in folder name));
  no_slash = h.no_slash;
  once = h.once;
}

has-append : (names : List (List ℕ)) (n name : List ℕ) → has_name (names ++ n ∷ []) name ≡ (has_name names name || bytes_eq name n)
has-append names n name = list_any-append (bytes_eq name) names (n ∷ []) ∙ ap (λ b. has_name names name || b) (or-false (bytes_eq name n))

or_cases : (a b : Bool) → (a || b) ≡ true → (a ≡ true) ⊎ (b ≡ true)
or_cases true b h = inl refl
or_cases false b h = inr h

or-right : (a b : Bool) → (a || b) ≡ false → (a ≡ false) × (b ≡ false)
or-right true b h = absurd (let e : true ≡ false = h in let bad : ⊥ = cc in bad)
or-right false b h = (refl, h)

distinct-append : (names : List (List ℕ)) (n : List ℕ) → AreDistinct names → has_name names n ≡ false → AreDistinct (names ++ n ∷ [])
distinct-append [] n d h = (refl, tt)
distinct-append (x ∷ xs) n d h =
    let parts = or-right (bytes_eq n x) (has_name xs n) h in
    let other : bytes_eq x n ≡ false = false_from (bytes_eq x n) (λ e. let bad : false ≡ true = sym parts.0 ∙ eq-bytes n x (sym (bytes-eq x n e)) in let no' : ⊥ = cc in no') in
    (has-append xs n x ∙ ap (λ b. b || bytes_eq x n) d.0 ∙ other, distinct-append xs n d.1 parts.1)

-- a file that is the entry n
entry_test : (folder n name path : List ℕ) → path ≡ path_in folder n → bytes_eq path (path_in folder name) ≡ bytes_eq name n
entry_test folder n name path e = same_test (bytes_eq path (path_in folder name)) (bytes_eq name n)
    (λ h. eq-bytes name n (sym (path_in-injective folder n name (sym e ∙ bytes-eq path (path_in folder name) h))))
    (λ h. eq-bytes path (path_in folder name) (e ∙ ap (path_in folder) (sym (bytes-eq name n h))))

each_more : (fs : Files) (folder : List ℕ) (names : List (List ℕ)) (f : List ℕ × List ℕ) (n name : List ℕ) → IsListing fs folder names → f.0 ≡ path_in folder n → has_slash name ≡ false
    → is_some (file_at (fs ++ f ∷ []) (path_in folder name)) ≡ (has_name names name || bytes_eq name n)
each_more fs folder names f n name h e free =
    file_at-append fs f (path_in folder name) ∙ ap (λ b. b || bytes_eq f.0 (path_in folder name)) (sym (h.each name free)) ∙ ap (λ b. has_name names name || b) (entry_test folder n name f.0 e)

absorbed : (a b : Bool) → (b ≡ true → a ≡ true) → a ≡ (a || b)
absorbed true b h = refl
absorbed false true h = h refl
absorbed false false h = refl

pub more_some : (fs : Files) (folder : List ℕ) (names : List (List ℕ)) (f : List ℕ × List ℕ) (n : List ℕ) (t : Bool) → t ≡ has_name names n → IsListing fs folder names
    → has_slash n ≡ false → f.0 ≡ path_in folder n → IsListing (fs ++ f ∷ []) folder (if t then names else names ++ n ∷ [])
more_some fs folder names f n true is h free e = record {
  each = λ name other. absorbed (has_name names name) (bytes_eq name n) (λ k. ap (has_name names) (bytes-eq name n k) ∙ sym is) ∙ sym (each_more fs folder names f n name h e other);
  no_slash = h.no_slash;
  once = h.once;
}
more_some fs folder names f n false is h free e = record {
  each = λ name other. has-append names n name ∙ sym (each_more fs folder names f n name h e other);
  no_slash = λ name k. elim (or_cases (has_name names name) (bytes_eq name n) (sym (has-append names n name) ∙ k)) [
    | inl a ↦ h.no_slash name a
    | inr b ↦ ap has_slash (bytes-eq name n b) ∙ free
  ];
  once = distinct-append names n h.once (sym is);
}
