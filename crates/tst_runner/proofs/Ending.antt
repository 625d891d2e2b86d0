-- Each chip that is found is a further one of those of the folder and the shipped ones, so gathering ends.
use Rattle.std.proofs.Common.{◌≡◌, ◌≤◌, ◌<◌, ◌++◌, ◌||◌, ℕ, suc, Bool, true, false, cond, List, [], ◌∷◌, Option, Some, None, map, refl, sym, ap, subst, ◌∙◌, arith, if◌then◌else◌}
use Rattle.std.specs.Prelude.{is_some}
use Rattle.std.specs.Str.{bytes_eq}
use Rattle.std.proofs.lemmas.List.Folds.{list_any-append}
use Rattle.std.proofs.lemmas.Slice.Eq.{bytes_eq-Decides}
use Rattle.outer_world.specs.Files.{has_name}
use Rattle.hdl_tree.specs.declared.library.Entry.{Entry}
use Rattle.hdl_tree.specs.Chips.{find_entry}
use Rattle.tst_runner.specs.Gathering.{Sources, file_of}
use Rattle.tst_runner.specs.Inner.Gathered.{IsOrigin}
use Rattle.tst_runner.specs.declared.gathering.Origin.{Origin}
use Rattle.tst_runner.specs.declared.gathering.Origin.TheVariants.{File, Shipped}
use Rattle.tst_runner.proofs.Leading.{same_file}

-- the files of chips
abbrev pub filed : List Entry → List (List ℕ)
filed entries = map (λ entry. file_of entry.name) entries

-- how many of these files are of none of these chips
pub left : List Entry → List (List ℕ) → ℕ
left entries [] = 0
left entries (file ∷ files) = if has_name (filed entries) file then left entries files else suc (left entries files)

-- ---- tests

or_false : (b : Bool) → (b || false) ≡ b
or_false true = refl
or_false false = refl

or_assoc : (a b c : Bool) → (a || (b || c)) ≡ ((a || b) || c)
or_assoc true b c = refl
or_assoc false b c = refl

or_left : (b c : Bool) → b ≡ true → (b || c) ≡ true
or_left true c h = refl
or_left false c h = absurd (let bad : ⊥ = cc in bad)

or_right : (b c : Bool) → c ≡ true → (b || c) ≡ true
or_right true c h = refl
or_right false c h = h

-- ---- a name is among chips where its file is among theirs

found_head : (b r : Bool) (e : Entry) (f : Option Entry) → r ≡ is_some f → (b || r) ≡ is_some (cond b (Some e) f)
found_head true r e f h = refl
found_head false r e f h = h

known_file : (entries : List Entry) (name : List ℕ) → has_name (filed entries) (file_of name) ≡ is_some (find_entry entries name)
known_file [] name = refl
known_file (e ∷ entries) name =
    ap (λ (b : Bool). b || has_name (filed entries) (file_of name)) (sym (same_file name e.name (file_of e.name) refl))
    ∙ found_head (bytes_eq name e.name) (has_name (filed entries) (file_of name)) e (find_entry entries name) (known_file entries name)

-- ---- one chip more

one_more_file : (entries : List Entry) (entry : Entry) (file : List ℕ) → has_name (filed (entries ++ entry ∷ [])) file ≡ (has_name (filed entries) file || bytes_eq file (file_of entry.name))
one_more_file [] entry file = or_false (bytes_eq file (file_of entry.name))
one_more_file (e ∷ entries) entry file =
    ap (λ (b : Bool). bytes_eq file (file_of e.name) || b) (one_more_file entries entry file) ∙ or_assoc (bytes_eq file (file_of e.name)) (has_name (filed entries) file) (bytes_eq file (file_of entry.name))

still_there : (entries : List Entry) (entry : Entry) (file : List ℕ) → has_name (filed entries) file ≡ true → has_name (filed (entries ++ entry ∷ [])) file ≡ true
still_there entries entry file h = one_more_file entries entry file ∙ or_left (has_name (filed entries) file) (bytes_eq file (file_of entry.name)) h

now_there : (entries : List Entry) (entry : Entry) (file : List ℕ) → bytes_eq file (file_of entry.name) ≡ true → has_name (filed (entries ++ entry ∷ [])) file ≡ true
now_there entries entry file h = one_more_file entries entry file ∙ or_right (has_name (filed entries) file) (bytes_eq file (file_of entry.name)) h

-- ---- fewer are left

no_more_left : (b c : Bool) (m n : ℕ) → m ≤ n → (c ≡ true → b ≡ true) → cond b m (suc m) ≤ cond c n (suc n)
no_more_left true true m n h k = h
no_more_left true false m n h k = omega arith
no_more_left false true m n h k = absurd (let bad = k refl in let bad' : ⊥ = cc in bad')
no_more_left false false m n h k = omega arith

one_less_left : (b c : Bool) (m n : ℕ) → m < n → (c ≡ true → b ≡ true) → cond b m (suc m) < cond c n (suc n)
one_less_left true true m n h k = h
one_less_left true false m n h k = omega arith
one_less_left false true m n h k = absurd (let bad = k refl in let bad' : ⊥ = cc in bad')
one_less_left false false m n h k = omega arith

taken_off : (b c : Bool) (m n : ℕ) → m ≤ n → b ≡ true → c ≡ false → cond b m (suc m) < cond c n (suc n)
taken_off true false m n h e f = omega arith
taken_off true true m n h e f = absurd (let bad : ⊥ = cc in bad)
taken_off false c m n h e f = absurd (let bad : ⊥ = cc in bad)

module _ (entries : List Entry) (entry : Entry) where
  at_most : (files : List (List ℕ)) → left (entries ++ entry ∷ []) files ≤ left entries files
  unfolding left
  at_most [] = omega arith
  at_most (file ∷ files) = no_more_left (has_name (filed (entries ++ entry ∷ [])) file) (has_name (filed entries) file) (left (entries ++ entry ∷ []) files) (left entries files) (at_most files) (still_there entries entry file)

  less_by : (file : List ℕ) (files : List (List ℕ)) (b : Bool) → bytes_eq (file_of entry.name) file ≡ b → (b || has_name files (file_of entry.name)) ≡ true → has_name (filed entries) (file_of entry.name) ≡ false
      → (has_name files (file_of entry.name) ≡ true → left (entries ++ entry ∷ []) files < left entries files)
      → cond (has_name (filed (entries ++ entry ∷ [])) file) (left (entries ++ entry ∷ []) files) (suc (left (entries ++ entry ∷ []) files)) < cond (has_name (filed entries) file) (left entries files) (suc (left entries files))
  less_by file files true is h new less =
      let same : file_of entry.name ≡ file = (bytes_eq-Decides (file_of entry.name) file).0 is in
      let there : bytes_eq file (file_of entry.name) ≡ true = (bytes_eq-Decides file (file_of entry.name)).1 (sym same) in
      taken_off (has_name (filed (entries ++ entry ∷ [])) file) (has_name (filed entries) file) (left (entries ++ entry ∷ []) files) (left entries files) (at_most files) (now_there entries entry file there) (subst (λ (f : List ℕ). has_name (filed entries) f ≡ false) same new)
  less_by file files false is h new less =
      one_less_left (has_name (filed (entries ++ entry ∷ [])) file) (has_name (filed entries) file) (left (entries ++ entry ∷ []) files) (left entries files) (less h) (still_there entries entry file)

  less : (files : List (List ℕ)) → has_name files (file_of entry.name) ≡ true → has_name (filed entries) (file_of entry.name) ≡ false → left (entries ++ entry ∷ []) files < left entries files
  unfolding left
  less [] h new = absurd (let bad : ⊥ = cc in bad)
  less (file ∷ files) h new = less_by file files (bytes_eq (file_of entry.name) file) refl h new (λ there. less files there new)

-- ---- the files of the folder and of the shipped chips

abbrev pub candidates : List (List ℕ) → List Entry → List (List ℕ)
candidates names shipped = names ++ filed shipped

somewhere : (from : Sources) (name : List ℕ) (origin : Origin) → IsOrigin from name origin → has_name (candidates from.names from.shipped) (file_of name) ≡ true
somewhere from name (File file) at = list_any-append (bytes_eq (file_of name)) from.names (filed from.shipped) ∙ or_left (has_name from.names (file_of name)) (has_name (filed from.shipped) (file_of name)) at.0
somewhere from name Shipped at =
    list_any-append (bytes_eq (file_of name)) from.names (filed from.shipped)
    ∙ or_right (has_name from.names (file_of name)) (has_name (filed from.shipped) (file_of name)) (known_file from.shipped name ∙ at.1)

pub fewer_left : (from : Sources) (entries : List Entry) (name : List ℕ) (origin : Origin) (entry : Entry) → IsOrigin from name origin → find_entry entries name ≡ None → entry.name ≡ name
    → left (entries ++ entry ∷ []) (candidates from.names from.shipped) < left entries (candidates from.names from.shipped)
fewer_left from entries name origin entry at new named =
    let there = subst (λ (n : List ℕ). has_name (candidates from.names from.shipped) (file_of n) ≡ true) (sym named) (somewhere from name origin at) in
    let fresh = subst (λ (n : List ℕ). has_name (filed entries) (file_of n) ≡ false) (sym named) (known_file entries name ∙ ap is_some new) in
    less entries entry (candidates from.names from.shipped) there fresh
