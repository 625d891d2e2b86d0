-- The files of a folder, read one by one.
use Rattle.std.proofs.Common.{◌≡◌, ◌<◌, ◌+◌, ◌++◌, ◌||◌, ℕ, zero, suc, Bool, true, false, cond, List, [], ◌∷◌, Option, Some, None, Result, Ok, Err, Vec, length, take, drop, get_or, refl, sym, ◌∙◌, ap, subst, inl, inr, arith, add-one}
use Rattle.std.specs.Prelude.{filter, is_some, nat_eq}
use Rattle.std.specs.List.{AllByRecursion, ends_with}
use Rattle.std.specs.declared.alloc.Global.{Global}
use Rattle.std.specs.Str.{bytes_eq}
use Rattle.std.proofs.lemmas.List.Elements.{recursion_from_All, All-from_recursion}
use Rattle.std.proofs.lemmas.Bool.Decides.{nat_tests}
use Rattle.std.proofs.lemmas.List.Sorted.{All-permutation}
use Rattle.outer_world.specs.Files.{Files, IsListing, LacksFile, LacksFolder, file_at, has_name, path_in}
use Rattle.outer_world.specs.Refusals.{Message}
use Rattle.source_files.specs.Folder.{AreNames, AreSources, IsOverfull, ending_in}
use Rattle.source_files.specs.Inner.Limits.{LacksOne}
use Rattle.source_files.specs.Loads.{Loads}
use Rattle.source_files.specs.Sources.{FolderSpells, IsFaulty, IsFirstFaulty, IsUnread, SpellEach, SpellsAt}
use Rattle.source_files.specs.declared.error.LoadError.{LoadError}
use Rattle.source_files.specs.declared.error.LoadError.TheVariants as errors

pub spell_more : {A : Type 0} (spells : List ℕ → List ℕ → A → Type 0) (files : Option Files) (folder : List ℕ) (names : List (List ℕ)) (sources : List A) (name : List ℕ) (source : A)
    → SpellEach spells files folder names sources → SpellsAt (spells name) files (path_in folder name) source → SpellEach spells files folder (names ++ name ∷ []) (sources ++ source ∷ [])
spell_more spells files folder [] [] name source h k = (k, tt)
spell_more spells files folder (n ∷ names) (s ∷ sources) name source h k = (h.0, spell_more spells files folder names sources name source h.1 k)
spell_more spells files folder [] (s ∷ sources) name source h k = absurd h
spell_more spells files folder (n ∷ names) [] name source h k = absurd h

-- a list around one of its elements
pub around : {A : Type 0} (xs : List A) (i : ℕ) (x : A) → i < length xs → x ≡ get_or xs i x → xs ≡ take i xs ++ x ∷ drop (i + 1) xs
around [] i x h e = absurd (omega arith)
around (y ∷ ys) zero x h e = ap (λ z. z ∷ ys) (sym e)
around (y ∷ ys) (suc i) x h e = rw (add-one) (let ih : ys ≡ take i ys ++ x ∷ drop (i + 1) ys = around ys i x (omega arith) e in rw (add-one) at (ap (λ zs. y ∷ zs) ih))

-- ---- a file that is not there

no_file : {A : Type 0} (o : Option A) → o ≡ None → is_some o ≡ true → ⊥
no_file None e h = let bad : ⊥ = cc in bad
no_file (Some a) e h = let bad : ⊥ = cc in bad

in_all : {A : Type 0} (P : A → Type 0) (before after : List A) (x : A) → AllByRecursion P (before ++ x ∷ after) → P x
in_all P [] after x h = h.0
in_all P (y ∷ before) after x h = in_all P before after x h.1

pub lacks_one : (told : Option Files) (folder : List ℕ) (names before after : List (List ℕ)) (name : List ℕ) → names ≡ before ++ name ∷ after → LacksFile told (path_in folder name) → LacksOne told folder names
lacks_one None folder names before after name e h = tt
lacks_one (Some files) folder names before after name e h = λ all.
    let P : List ℕ → Type 0 = λ n. is_some (file_at files (path_in folder n)) ≡ true in
    no_file _ h (in_all P before after name (subst (AllByRecursion P) e all))

-- the first text that is not read
pub text_unread : {A B : Type 0} (spells : List ℕ → List ℕ → A → Type 0) (refuses : List ℕ → Message → Type 0) (well : B → Type 0) (steady : Type 0) (files : Option Files) (folder : List ℕ) (names before after : List (List ℕ))
    (name : List ℕ) (sources : List A) (e : LoadError) → names ≡ before ++ name ∷ after → SpellEach spells files folder before sources
    → Loads (SpellsAt (spells name) files (path_in folder name)) (IsFaulty refuses files (path_in folder name)) (steady → LacksFile files (path_in folder name)) (Err e)
    → Loads well (IsFirstFaulty spells refuses files folder names) (steady → LacksOne files folder names) (Err e)
text_unread spells refuses well steady files folder names before after name sources (errors.Refused r) e spelled h = (before, name, after, sources, e, spelled, h)
text_unread spells refuses well steady files folder names before after name sources errors.Failed e spelled h = λ s. lacks_one files folder names before after name e (h s)
text_unread spells refuses well steady files folder names before after name sources errors.Memory e spelled h = tt

-- ---- each name of a folder has a file

or_left : (b c : Bool) → b ≡ true → (b || c) ≡ true
or_left true c h = refl
or_left false c h = absurd (let bad : ⊥ = cc in bad)

or_right : (b c : Bool) → c ≡ true → (b || c) ≡ true
or_right true c h = refl
or_right false c h = h

same_number : (n : ℕ) → nat_eq n n ≡ true
same_number n = grind (arith, nat_tests)

same_bytes : (xs : List ℕ) → bytes_eq xs xs ≡ true
same_bytes [] = refl
same_bytes (x ∷ xs) = let ih = same_bytes xs in rw (same_number x) ih

all_there : (files : Files) (folder : List ℕ) (all names : List (List ℕ)) → IsListing files folder all → ((name : List ℕ) → has_name names name ≡ true → has_name all name ≡ true) → AllByRecursion (λ name. is_some (file_at files (path_in folder name)) ≡ true) names
all_there files folder all [] listing among = tt
all_there files folder all (name ∷ names) listing among =
    let stands = among name (or_left (bytes_eq name name) (has_name names name) (same_bytes name)) in
    (sym (listing.each name (listing.no_slash name stands)) ∙ stands, all_there files folder all names listing (λ n h. among n (or_right (bytes_eq n name) (has_name names n) h)))

kept_cons : {A : Type 0} (P : A → Type 0) (b : Bool) (x : A) (xs : List A) → P x → AllByRecursion P xs → AllByRecursion P (cond b (x ∷ xs) xs)
kept_cons P true x xs h k = (h, k)
kept_cons P false x xs h k = k

all_kept : {A : Type 0} (P : A → Type 0) (test : A → Bool) (xs : List A) → AllByRecursion P xs → AllByRecursion P (filter test xs)
all_kept P test [] h = tt
all_kept P test (x ∷ xs) h = kept_cons P (test x) x (filter test xs) h.0 (all_kept P test xs h.1)

-- so a folder whose files are known lacks none of them
pub lacks_none : (told : Option Files) (there : List ℕ → Bool) (folder ending : List ℕ) (names : List (List ℕ)) → AreNames told folder ending names → LacksOne told folder names → LacksFolder told there folder
lacks_none None there folder ending names are lacks = tt
lacks_none (Some files) there folder ending names ((all, listing, moved), sorted) lacks =
    let P : List ℕ → Type 0 = λ name. is_some (file_at files (path_in folder name)) ≡ true in
    absurd (lacks (recursion_from_All P names (All-permutation P (ending_in ending all) names moved (All-from_recursion P (ending_in ending all) (all_kept P (λ name. ends_with nat_eq name ending) all (all_there files folder all all listing (λ n h. h)))))))

-- ---- the folder

module _ {A B : Type 0} (spells : List ℕ → List ℕ → A → Type 0) (refuses : List ℕ → Message → Type 0) (ending : List ℕ) (items : B → List A) (steady : Type 0) (files : Option Files) (there : List ℕ → Bool) (folder : List ℕ) where
  -- names that are not listed, or are too many
  pub unlisted : (e : LoadError) → Loads (λ (names : Vec (List ℕ) Global). AreSources files folder ending names.items) (IsOverfull files folder ending) (steady → LacksFolder files there folder) (Err e)
      → Loads (λ (b : B). FolderSpells spells ending files folder (items b)) (IsUnread spells refuses ending files folder) (steady → LacksFolder files there folder) (Err e)
  unlisted (errors.Refused r) h = inl h
  unlisted errors.Failed h = h
  unlisted errors.Memory h = tt

  -- the files of these names are those of the folder
  pub sourced_later : (later : Type 0) (names : List (List ℕ)) (r : Result B LoadError) → (steady → later) → AreSources files folder ending names
      → Loads (λ (b : B). SpellEach spells files folder names (items b)) (IsFirstFaulty spells refuses files folder names) (later → LacksOne files folder names) r
      → Loads (λ (b : B). FolderSpells spells ending files folder (items b)) (IsUnread spells refuses ending files folder) (steady → LacksFolder files there folder) r
  sourced_later later names (Ok b) keeps are h = (names, are, h)
  sourced_later later names (Err (errors.Refused r)) keeps are h = inr (names, are, h)
  sourced_later later names (Err errors.Failed) keeps are h = λ s. lacks_none files there folder ending names are.0 (h (keeps s))
  sourced_later later names (Err errors.Memory) keeps are h = tt
