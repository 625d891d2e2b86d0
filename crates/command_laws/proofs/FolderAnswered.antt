-- Where each text of a language is spelled or refused, a folder whose files are known is read or refused.
use Rattle.std.specs.Prelude.{is_some, nat_lt}
use Rattle.std.specs.List.{AllByRecursion}
use Rattle.std.proofs.Common.{◌≡◌, ◌≤◌, ◌<◌, ◌⊎◌, inl, inr, ℕ, Bool, true, false, List, [], ◌∷◌, Option, Some, None, length, refl, sym, ◌∙◌, ap, arith}
use Rattle.std.proofs.lemmas.Bool.Decides.{nat_tests}
use Rattle.outer_world.specs.Files.{Files, file_at, path_in}
use Rattle.outer_world.specs.Refusals.{Message, message_line}
use Rattle.source_files.specs.Folder.{AreNames, ending_in, overfull}
use Rattle.source_files.specs.Sources.{FolderSpells, IsFaulty, IsFirstFaulty, IsUnread, SpellEach, SpellsAt}
use Rattle.source_files.proofs.Spelling.{lacks_none}
use Rattle.command_laws.proofs.Listing.{here, listed, sort, sort_moved, sort_up, up_sorted}

-- ---- the names

pub some_names : (files : Files) (folder ending : List ℕ) → (names : List (List ℕ)) × AreNames (Some files) folder ending names
some_names files folder ending =
    let all = here files folder in
    let names = sort (ending_in ending all) in
    (names, ((all, listed files folder, sort_moved (ending_in ending all)), up_sorted names (sort_up (ending_in ending all))))

module _ (files : Files) (folder : List ℕ) where
  abbrev AreThere : List (List ℕ) → Type 0
  AreThere names = AllByRecursion (λ name. is_some (file_at files (path_in folder name)) ≡ true) names

  there_or_not : (names : List (List ℕ)) → AreThere names ⊎ (AreThere names → ⊥)
  there_or_not [] = inl tt
  there_or_not (n ∷ names) = by (is_some (file_at files (path_in folder n))) refl (there_or_not names)
    where
      by : (b : Bool) → is_some (file_at files (path_in folder n)) ≡ b → AreThere names ⊎ (AreThere names → ⊥) → AreThere (n ∷ names) ⊎ (AreThere (n ∷ names) → ⊥)
      by true e (inl all) = inl (e, all)
      by true e (inr lacks) = inr (λ h. lacks h.1)
      by false e rest = inr (λ h. let both = sym e ∙ h.0 in let no : ⊥ = cc in no)

  -- each name of the folder has a file
  all_there : (ending : List ℕ) (names : List (List ℕ)) → AreNames (Some files) folder ending names → AreThere names
  all_there ending names are = by (there_or_not names)
    where
      by : AreThere names ⊎ (AreThere names → ⊥) → AreThere names
      by (inl all) = all
      by (inr lacks) =
          let gone = lacks_none (Some files) (λ f. true) folder ending names are lacks in
          let same : true ≡ false = gone.0 in let no : ⊥ = cc in absurd no

-- ---- the texts

-- A text of the file of each name is spelled, or it is refused and something is reported of it.
abbrev pub AllRead : {A : Type 0} → (List ℕ → List ℕ → A → Type 0) → (List ℕ → Message → Type 0) → Type 0
AllRead {A} spells refuses = (name text : List ℕ) → ((a : A) × spells name text a) ⊎ ((told : Message) × refuses text told)

module _ {A : Type 0} (spells : List ℕ → List ℕ → A → Type 0) (refuses : List ℕ → Message → Type 0) (all : AllRead spells refuses) (files : Files) where
  -- a path has a source, or a line that says why not, or no file
  abbrev pub IsAt : List ℕ → List ℕ → Type 0
  IsAt name path = ((a : A) × SpellsAt (spells name) (Some files) path a) ⊎ ((line : List ℕ) × IsFaulty refuses (Some files) path line) ⊎ (file_at files path ≡ None)

  of_text : (name path text : List ℕ) → file_at files path ≡ Some text → ((a : A) × spells name text a) ⊎ ((told : Message) × refuses text told) → IsAt name path
  of_text name path text has (inl (a, h)) = inl (a, (text, has, h))
  of_text name path text has (inr (told, h)) = inr (inl (message_line path told, (text, told, has, h, refl)))

  of_file : (name path : List ℕ) (o : Option (List ℕ)) → file_at files path ≡ o → IsAt name path
  of_file name path None gone = inr (inr gone)
  of_file name path (Some text) has = of_text name path text has (all name text)

  pub at_path : (name path : List ℕ) → IsAt name path
  at_path name path = of_file name path (file_at files path) refl

  -- ---- the files of a folder

  abbrev AreRead : List ℕ → List (List ℕ) → Type 0
  AreRead folder names = ((xs : List A) × SpellEach spells (Some files) folder names xs) ⊎ ((line : List ℕ) × IsFirstFaulty spells refuses (Some files) folder names line)

  one_more : (folder n : List ℕ) (names : List (List ℕ)) → is_some (file_at files (path_in folder n)) ≡ true → IsAt n (path_in folder n) → AreRead folder names → AreRead folder (n ∷ names)
  one_more folder n names there (inl (a, h)) (inl (xs, rest)) = inl (a ∷ xs, (h, rest))
  one_more folder n names there (inl (a, h)) (inr (line, (before, name, after, xs, e, spelled, faulty))) =
      inr (line, (n ∷ before, name, after, a ∷ xs, ap (λ (ns : List (List ℕ)). n ∷ ns) e, (h, spelled), faulty))
  one_more folder n names there (inr (inl (line, faulty))) rest = inr (line, ([], n, names, [], refl, tt, faulty))
  one_more folder n names there (inr (inr gone)) rest = let none = sym (ap (λ (o : Option (List ℕ)). is_some o) gone) ∙ there in let no : ⊥ = cc in absurd no

  each_read : (folder : List ℕ) (names : List (List ℕ)) → AreThere files folder names → AreRead folder names
  each_read folder [] h = inl ([], tt)
  each_read folder (n ∷ names) h = one_more folder n names h.0 (at_path n (path_in folder n)) (each_read folder names h.1)

  abbrev pub IsReadOrNot : List ℕ → List ℕ → Type 0
  IsReadOrNot ending folder = ((xs : List A) × FolderSpells spells ending (Some files) folder xs) ⊎ ((line : List ℕ) × IsUnread spells refuses ending (Some files) folder line)

  few_read : (ending folder : List ℕ) (names : List (List ℕ)) → AreNames (Some files) folder ending names → length names ≤ 256 → AreRead folder names → IsReadOrNot ending folder
  few_read ending folder names are few (inl (xs, h)) = inl (xs, (names, (are, few), h))
  few_read ending folder names are few (inr (line, h)) = inr (line, inr (names, (are, few), h))

  by_number : (ending folder : List ℕ) (names : List (List ℕ)) → AreNames (Some files) folder ending names → (b : Bool) → nat_lt 256 (length names) ≡ b → IsReadOrNot ending folder
  by_number ending folder names are true e = let many : 256 < length names = grind (arith, nat_tests, e) in inr (message_line folder (overfull (length names)), inl (names, are, many, refl))
  by_number ending folder names are false e =
      let few : length names ≤ 256 = grind (arith, nat_tests, e) in few_read ending folder names are few (each_read folder names (all_there files folder ending names are))

  pub folder_read : (ending folder : List ℕ) → IsReadOrNot ending folder
  folder_read ending folder = let some = some_names files folder ending in by_number ending folder some.0 some.1 (nat_lt 256 (length some.0)) refl
