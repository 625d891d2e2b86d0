-- One file more in the table of the files of chips.
use Rattle.std.proofs.Common.{◌≡◌, ◌++◌, ◌||◌, ℕ, Bool, true, false, cond, List, [], ◌∷◌, Option, Some, None, Bor, refl, sym, ap, subst, ◌∙◌}
use Rattle.std.specs.Prelude.{codes}
use Rattle.std.specs.Str.{bytes_eq}
use Rattle.std.proofs.lemmas.List.Folds.{list_any-append}
use Rattle.std.proofs.lemmas.Slice.Eq.{bytes_eq-Decides}
use Rattle.outer_world.specs.Files.{has_name}
use Rattle.name_table.specs.Names.{find_value, first_of, with_new}
use Rattle.name_table.specs.Tables.{table_of}
use Rattle.name_table.specs.declared.Table.{Table}
use Rattle.name_table.proofs.Entries.{found-append, one_next}
use Rattle.tst_runner.specs.Gathering.{file_of}
use Rattle.tst_runner.specs.Inner.Tables.{IsListed, ListsFiles}
use Rattle.tst_runner.proofs.Leading.{other_file, same_file}

or_false : (b : Bool) → (b || false) ≡ b
or_false true = refl
or_false false = refl

or_left : (a b : Bool) → a ≡ true → (a || b) ≡ true
or_left true b h = refl
or_left false b h = absurd (let bad : ⊥ = cc in bad)

or_right : (a b : Bool) → b ≡ true → (a || b) ≡ true
or_right true b h = refl
or_right false b h = h

or_none : (a b : Bool) → a ≡ false → b ≡ false → (a || b) ≡ false
or_none true b h k = absurd (let bad : ⊥ = cc in bad)
or_none false b h k = k

name_more : (names : List (List ℕ)) (file name : List ℕ) → has_name (names ++ file ∷ []) name ≡ (has_name names name || bytes_eq name file)
name_more names file name = list_any-append (bytes_eq name) names (file ∷ []) ∙ ap (λ (b : Bool). has_name names name || b) (or_false (bytes_eq name file))

-- a file that is none of a chip
listed_same : (names : List (List ℕ)) (file name : List ℕ) (found : Option (Bor (List ℕ))) → bytes_eq (file_of name) file ≡ false → IsListed names name found → IsListed (names ++ file ∷ []) name found
listed_same names file name None e h = name_more names file (file_of name) ∙ or_none (has_name names (file_of name)) (bytes_eq (file_of name) file) h e
listed_same names file name (Some there) e h = (name_more names file (file_of name) ∙ or_left (has_name names (file_of name)) (bytes_eq (file_of name) file) h.0, h.1)

pub no_chip : (names : List (List ℕ)) (file : List ℕ) (files : Table (Bor (List ℕ))) → ((front : List ℕ) → file ≡ front ++ codes ".hdl" → ⊥) → ListsFiles names files → ListsFiles (names ++ file ∷ []) files
no_chip names file files other lists name = listed_same names file name (find_value name (table_of files)) (sym (other_file name file other)) (lists name)

-- the file of a chip
listed_next : (names : List (List ℕ)) (file : Bor (List ℕ)) (name : List ℕ) (found : Option (Bor (List ℕ))) (b : Bool) → bytes_eq (file_of name) file.now ≡ b → (b ≡ true → file.now ≡ file_of name) → IsListed names name found
    → IsListed (names ++ file.now ∷ []) name (first_of found (cond b (Some file) None))
listed_next names file name None true e is h = (name_more names file.now (file_of name) ∙ or_right (has_name names (file_of name)) (bytes_eq (file_of name) file.now) e, is refl)
listed_next names file name None false e is h = name_more names file.now (file_of name) ∙ or_none (has_name names (file_of name)) (bytes_eq (file_of name) file.now) h e
listed_next names file name (Some there) b e is h = (name_more names file.now (file_of name) ∙ or_left (has_name names (file_of name)) (bytes_eq (file_of name) file.now) h.0, h.1)

pub one_chip : (names : List (List ℕ)) (file : Bor (List ℕ)) (stem : List ℕ) (files files' : Table (Bor (List ℕ))) → file.now ≡ stem ++ codes ".hdl" → table_of files' ≡ with_new (table_of files) stem file → ListsFiles names files → ListsFiles (names ++ file.now ∷ []) files'
one_chip names file stem files files' is entered lists name =
    let found : find_value name (table_of files') ≡ first_of (find_value name (table_of files)) (cond (bytes_eq name stem) (Some file) None) =
    one_next name stem (table_of files') (table_of files) file entered ∙ found-append name (table_of files) ((stem, file) ∷ []) in
    subst (IsListed (names ++ file.now ∷ []) name) (sym found)
    (listed_next names file name (find_value name (table_of files)) (bytes_eq name stem) (sym (same_file name stem file.now is)) (λ same. is ∙ ap file_of (sym ((bytes_eq-Decides name stem).0 same))) (lists name))

pub no_files : (files : Table (Bor (List ℕ))) → table_of files ≡ [] → ListsFiles [] files
no_files files empty name = subst (IsListed [] name) (sym (ap (find_value name) empty)) refl

-- what is found in the table
pub listed_there : (names : List (List ℕ)) (name : List ℕ) (files : Table (Bor (List ℕ))) (found : Option (Bor (List ℕ))) → found ≡ find_value name (table_of files) → ListsFiles names files → IsListed names name found
listed_there names name files found is lists = subst (IsListed names name) (sym is) (lists name)
