-- The classes of the operating system that stand beside a folder's.
use Rattle.std.proofs.Common.{◌≡◌, ◌≤◌, ◌+◌, ◌++◌, ℕ, Bool, true, false, List, [], ◌∷◌, length, map, cond, not, codes, refl, sym, ap, subst, ◌∙◌, arith}
use Rattle.std.specs.Prelude.{◌&&◌, ◌||◌}
use Rattle.std.specs.List.{filter, list_any}
use Rattle.std.specs.Str.{bytes_eq}
use Rattle.std.proofs.lemmas.Bool.Decides.{same_from_decides}
use Rattle.std.proofs.lemmas.List.{append_cancel_right}
use Rattle.std.proofs.lemmas.List.Sums.{count_by-le-length, length-filter}
use Rattle.std.proofs.lemmas.Slice.Eq.{bytes_eq-Decides}
use Rattle.jack_tree.specs.declared.tree.Class.{Class}
use Rattle.jack_tree.specs.Syntax.{ClassFile}
use Rattle.jack_tree.specs.Seen.{the_file}
use Rattle.jack_os.specs.System.{Texts, IsClassOf, AreClassesOf, IsFileOf, AreFilesOf, system}
use Rattle.jack_os.proofs.Spelling.{system_count}
use Rattle.jack_os.proofs.SystemTexts.{one_list}
use Rattle.tower.specs.Sources.{is_named_for, is_replaced, system_beside}

-- ---- a name and a file

abbrev file_of : List ℕ → List ℕ
file_of name = name ++ codes ".jack"

not_true : (b : Bool) → (b ≡ true → ⊥) → false ≡ b
not_true true h = absurd (h refl)
not_true false h = refl

pub other_file : (name file : List ℕ) → ((front : List ℕ) → file ≡ front ++ codes ".jack" → ⊥) → false ≡ bytes_eq (file_of name) file
other_file name file other = not_true _ (λ same. other name (sym ((bytes_eq-Decides (file_of name) file).0 same)))

pub same_file : (name stem file : List ℕ) → file ≡ stem ++ codes ".jack" → bytes_eq name stem ≡ bytes_eq (file_of name) file
same_file name stem file is =
    let names = bytes_eq-Decides name stem in
    let files = bytes_eq-Decides (file_of name) file in
    same_from_decides (bytes_eq name stem) (bytes_eq (file_of name) file) names (λ e. append_cancel_right name stem (codes ".jack") (files.0 e ∙ is), λ e. files.1 (ap file_of e ∙ sym is))

-- ---- the trees of the folder's classes, and what is seen of them

pub any_seen : (file : List ℕ) (own : List Class) → list_any (λ (c : Class). is_named_for file (the_file c)) own ≡ list_any (is_named_for file) (map the_file own)
any_seen file [] = refl
any_seen file (c ∷ own) = ap (λ b. is_named_for file (the_file c) || b) (any_seen file own)

-- where a file is not that of Sys, the names alone decide
pub by_names : (other : Bool) (file sys : List ℕ) (own : List ClassFile) → other ≡ true → other ≡ not (bytes_eq file sys) → sys ≡ codes "Sys.jack"
    → list_any (is_named_for file) own ≡ is_replaced own file
by_names other file sys own some is same =
    let test : not (bytes_eq file (codes "Sys.jack")) ≡ true = sym (ap (λ s. not (bytes_eq file s)) same) ∙ (sym is ∙ some) in
    ap (λ (b : Bool). b && list_any (is_named_for file) own) (sym test)

-- ---- the files that are kept

-- they are at most eight
pub few_beside : (replace : Bool) (own : List ClassFile) → length (system_beside replace own) ≤ 8
few_beside false own = omega (arith, system_count)
few_beside true own =
    let test : List ℕ × List ℕ → Bool = λ file. not (is_replaced own file.0) in
    omega (arith, length-filter test system, count_by-le-length test system, system_count)

both : (keep : Bool) (f : List ℕ × List ℕ) (c : Class) (files : Texts) (cs : List Class) → IsClassOf f.0 f.1 c → AreClassesOf files cs
    → AreClassesOf (cond keep (f ∷ files) files) (cond keep (c ∷ cs) cs)
both true f c files cs h k = (h, k)
both false f c files cs h k = k

-- the classes of the files that are kept
kept_classes : (keep : List ℕ → Bool) (files : Texts) (cs : List Class) → AreClassesOf files cs
    → AreClassesOf (filter (λ (file : List ℕ × List ℕ). keep file.0) files) (filter (λ (c : Class). keep c.file) cs)
kept_classes keep [] [] h = tt
kept_classes keep [] (c ∷ cs) h = absurd h
kept_classes keep (f ∷ files) [] h = absurd h
kept_classes keep (f ∷ files) (c ∷ cs) h =
    let named : c.file ≡ f.0 = ap (λ (d : ClassFile). d.file) h.0.2 ∙ h.0.1.1 in
    let kept = filter (λ (file : List ℕ × List ℕ). keep file.0) files in
    let left = filter (λ (d : Class). keep d.file) cs in
    let P : List ℕ → Type 0 = λ name. AreClassesOf (cond (keep f.0) (f ∷ kept) kept) (cond (keep name) (c ∷ left) left) in
    subst P (sym named) (both (keep f.0) f c kept left h.0 (kept_classes keep files cs h.1))

pub beside_all : (replace : Bool) (own : List ClassFile) (cs : List Class) → replace ≡ false → AreClassesOf system cs → AreClassesOf (system_beside replace own) cs
beside_all replace own cs none h = subst (λ (b : Bool). AreClassesOf (system_beside b own) cs) (sym none) h

pub beside_kept : (replace : Bool) (own : List ClassFile) (cs left : List Class) → replace ≡ true → left ≡ filter (λ (c : Class). not (is_replaced own c.file)) cs
    → AreClassesOf system cs → AreClassesOf (system_beside replace own) left
beside_kept replace own cs left some is h =
    subst (λ (b : Bool). AreClassesOf (system_beside b own) left) (sym some)
    (subst (AreClassesOf (system_beside true own)) (sym is) (kept_classes (λ file. not (is_replaced own file)) system cs h))

-- ---- the same of what is seen of them

either : (keep : Bool) (f : List ℕ × List ℕ) (c : ClassFile) (files : Texts) (cs : List ClassFile) → IsFileOf f.0 f.1 c → AreFilesOf files cs
    → AreFilesOf (cond keep (f ∷ files) files) (cond keep (c ∷ cs) cs)
either true f c files cs h k = (h, k)
either false f c files cs h k = k

kept_files : (keep : List ℕ → Bool) (files : Texts) (cs : List ClassFile) → AreFilesOf files cs
    → AreFilesOf (filter (λ (file : List ℕ × List ℕ). keep file.0) files) (filter (λ (c : ClassFile). keep c.file) cs)
kept_files keep [] [] h = tt
kept_files keep [] (c ∷ cs) h = absurd h
kept_files keep (f ∷ files) [] h = absurd h
kept_files keep (f ∷ files) (c ∷ cs) h =
    let named : c.file ≡ f.0 = ap (λ (d : ClassFile). d.file) h.0.2 in
    let kept = filter (λ (file : List ℕ × List ℕ). keep file.0) files in
    let left = filter (λ (d : ClassFile). keep d.file) cs in
    let P : List ℕ → Type 0 = λ name. AreFilesOf (cond (keep f.0) (f ∷ kept) kept) (cond (keep name) (c ∷ left) left) in
    subst P (sym named) (either (keep f.0) f c kept left h.0 (kept_files keep files cs h.1))

-- there are such files beside the folder's
pub some_beside : (replace : Bool) (own all : List ClassFile) → AreFilesOf system all → (os : List ClassFile) × AreFilesOf (system_beside replace own) os
some_beside false own all h = (all, h)
some_beside true own all h = (filter (λ (c : ClassFile). not (is_replaced own c.file)) all, kept_files (λ file. not (is_replaced own file)) system all h)

-- and they are one list
pub one_beside : (replace : Bool) (own own' os os' : List ClassFile) → own ≡ own' → AreFilesOf (system_beside replace own) os → AreFilesOf (system_beside replace own') os' → os ≡ os'
one_beside replace own own' os os' same are are' =
    one_list (system_beside replace own) os os' are (subst (λ (fs : List ClassFile). AreFilesOf (system_beside replace fs) os') (sym same) are')
