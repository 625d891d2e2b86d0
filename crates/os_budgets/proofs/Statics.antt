-- The kept functions of VM files and their static words, by computation.
use Rattle.std.proofs.Common.{◌≡◌, ◌+◌, ◌==◌, ◌&&◌, ◌||◌, ℕ, zero, suc, max, Bool, true, false, if◌then◌else◌, List, [], ◌∷◌, Option, Some, None, map, length, get_or, drop, slice_get, refl, sym, ap, ◌∙◌, subst}
use Rattle.std.specs.List.{All, cons_option, filter_map, list_any, position_from}
use Rattle.std.specs.Str.{bytes_eq}
use Rattle.std.proofs.lemmas.Bool.{and_parts}
use Rattle.std.proofs.lemmas.Bool.Decides.{Decides-eqb}
use Rattle.std.proofs.lemmas.List.Elements.{All-cons, All-contains, All-nil}
use Rattle.std.proofs.lemmas.Slice.Eq.{bytes_eq-Decides}
use Rattle.vm_tree.specs.declared.program.File.{File}
use Rattle.vm_tree.specs.declared.program.Function.{Function}
use Rattle.vm_link.specs.Faults.{file_words, sys_init, words_before, words_of_lines}
use Rattle.vm_link.specs.Reached.{AreKept, IsFunction, Keeps, Reached, called, dropped, kept, none, start}
use Rattle.vm_link.specs.Sections.{Section, calls, is_named, sections, stands_in}
use Rattle.jack_meaning.specs.Text.{Class, Program, Subroutine}
use Rattle.jack_compiler.specs.Files.{around_class, file_of, files_from, function_of, functions_of, program_files}
use Rattle.jack_compiler.specs.Lines.{Around}
use Rattle.os_budgets.specs.Programs.{HasStatics}
use Rattle.os_budgets.proofs.Closure.{Row, every, every_at, found_all, in_list, is_in, row_at, search}

-- ---- the files, where a function that is not of the file is not computed

abbrev joins : Bool → (Unit {0} → Function) → List Function → List Function
joins true f fs = f tt ∷ fs
joins false f fs = fs

abbrev functions : Around → ℕ → ℕ → List Subroutine → List Function
functions around k g [] = []
functions around k g (sub ∷ subs) = joins (sub.class == k) (λ u. function_of around g sub) (functions around k (g + 1) subs)

joins_same : (b : Bool) (f : Function) (fs gs : List Function) → fs ≡ gs → (if b then f ∷ fs else fs) ≡ joins b (λ u. f) gs
joins_same true f fs gs e = ap (λ z. f ∷ z) e
joins_same false f fs gs e = e

functions_same : (around : Around) (k g : ℕ) (subs : List Subroutine) → functions_of around k g subs ≡ functions around k g subs
functions_same around k g [] = refl
functions_same around k g (sub ∷ subs) =
    joins_same (sub.class == k) (function_of around g sub) (functions_of around k (g + 1) subs) (functions around k (g + 1) subs) (functions_same around k (g + 1) subs)

abbrev files_by : List Subroutine → List Class → List (List ℕ) → List (List ℕ) → ℕ → List Class → List File
files_by subs classes names titles k [] = []
files_by subs classes names titles k (c ∷ cs) = file_of (get_or titles k []) (functions (around_class classes names k) k 1 subs) ∷ files_by subs classes names titles (k + 1) cs

abbrev pub files_of_program : Program → List (List ℕ) → List (List ℕ) → List File
files_of_program program names titles = files_by (drop 1 program.subroutines) program.classes names titles 0 program.classes

files_same : (program : Program) (names titles : List (List ℕ)) (k : ℕ) (cs : List Class)
    → files_from program names titles k cs ≡ files_by (drop 1 program.subroutines) program.classes names titles k cs
files_same program names titles k [] = refl
files_same program names titles k (c ∷ cs) =
    let p = functions_same (around_class program.classes names k) k 1 (drop 1 program.subroutines) in
    let q = files_same program names titles (k + 1) cs in
    λ i. file_of (get_or titles k []) (p i) ∷ q i

pub same_files : (program : Program) (names titles : List (List ℕ)) → program_files program names titles ≡ files_of_program program names titles
same_files program names titles = files_same program names titles 0 program.classes

-- ---- static words, file by file

abbrev Words : Type 0
Words = ℕ × ℕ

abbrev words_in : Section → Words
words_in s = (s.file, words_of_lines s.lines)

abbrev greater : Bool → ℕ → ℕ → ℕ
greater true w v = max w v
greater false w v = v

abbrev of_file : List Words → ℕ → ℕ
of_file [] k = 0
of_file (w ∷ ws) k = greater (w.0 == k) w.1 (of_file ws k)

abbrev before : List Words → ℕ → ℕ
before ws zero = 0
before ws (suc n) = before ws n + of_file ws n

greater_same : (b : Bool) (w v u : ℕ) → v ≡ u → (if b then max w v else v) ≡ greater b w u
greater_same true w v u e = ap (max w) e
greater_same false w v u e = e

of_file_same : (ss : List Section) (k : ℕ) → file_words ss k ≡ of_file (map words_in ss) k
of_file_same [] k = refl
of_file_same (s ∷ ss) k = greater_same (s.file == k) (words_of_lines s.lines) (file_words ss k) (of_file (map words_in ss) k) (of_file_same ss k)

before_same : (ss : List Section) (n : ℕ) → words_before ss n ≡ before (map words_in ss) n
before_same ss zero = refl
before_same ss (suc n) =
    let p = before_same ss n in
    let q = of_file_same ss n in
    λ i. p i + q i

-- ---- what is reached

abbrev position : List Section → List ℕ → Option ℕ
position ss name = position_from (is_named name) 0 ss

abbrev pub row : List Section → Section → Row
row ss s = (filter_map (position ss) (calls s.lines), 0)

abbrev rows : List Section → List Row
rows ss = map (row ss) ss

abbrev as_list : Option ℕ → List ℕ
as_list None = []
as_list (Some i) = i ∷ []

abbrev keeps : Bool → Section → List Section → List Section
keeps true s ss = s ∷ ss
keeps false s ss = ss

-- the sections whose numbers are these, from this one on
abbrev kept_of : List ℕ → ℕ → List Section → List Section
kept_of fs at [] = []
kept_of fs at (s ∷ ss) = keeps (is_in fs at) s (kept_of fs (suc at) ss)

abbrev is_right : List Section → ℕ → ℕ → List ℕ → List Row → List ℕ → Bool
is_right ss count words first t fs =
    every (is_in fs) first && (every (λ g. every (is_in fs) (row_at t g).0) fs && (words == before (map words_in (kept_of fs 0 ss)) count))

abbrev by_rows : ℕ → List Section → ℕ → ℕ → List ℕ → List Row → Bool
by_rows n ss count words first t = is_right ss count words first t (search n t first [])

abbrev by_sections : ℕ → List Section → ℕ → ℕ → Bool
by_sections n ss count words = by_rows n ss count words (as_list (position ss sys_init)) (rows ss)

-- the files have this many static words
abbrev pub has_statics : ℕ → List File → ℕ → Bool
has_statics n files words = by_sections n (sections false files) (length files) words

-- ---- the test

more_any : (a b : Bool) → b ≡ true → (a || b) ≡ true
more_any true b e = refl
more_any false b e = e

by_none : {A B : Type 0} (f : A → B) (xs : List A) (i : ℕ) (d : B) → slice_get xs i ≡ None → get_or (map f xs) i d ≡ d
by_none f [] i d e = refl
by_none f (x ∷ xs) zero d e = absurd cc
by_none f (x ∷ xs) (suc i) d e = by_none f xs i d e

by_some : {A B : Type 0} (f : A → B) (xs : List A) (i : ℕ) (d : B) (x : A) → slice_get xs i ≡ Some x → get_or (map f xs) i d ≡ f x
by_some f [] i d x e = absurd cc
by_some f (y ∷ xs) zero d x e = let q : y ≡ x = cc in ap f q
by_some f (y ∷ xs) (suc i) d x e = by_some f xs i d x e

keeps_by : (P : ℕ → Type 0) (fs : List ℕ) → ((i : ℕ) → is_in fs i ≡ true → P i) → ((i : ℕ) → P i → is_in fs i ≡ true) → (at : ℕ) (ss : List Section) → Keeps P at ss (kept_of fs at ss)
keeps_by P fs only all at [] = none
keeps_by P fs only all at (s ∷ ss) = by (is_in fs at) refl (keeps_by P fs only all (suc at) ss)
  where
    by : (b : Bool) → is_in fs at ≡ b → Keeps P (suc at) ss (kept_of fs (suc at) ss) → Keeps P at (s ∷ ss) (keeps b s (kept_of fs (suc at) ss))
    by true e r = kept (only at e) r
    by false e r = dropped (λ p. let no : true ≡ false = sym (all at p) ∙ e in absurd cc) r

module _ (ss : List Section) where
  abbrev no_row : Row
  no_row = row_at [] 0

  -- what a reached section calls is reached
  targets : (i : ℕ) (s : Section) → Reached ss i → slice_get ss i ≡ Some s → (names : List (List ℕ))
      → ((name : List ℕ) → list_any (bytes_eq name) names ≡ true → stands_in (calls s.lines) name ≡ true) → All (Reached ss) (filter_map (position ss) names)
  targets i s r at [] within = All-nil (Reached ss)
  targets i s r at (x ∷ xs) within =
      by (position ss x) refl (targets i s r at xs (λ name h. within name (more_any (bytes_eq name x) (list_any (bytes_eq name) xs) h)))
    where
      here : (list_any (bytes_eq x) (x ∷ xs)) ≡ true
      here = ap (λ b. b || list_any (bytes_eq x) xs) ((bytes_eq-Decides x x).1 refl)

      by : (o : Option ℕ) → position ss x ≡ o → All (Reached ss) (filter_map (position ss) xs) → All (Reached ss) (cons_option o (filter_map (position ss) xs))
      by None e rest = rest
      by (Some j) e rest = All-cons (Reached ss) j (filter_map (position ss) xs) (called s x r at (within x here) e) rest

  row_reached : (g : ℕ) → Reached ss g → All (Reached ss) (row_at (rows ss) g).0
  row_reached g r = by (slice_get ss g) refl
    where
      by : (o : Option Section) → slice_get ss g ≡ o → All (Reached ss) (row_at (rows ss) g).0
      by None e = subst (λ (w : Row). All (Reached ss) w.0) (sym (by_none (row ss) ss g no_row e)) (All-nil (Reached ss))
      by (Some s) e = subst (λ (w : Row). All (Reached ss) w.0) (sym (by_some (row ss) ss g no_row s e)) (targets g s r e (calls s.lines) (λ name h. h))

  first_reached : (o : Option ℕ) → position ss sys_init ≡ o → All (Reached ss) (as_list o)
  first_reached None e = All-nil (Reached ss)
  first_reached (Some i) e = All-cons (Reached ss) i [] (start e) (All-nil (Reached ss))

  module _ (fs : List ℕ) (first : every (is_in fs) (as_list (position ss sys_init)) ≡ true) (closed : every (λ g. every (is_in fs) (row_at (rows ss) g).0) fs ≡ true) where
    is_first : (i : ℕ) → IsFunction ss sys_init i → is_in fs i ≡ true
    is_first i e = (and_parts (is_in fs i) true (subst (λ (o : Option ℕ). every (is_in fs) (as_list o) ≡ true) e first)).0

    is_target : (names : List (List ℕ)) (name : List ℕ) (j : ℕ) → every (is_in fs) (filter_map (position ss) names) ≡ true → list_any (bytes_eq name) names ≡ true → position ss name ≡ Some j → is_in fs j ≡ true
    is_target [] name j h stands e = absurd cc
    is_target (x ∷ xs) name j h stands e = by (bytes_eq name x) refl stands (is_target xs name j (rest (position ss x) h))
      where
        rest : (o : Option ℕ) → every (is_in fs) (cons_option o (filter_map (position ss) xs)) ≡ true → every (is_in fs) (filter_map (position ss) xs) ≡ true
        rest None h = h
        rest (Some k) h = (and_parts (is_in fs k) (every (is_in fs) (filter_map (position ss) xs)) h).1

        at : (o : Option ℕ) → o ≡ Some j → every (is_in fs) (cons_option o (filter_map (position ss) xs)) ≡ true → is_in fs j ≡ true
        at o p k = (and_parts (is_in fs j) (every (is_in fs) (filter_map (position ss) xs)) (subst (λ (q : Option ℕ). every (is_in fs) (cons_option q (filter_map (position ss) xs)) ≡ true) p k)).0

        by : (b : Bool) → bytes_eq name x ≡ b → (b || list_any (bytes_eq name) xs) ≡ true → (list_any (bytes_eq name) xs ≡ true → position ss name ≡ Some j → is_in fs j ≡ true) → is_in fs j ≡ true
        by true q t more = at (position ss x) (ap (position ss) (sym ((bytes_eq-Decides name x).0 q)) ∙ e) h
        by false q t more = more t e

    all_reached : {i : ℕ} → Reached ss i → is_in fs i ≡ true
    all_reached (start {i} f) = is_first i f
    all_reached (called {i} {j} s name r at stands f) =
        let inner = every_at (λ g. every (is_in fs) (row_at (rows ss) g).0) fs closed i (in_list fs i (all_reached r)) in
        is_target (calls s.lines) name j (subst (λ (w : Row). every (is_in fs) w.0 ≡ true) (by_some (row ss) ss i no_row s at) inner) stands f

  by_found : (count words : ℕ) (fs : List ℕ) → All (Reached ss) fs → is_right ss count words (as_list (position ss sys_init)) (rows ss) fs ≡ true
      → (kept : List Section) × AreKept false ss kept × (words ≡ words_before kept count)
  by_found count words fs reached h =
      let a = and_parts (every (is_in fs) (as_list (position ss sys_init))) (every (λ g. every (is_in fs) (row_at (rows ss) g).0) fs && (words == before (map words_in (kept_of fs 0 ss)) count)) h in
      let b = and_parts (every (λ g. every (is_in fs) (row_at (rows ss) g).0) fs) (words == before (map words_in (kept_of fs 0 ss)) count) a.1 in
      let all = keeps_by (Reached ss) fs (λ i e. All-contains (Reached ss) fs i reached (in_list fs i e)) (λ i r. all_reached fs a.0 b.0 r) 0 ss in
      (kept_of fs 0 ss, all, (Decides-eqb words (before (map words_in (kept_of fs 0 ss)) count)).0 b.1 ∙ sym (before_same (kept_of fs 0 ss) count))

pub statics : (n : ℕ) (files : List File) (words : ℕ) → has_statics n files words ≡ true → HasStatics files words
statics n files words h =
    let ss = sections false files in
    let first = as_list (position ss sys_init) in
    by_found ss (length files) words (search n (rows ss) first [])
    (found_all (rows ss) (Reached ss) (row_reached ss) n first [] (first_reached ss (position ss sys_init) refl) (All-nil (Reached ss))) h
