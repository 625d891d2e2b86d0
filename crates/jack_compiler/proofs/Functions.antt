-- Functions and statics, class by class.
use Rattle.std.proofs.Common.{◌≡◌, ◌+◌, ◌++◌, ◌<◌, ℕ, zero, suc, Bool, true, false, List, [], ◌∷◌, length, drop, take, get_or, set, map, slice_index, Option, None, ◌⊎◌, inl, inr, add-one, refl, sym, ap, subst, ◌∙◌, arith, if◌then◌else◌}
use Rattle.std.specs.Prelude.{◌==◌}
use Rattle.std.proofs.lemmas.Bool.{cases_eq, eq-eqb, ne_eqb}
use Rattle.std.proofs.lemmas.List.{append-nil, take_more, map-append, length-map}
use Rattle.std.proofs.Math.ListN.{length-set}
use Rattle.vm_tree.specs.declared.program.File.{File}
use Rattle.jack_meaning.specs.Text.{Subroutine, Program}
use Rattle.jack_meaning.specs.Text.{Class as AClass}
use Rattle.jack_core.specs.declared.program.Class.{Class}
use Rattle.jack_core.specs.declared.program.Core.{Core}
use Rattle.jack_core.specs.declared.program.Subroutine.{Subroutine as TheSubroutine}
use Rattle.jack_core.specs.Texts.{the_class, the_subroutine, the_program, names_of, class_names_of}
use Rattle.jack_compiler.specs.Lines.{Around}
use Rattle.jack_compiler.specs.Files.{statics_before, function_of, functions_of, file_of, class_file, files_from, program_files, files_of, around_class, name_at}
use Rattle.jack_compiler.specs.Inner.Added.{no_file, with_more, AddsFunction, AreFiles}
use Rattle.jack_compiler.specs.Inner.Hollow.{is_wanted, whole_if, whole_where}
use Rattle.jack_compiler.proofs.Hollow.{whole_none, class_same, length_whole, whole_last, whole_rest}

pub statics_before-none : (cs : List AClass) → statics_before cs 0 ≡ 0
statics_before-none [] = refl
statics_before-none (c ∷ cs) = refl

pub statics_before-more : (cs : List Class) (i : ℕ) (c : Class) → i < length cs → c ≡ get_or cs i c → statics_before (map the_class cs) (i + 1) ≡ statics_before (map the_class cs) i + c.statics
statics_before-more [] i c h e = absurd (omega arith)
statics_before-more (d ∷ cs) zero c h e = let same = ap (λ z. z.statics) e in let none = statics_before-none (map the_class cs) in omega arith
statics_before-more (d ∷ cs) (suc i) c h e = rw add-one (let ih = statics_before-more cs i c (omega arith) e in let x = rw add-one at ih in omega arith)

pub statics_step : (cs : List Class) (i : ℕ) (c : Class) (n m : ℕ) → i < length cs → c ≡ get_or cs i c → n ≡ m + c.statics → m ≡ statics_before (map the_class cs) i → n ≡ statics_before (map the_class cs) (i + 1)
statics_step cs i c n m h is e f = let x = statics_before-more cs i c h is in omega arith

any_default : (xs : List ℕ) (k d e : ℕ) → k < length xs → get_or xs k d ≡ get_or xs k e
any_default [] k d e h = absurd (omega arith)
any_default (x ∷ xs) zero d e h = refl
any_default (x ∷ xs) (suc k) d e h = any_default xs k d e (omega arith)

-- what the code looks up
pub before_is : (cs ds : List Class) (bs : List ℕ) (k r : ℕ) → ds ≡ cs → (length bs ≡ length ds) × ((j : ℕ) → j < length ds → slice_index bs j ≡ statics_before (map the_class ds) j)
    → r ≡ get_or bs k r → k < length cs → r ≡ statics_before (map the_class cs) k
before_is cs ds bs k r e h g b =
    let l = ap length e in
    let n = h.0 in
    g ∙ any_default bs k r 0 (omega arith) ∙ h.1 k (omega arith) ∙ ap (λ z. statics_before (map the_class z) k) e

-- one more subroutine
pub functions_of-push : (around : Around) (k g : ℕ) (subs : List Subroutine) (sub : Subroutine)
    → functions_of around k g (subs ++ sub ∷ []) ≡ functions_of around k g subs ++ (if sub.class == k then function_of around (g + length subs) sub ∷ [] else [])
functions_of-push around k g [] sub = by_test (sub.class == k)
  where
    by_test : (b : Bool) → (if b then function_of around g sub ∷ [] else []) ≡ [] ++ (if b then function_of around (g + 0) sub ∷ [] else [])
    by_test true = ap (λ (z : ℕ). function_of around z sub ∷ []) (omega arith)
    by_test false = refl
functions_of-push around k g (s ∷ subs) sub =
    by_test (s.class == k)
    (functions_of-push around k (g + 1) subs sub
    ∙ ap (λ (z : ℕ). functions_of around k (g + 1) subs ++ (if sub.class == k then function_of around z sub ∷ [] else [])) (omega arith))
  where
    by_test : (b : Bool) → functions_of around k (g + 1) (subs ++ sub ∷ []) ≡ functions_of around k (g + 1) subs ++ (if sub.class == k then function_of around (g + length (s ∷ subs)) sub ∷ [] else [])
        → (if b then function_of around g s ∷ functions_of around k (g + 1) (subs ++ sub ∷ []) else functions_of around k (g + 1) (subs ++ sub ∷ []))
        ≡ (if b then function_of around g s ∷ functions_of around k (g + 1) subs else functions_of around k (g + 1) subs) ++ (if sub.class == k then function_of around (g + length (s ∷ subs)) sub ∷ [] else [])
    by_test true e = ap (λ z. function_of around g s ∷ z) e
    by_test false e = e

-- the files in order
files_from_is : (program : Program) (names class_names : List (List ℕ)) (k : ℕ) (cs : List AClass) (fs : List File) → length fs ≡ length cs
    → ((j : ℕ) → j < length cs → get_or fs j no_file ≡ class_file program names class_names (k + j))
    → fs ≡ files_from program names class_names k cs
files_from_is program names class_names k [] [] n h = refl
files_from_is program names class_names k [] (f ∷ fs) n h = absurd (omega arith)
files_from_is program names class_names k (c ∷ cs) [] n h = absurd (omega arith)
files_from_is program names class_names k (c ∷ cs) (f ∷ fs) n h =
    let here : f ≡ class_file program names class_names k = h 0 (omega arith) ∙ ap (class_file program names class_names) (let z : k + 0 ≡ k = omega arith in z) in
    let later : fs ≡ files_from program names class_names (k + 1) cs =
    files_from_is program names class_names (k + 1) cs fs (omega arith)
    (λ j b. h (suc j) (omega arith) ∙ ap (class_file program names class_names) (let z : k + suc j ≡ k + 1 + j = omega arith in z)) in
    ap (λ z. z ∷ fs) here ∙ ap (λ z. class_file program names class_names k ∷ z) later

map_rest : (xs : List TheSubroutine) → map the_subroutine (drop 1 xs) ≡ drop 1 (map the_subroutine xs)
map_rest [] = refl
map_rest (x ∷ xs) = refl

pub files_made : (marks : Option (List Bool)) (core : Core) (others : List TheSubroutine) (fs : List File) → others ≡ drop 1 core.subroutines.items
    → AreFiles (map the_class core.classes.items) (names_of core) (class_names_of core) (whole_where marks 1 (map the_subroutine others)) fs
    → fs ≡ program_files (record (the_program core) { subroutines = whole_where marks 0 (map the_subroutine core.subroutines.items) }) (names_of core) (class_names_of core)
files_made marks core others fs e h =
    let program : Program = record (the_program core) { subroutines = whole_where marks 0 (map the_subroutine core.subroutines.items) } in
    files_from_is program (names_of core) (class_names_of core) 0 (map the_class core.classes.items) fs h.count
    (λ j b.
    h.each j b
    ∙ ap (λ z. file_of (get_or (class_names_of core) j []) (functions_of (around_class (map the_class core.classes.items) (names_of core) j) j 1 z))
    (ap (λ z. whole_where marks 1 (map the_subroutine z)) e ∙ ap (whole_where marks 1) (map_rest core.subroutines.items) ∙ sym (whole_rest marks (map the_subroutine core.subroutines.items)))
    ∙ ap (class_file program (names_of core) (class_names_of core)) (zero_plus j))
  where
    zero_plus : (j : ℕ) → j ≡ 0 + j
    zero_plus j = omega arith

-- without marks it is the whole program
pub all_made : (core : Core) (others : List TheSubroutine) (fs : List File) → others ≡ drop 1 core.subroutines.items
    → AreFiles (map the_class core.classes.items) (names_of core) (class_names_of core) (whole_where None 1 (map the_subroutine others)) fs → fs ≡ files_of core
all_made core others fs e h =
    files_made None core others fs e h
    ∙ ap (λ z. program_files (record (the_program core) { subroutines = z }) (names_of core) (class_names_of core)) (whole_none 0 (map the_subroutine core.subroutines.items))

length_taken : {A : Type 0} (xs : List A) (i : ℕ) → i < length xs → length (take i xs) ≡ i
length_taken [] i h = absurd (omega arith)
length_taken (x ∷ xs) zero h = refl
length_taken (x ∷ xs) (suc i) h = let ih = length_taken xs i (omega arith) in omega arith

-- one more function, of its class
get_set : {A : Type 0} (d : A) (xs : List A) (i : ℕ) (y : A) → i < length xs → get_or (set xs i y) i d ≡ y
get_set d [] i y h = absurd (omega arith)
get_set d (x ∷ xs) zero y h = refl
get_set d (x ∷ xs) (suc i) y h = get_set d xs i y (omega arith)

get_other : {A : Type 0} (d : A) (xs : List A) (i k : ℕ) (y : A) → (i ≡ k → ⊥) → get_or (set xs i y) k d ≡ get_or xs k d
get_other d [] i k y h = refl
get_other d (x ∷ xs) zero zero y h = absurd (h refl)
get_other d (x ∷ xs) zero (suc k) y h = refl
get_other d (x ∷ xs) (suc i) zero y h = refl
get_other d (x ∷ xs) (suc i) (suc k) y h = get_other d xs i k y (λ e. h (ap suc e))

no_more : (f : File) → with_more f [] ≡ f
no_more f = ap (λ z. record f { functions = z }) (append-nil f.functions)

pub adds_here : (around : Around) (number : ℕ) (sub : Subroutine) (old : List File) → sub.class < length old
    → AddsFunction around number sub old (set old sub.class (with_more (get_or old sub.class no_file) (function_of around number sub ∷ [])))
adds_here around number sub old h = record {
  count = length-set old sub.class (with_more (get_or old sub.class no_file) (function_of around number sub ∷ []));
  each = λ k b. by_cases k (cases_eq sub.class k);
}
  where
    by_cases : (k : ℕ) → (sub.class ≡ k) ⊎ (sub.class ≡ k → ⊥)
        → get_or (set old sub.class (with_more (get_or old sub.class no_file) (function_of around number sub ∷ []))) k no_file ≡ with_more (get_or old k no_file) (if sub.class == k then function_of around number sub ∷ [] else [])
    by_cases k (inl e) =
        subst (λ z. get_or (set old sub.class (with_more (get_or old sub.class no_file) (function_of around number sub ∷ []))) z no_file ≡ with_more (get_or old z no_file) (if sub.class == z then function_of around number sub ∷ [] else [])) e
        (rw (eq-eqb sub.class sub.class refl) (get_set no_file old sub.class (with_more (get_or old sub.class no_file) (function_of around number sub ∷ [])) h))
    by_cases k (inr f) = rw (ne_eqb sub.class k f) (get_other no_file old sub.class k _ f ∙ sym (no_more (get_or old k no_file)))

length_classes : (cs : List Class) → length (map the_class cs) ≡ length cs
length_classes [] = refl
length_classes (c ∷ cs) = let ih = length_classes cs in omega arith

-- the files without functions
pub files_none : (cs : List Class) (names : List (List ℕ)) (fs : List File) → fs ≡ map (λ class. file_of class.name []) cs
    → AreFiles (map the_class cs) names (map (λ class. class.name) cs) [] fs
files_none cs names fs e = record {
  count = ap length e ∙ length-map cs (λ class. file_of class.name []) ∙ sym (length_classes cs);
  each = λ k b. ap (λ z. get_or z k no_file) e ∙ named cs k;
}
  where
    named : (cs : List Class) (k : ℕ) → get_or (map (λ class. file_of class.name []) cs) k no_file ≡ file_of (get_or (map (λ class. class.name) cs) k []) []
    named [] k = refl
    named (c ∷ cs) zero = refl
    named (c ∷ cs) (suc k) = named cs k

functions_more : (classes : List AClass) (names class_names : List (List ℕ)) (subs : List Subroutine) (sub : Subroutine) (around : Around) (number : ℕ) (old new : List File)
    → AreFiles classes names class_names subs old → AddsFunction around number sub old new → number ≡ 1 + length subs → around.name ≡ name_at names
    → around.before ≡ statics_before classes sub.class → AreFiles classes names class_names (subs ++ sub ∷ []) new
functions_more classes names class_names subs sub around number old new h a e same before = record {
  count = a.count ∙ h.count;
  each = λ k b.
      a.each k (let n = h.count in omega arith) ∙ ap (λ z. with_more z (if sub.class == k then function_of around number sub ∷ [] else [])) (h.each k b)
      ∙ ap (λ z. file_of (get_or class_names k []) (functions_of (around_class classes names k) k 1 subs ++ z)) (by_cases k b (cases_eq sub.class k))
      ∙ ap (file_of (get_or class_names k [])) (sym (functions_of-push (around_class classes names k) k 1 subs sub));
}
  where
    by_cases : (k : ℕ) → k < length classes → (sub.class ≡ k) ⊎ (sub.class ≡ k → ⊥)
        → (if sub.class == k then function_of around number sub ∷ [] else []) ≡ (if sub.class == k then function_of (around_class classes names k) (1 + length subs) sub ∷ [] else [])
    by_cases k b (inl f) =
        let here : around.before ≡ statics_before classes k = before ∙ ap (statics_before classes) f in
        λ i. if sub.class == k then function_of (record { name = same i; before = here i }) (e i) sub ∷ [] else []
    by_cases k b (inr f) = rw (ne_eqb sub.class k f) refl

pub functions_next : (marks : Option (List Bool)) (cs : List Class) (names class_names : List (List ℕ)) (others : List TheSubroutine) (i : ℕ) (s : TheSubroutine) (around : Around) (wanted : Bool) (old new : List File)
    → i < length others → s ≡ get_or others i s → AreFiles (map the_class cs) names class_names (whole_where marks 1 (map the_subroutine (take i others))) old
    → wanted ≡ is_wanted marks (i + 1) → AddsFunction around (i + 1) (whole_if wanted (the_subroutine s)) old new
    → around.name ≡ name_at names → around.before ≡ statics_before (map the_class cs) s.class
    → AreFiles (map the_class cs) names class_names (whole_where marks 1 (map the_subroutine (take (i + 1) others))) new
functions_next marks cs names class_names others i s around wanted old new h e a w adds same before =
    let more : take (i + 1) others ≡ take i others ++ s ∷ [] = take_more others i s h ∙ ap (λ x. take i others ++ x ∷ []) (sym e) in
    let l : length (map the_subroutine (take i others)) ≡ i = length-map (take i others) the_subroutine ∙ length_taken others i h in
    let n = length_whole marks 1 (map the_subroutine (take i others)) in
    let subs = whole_where marks 1 (map the_subroutine (take i others)) in
    let at : i + 1 ≡ 1 + length (map the_subroutine (take i others)) = omega arith in
    let last : whole_where marks 1 (map the_subroutine (take (i + 1) others)) ≡ whole_where marks 1 (map the_subroutine (take i others)) ++ whole_if wanted (the_subroutine s) ∷ [] =
    ap (λ z. whole_where marks 1 z) (ap (map the_subroutine) more ∙ map-append the_subroutine (take i others) (s ∷ []))
    ∙ whole_last marks 1 (map the_subroutine (take i others)) (the_subroutine s)
    ∙ ap (λ z. subs ++ whole_if z (the_subroutine s) ∷ []) (sym (w ∙ ap (is_wanted marks) at)) in
    subst (λ z. AreFiles (map the_class cs) names class_names z new) (sym last)
    (functions_more (map the_class cs) names class_names subs (whole_if wanted (the_subroutine s)) around (i + 1) old new a adds (omega arith) same
    (before ∙ ap (statics_before (map the_class cs)) (sym (class_same wanted (the_subroutine s)))))
