-- The search over abstract syntax finds the first of the faults of declarations.
use Rattle.std.proofs.Common.{◌≡◌, ◌<◌, ◌⊎◌, inl, inr, ℕ, zero, suc, Bool, true, false, not, List, [], ◌∷◌, ◌++◌, Some, slice_get, codes, if◌then◌else◌, refl, sym, ap, ◌∙◌, arith, lit<}
use Rattle.std.specs.Bool.{Decides}
use Rattle.std.specs.Str.{bytes_eq}
use Rattle.std.proofs.lemmas.Bool.Decides.{Decides-not}
use Rattle.std.proofs.lemmas.Slice.Eq.{bytes_eq-Decides}
use Rattle.jack_tree.specs.Syntax as tree
use Rattle.name_table.specs.Names.{first_of}
use Rattle.jack_names.specs.Tables.{is_among}
use Rattle.jack_names.specs.Faults.{Source}
use Rattle.jack_names.specs.Using.{members, inner, source}
use Rattle.jack_names.specs.NameFaults.{names, told_at}
use Rattle.jack_names.specs.declared.fault.NameKind.{NameKind}
use Rattle.jack_names.specs.declared.fault.NameKind.TheVariants as kinds
use Rattle.jack_names.proofs.Finding.{Faults, Finds, FindsNone, Either, Under, finds_under, Cons, HasNumbers, finds_cons, Each, each_numbers, finds_each, One, finds_test, finds_before, above_one, fails_if}
use Rattle.jack_names.proofs.Searched.{twice, subroutines_twice, declaration, declarations}

-- the names that are there before the thing of a number
abbrev pub seen : {A : Type 0} → (A → List ℕ) → List (List ℕ) → List A → ℕ → List (List ℕ)
seen name before xs zero = before
seen name before [] (suc j) = before
seen name before (x ∷ xs) (suc j) = seen name (before ++ name x ∷ []) xs j

-- one of these names is spelled so
pub by_true : (b : Bool) (c : Bool) → (if b then true else c) ≡ true → (b ≡ true) ⊎ (c ≡ true)
by_true true c h = inl refl
by_true false c h = inr h

pub true_first : (b : Bool) (c : Bool) → b ≡ true → (if b then true else c) ≡ true
true_first true c h = refl
true_first false c h = absurd cc

pub true_second : (b : Bool) (c : Bool) → c ≡ true → (if b then true else c) ≡ true
true_second true c h = refl
true_second false c h = h

among_to : (z : List ℕ) (before : List (List ℕ)) (n : List ℕ) → is_among z (before ++ n ∷ []) ≡ true → (is_among z before ≡ true) ⊎ (z ≡ n)
among_to z [] n h = elim (by_true (bytes_eq z n) false h) [ inl e ↦ inr ((bytes_eq-Decides z n).0 e) | inr e ↦ absurd cc ]
among_to z (y ∷ before) n h =
    elim (by_true (bytes_eq z y) (is_among z (before ++ n ∷ [])) h) [
      | inl e ↦ inl (true_first (bytes_eq z y) (is_among z before) e)
      | inr e ↦ elim (among_to z before n e) [ inl r ↦ inl (true_second (bytes_eq z y) (is_among z before) r) | inr q ↦ inr q ]
    ]

among_before : (z : List ℕ) (before : List (List ℕ)) (n : List ℕ) → is_among z before ≡ true → is_among z (before ++ n ∷ []) ≡ true
among_before z [] n h = absurd cc
among_before z (y ∷ before) n h =
    elim (by_true (bytes_eq z y) (is_among z before) h) [
      | inl e ↦ true_first (bytes_eq z y) (is_among z (before ++ n ∷ [])) e
      | inr e ↦ true_second (bytes_eq z y) (is_among z (before ++ n ∷ [])) (among_before z before n e)
    ]

among_last : (z : List ℕ) (before : List (List ℕ)) (n : List ℕ) → z ≡ n → is_among z (before ++ n ∷ []) ≡ true
among_last z [] n e = true_first (bytes_eq z n) false ((bytes_eq-Decides z n).1 e)
among_last z (y ∷ before) n e = true_second (bytes_eq z y) (is_among z (before ++ n ∷ [])) (among_last z before n e)

-- an earlier thing of this name
abbrev pub Earlier : {A : Type 0} → (A → List ℕ) → List A → ℕ → List ℕ → Type 0
Earlier {A} name xs j z = (k : ℕ) × (y : A) × (k < j) × (slice_get xs k ≡ Some y) × (name y ≡ z)

pub seen_to : {A : Type 0} (name : A → List ℕ) (before : List (List ℕ)) (xs : List A) (j : ℕ) (z : List ℕ) → is_among z (seen name before xs j) ≡ true → (is_among z before ≡ true) ⊎ Earlier name xs j z
seen_to name before xs zero z h = inl h
seen_to name before [] (suc j) z h = inl h
seen_to name before (x ∷ xs) (suc j) z h =
    elim (seen_to name (before ++ name x ∷ []) xs j z h) [
      | inl e ↦ elim (among_to z before (name x) e) [ inl r ↦ inl r | inr q ↦ inr (0, x, omega arith, refl, sym q) ]
      | inr p ↦ inr (suc p.0, p.1, (let l = p.2 in omega arith), p.3, p.4)
    ]

pub seen_before : {A : Type 0} (name : A → List ℕ) (before : List (List ℕ)) (xs : List A) (j : ℕ) (z : List ℕ) → is_among z before ≡ true → is_among z (seen name before xs j) ≡ true
seen_before name before xs zero z h = h
seen_before name before [] (suc j) z h = h
seen_before name before (x ∷ xs) (suc j) z h = seen_before name (before ++ name x ∷ []) xs j z (among_before z before (name x) h)

earlier_seen : {A : Type 0} (name : A → List ℕ) (before : List (List ℕ)) (xs : List A) (j : ℕ) (z : List ℕ) (k : ℕ) (y : A) → k < j → slice_get xs k ≡ Some y → name y ≡ z → is_among z (seen name before xs j) ≡ true
earlier_seen name before xs zero z k y l e q = absurd (omega arith)
earlier_seen name before [] (suc j) z k y l e q = absurd cc
earlier_seen {A = A} name before (x ∷ xs) (suc j) z zero y l e q =
    let same : x ≡ y = cc in
    seen_before name (before ++ name x ∷ []) xs j z (among_last z before (name x) (sym q ∙ ap name (sym same)))
earlier_seen name before (x ∷ xs) (suc j) z (suc k) y l e q = earlier_seen name (before ++ name x ∷ []) xs j z k y (omega arith) e q

pub seen_back : {A : Type 0} (name : A → List ℕ) (before : List (List ℕ)) (xs : List A) (j : ℕ) (z : List ℕ) → Earlier name xs j z → is_among z (seen name before xs j) ≡ true
seen_back name before xs j z p = earlier_seen name before xs j z p.0 p.1 p.2 p.3 p.4

abbrev pub the_text : tree.Name → List ℕ
the_text x = x.text

abbrev pub the_title : tree.Subroutine → List ℕ
the_title s = s.name.text

abbrev pub class_title : tree.ClassFile → List ℕ
class_title c = c.class.name.text

same_test : (b : Bool) → Decides b (b ≡ true)
same_test b = (λ e. e, λ e. e)

abbrev pub TwiceF : Source → NameKind → List (List ℕ) → List tree.Name → Faults
TwiceF source kind before xs = Each (λ j x. One kind 0 (told_at source kind x) (is_among x.text (seen the_text before xs j) ≡ true)) xs

finds_twice : (source : Source) (kind : NameKind) (before : List (List ℕ)) (xs : List tree.Name) → Finds (TwiceF source kind before xs) (twice source kind before xs)
finds_twice source kind before [] = FindsNone (λ k t x. x)
finds_twice source kind before (x ∷ xs) =
    finds_each (λ j z. One kind 0 (told_at source kind z) (is_among z.text (seen the_text before (x ∷ xs) j) ≡ true)) x xs
    (finds_test kind 0 (told_at source kind x) (is_among x.text before) (same_test (is_among x.text before))) (finds_twice source kind (before ++ x.text ∷ []) xs)

abbrev pub OneSubroutineF : Source → List (List ℕ) → tree.Subroutine → Faults
OneSubroutineF source before s =
    Cons (One kinds.MemberTwice 0 (told_at source kinds.MemberTwice s.name) (is_among s.name.text before ≡ true)) (TwiceF source kinds.VariableTwice [] (names (inner s)))

abbrev pub SubroutinesF : Source → List (List ℕ) → List tree.Subroutine → Faults
SubroutinesF source before ss = Each (λ n s. OneSubroutineF source (seen the_title before ss n) s) ss

twice_numbers : (source : Source) (kind : NameKind) (before : List (List ℕ)) (xs : List tree.Name) → HasNumbers (TwiceF source kind before xs)
twice_numbers source kind before xs = each_numbers (λ j x. One kind 0 (told_at source kind x) (is_among x.text (seen the_text before xs j) ≡ true)) xs

finds_subroutine : (source : Source) (before : List (List ℕ)) (s : tree.Subroutine)
    → Finds (OneSubroutineF source before s) (first_of (fails_if (is_among s.name.text before) (told_at source kinds.MemberTwice s.name)) (twice source kinds.VariableTwice [] (names (inner s))))
finds_subroutine source before s =
    finds_cons (twice_numbers source kinds.VariableTwice [] (names (inner s)))
    (finds_test kinds.MemberTwice 0 (told_at source kinds.MemberTwice s.name) (is_among s.name.text before) (same_test (is_among s.name.text before))) (finds_twice source kinds.VariableTwice [] (names (inner s)))

finds_subroutines : (source : Source) (before : List (List ℕ)) (ss : List tree.Subroutine) → Finds (SubroutinesF source before ss) (subroutines_twice source before ss)
finds_subroutines source before [] = FindsNone (λ k t x. x)
finds_subroutines source before (s ∷ ss) =
    finds_each (λ n z. OneSubroutineF source (seen the_title before (s ∷ ss) n) z) s ss (finds_subroutine source before s) (finds_subroutines source (before ++ s.name.text ∷ []) ss)

abbrev pub TitleF : Bool → List (List ℕ) → tree.ClassFile → Faults
TitleF shipped there c =
    Either (One kinds.FileName 0 (told_at (source shipped c) kinds.FileName c.class.name) (¬ (c.class.name.text ++ codes ".jack" ≡ c.file)))
    (One kinds.ClassTwice 0 (told_at (source shipped c) kinds.ClassTwice c.class.name) (is_among c.class.name.text there ≡ true))

abbrev pub DeclarationF : Bool → List (List ℕ) → tree.ClassFile → Faults
DeclarationF shipped there c =
    Cons (Under 0 (TitleF shipped there c))
    (Cons (TwiceF (source shipped c) kinds.MemberTwice [] (names (members c.class.variables))) (SubroutinesF (source shipped c) [] c.class.subroutines))

cons_numbers : (A B : Faults) → HasNumbers (Cons A B)
cons_numbers A B t x = x

finds_declaration : (shipped : Bool) (there : List (List ℕ)) (c : tree.ClassFile) → Finds (DeclarationF shipped there c) (declaration shipped there c)
finds_declaration shipped there c =
    let from : Source = source shipped c in
    let is_file : Bool = bytes_eq (c.class.name.text ++ codes ".jack") c.file in
    let is_there : Bool = is_among c.class.name.text there in
    finds_cons (cons_numbers (TwiceF from kinds.MemberTwice [] (names (members c.class.variables))) (SubroutinesF from [] c.class.subroutines))
    (finds_under 0
    (finds_before kinds.FileName 0 (told_at from kinds.FileName c.class.name) (not is_file) (Decides-not is_file (bytes_eq-Decides (c.class.name.text ++ codes ".jack") c.file))
    (finds_test kinds.ClassTwice 0 (told_at from kinds.ClassTwice c.class.name) is_there (same_test is_there)) (above_one 1 kinds.ClassTwice 0 _ (lit< tt))))
    (finds_cons (each_numbers (λ n s. OneSubroutineF from (seen the_title [] c.class.subroutines n) s) c.class.subroutines) (finds_twice from kinds.MemberTwice [] (names (members c.class.variables)))
    (finds_subroutines from [] c.class.subroutines))

abbrev pub DeclarationsF : Bool → List (List ℕ) → List tree.ClassFile → Faults
DeclarationsF shipped there cs = Each (λ i c. DeclarationF shipped (seen class_title there cs i) c) cs

pub finds_declarations : (shipped : Bool) (there : List (List ℕ)) (cs : List tree.ClassFile) → Finds (DeclarationsF shipped there cs) (declarations shipped there cs)
finds_declarations shipped there [] = FindsNone (λ k t x. x)
finds_declarations shipped there (c ∷ cs) =
    finds_each (λ i z. DeclarationF shipped (seen class_title there (c ∷ cs) i) z) c cs (finds_declaration shipped there c) (finds_declarations shipped (there ++ c.class.name.text ∷ []) cs)
