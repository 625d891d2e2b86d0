-- No two subroutines of a program without a fault in its declarations have one name.
use Rattle.std.proofs.Common.{◌≡◌, ◌<◌, ℕ, zero, suc, Bool, true, false, cond, List, [], ◌∷◌, ◌++◌, map, length, get_or, Some, None, refl, sym, ap, ◌∙◌, arith}
use Rattle.std.specs.Str.{bytes_eq}
use Rattle.std.proofs.lemmas.Bool.{false≢true}
use Rattle.std.proofs.lemmas.Slice.Eq.{bytes_eq-Decides}
use Rattle.jack_tree.specs.declared.tree.Subroutine.{Subroutine}
use Rattle.jack_tree.specs.declared.tree.Class.{Class}
use Rattle.jack_names.specs.Tables.{is_among}
use Rattle.jack_names.specs.Faults.{Source}
use Rattle.jack_names.specs.Inner.Twice.{told_name, twice_fault, members_twice, variables_fault, subroutines_fault, members_fault, source_of, file_fault, declaration_fault, declarations_fault}
use Rattle.jack_names.specs.Inner.Whole.{class_names}
use Rattle.jack_names.specs.declared.fault.NameKind.{NameKind}
use Rattle.jack_names.specs.declared.fault.NameKind.TheVariants as kinds
use Rattle.jack_tree.specs.declared.tree.Name.{Name}
use Rattle.tower.proofs.NamedFaults.{none_both}

-- a name is not one of these, and no name of a list stands there twice
abbrev pub IsNew : List ℕ → List (List ℕ) → Type 0
IsNew x [] = Unit {0}
IsNew x (y ∷ ys) = (x ≡ y → ⊥) × IsNew x ys

abbrev pub AreApart : List (List ℕ) → Type 0
AreApart [] = Unit {0}
AreApart (x ∷ xs) = IsNew x xs × AreApart xs

-- each of some names is not among others
abbrev pub AreNew : List (List ℕ) → List (List ℕ) → Type 0
AreNew [] ys = Unit {0}
AreNew (x ∷ xs) ys = IsNew x ys × AreNew xs ys

pub new_both : (x : List ℕ) (xs ys : List (List ℕ)) → IsNew x xs → IsNew x ys → IsNew x (xs ++ ys)
new_both x [] ys a b = b
new_both x (y ∷ xs) ys a b = (a.0, new_both x xs ys a.1 b)

pub apart_both : (xs ys : List (List ℕ)) → AreApart xs → AreApart ys → AreNew xs ys → AreApart (xs ++ ys)
apart_both [] ys a b c = b
apart_both (x ∷ xs) ys a b c = (new_both x xs ys a.0 c.0, apart_both xs ys a.1 b c.1)

new_at : (x : List ℕ) (xs : List (List ℕ)) (i : ℕ) → IsNew x xs → i < length xs → x ≡ get_or xs i [] → ⊥
new_at x [] i a h e = absurd (omega arith)
new_at x (y ∷ xs) zero a h e = a.0 e
new_at x (y ∷ xs) (suc i) a h e = new_at x xs i a.1 (omega arith) e

pub apart_at : (xs : List (List ℕ)) → AreApart xs → (g h : ℕ) → g < length xs → h < length xs → get_or xs g [] ≡ get_or xs h [] → g ≡ h
apart_at [] a g h p q e = absurd (omega arith)
apart_at (x ∷ xs) a zero zero p q e = refl
apart_at (x ∷ xs) a zero (suc h) p q e = absurd (new_at x xs h a.0 (omega arith) e)
apart_at (x ∷ xs) a (suc g) zero p q e = absurd (new_at x xs g a.0 (omega arith) (sym e))
apart_at (x ∷ xs) a (suc g) (suc h) p q e = ap suc (apart_at xs a.1 g h (omega arith) (omega arith) e)

-- names that are there
among_last_by : (b : Bool) → cond b true true ≡ true
among_last_by true = refl
among_last_by false = refl

same_bytes : (x : List ℕ) → bytes_eq x x ≡ true
same_bytes x = (bytes_eq-Decides x x).1 refl

among_last : (x : List ℕ) (ys : List (List ℕ)) → is_among x (ys ++ x ∷ []) ≡ true
among_last x [] = ap (λ (b : Bool). cond b true false) (same_bytes x)
among_last x (y ∷ ys) = ap (λ (c : Bool). cond (bytes_eq x y) true c) (among_last x ys) ∙ among_last_by (bytes_eq x y)

among_front_by : (b c d : Bool) → (c ≡ true → d ≡ true) → cond b true c ≡ true → cond b true d ≡ true
among_front_by true c d h e = refl
among_front_by false c d h e = h e

among_front : (x z : List ℕ) (ys : List (List ℕ)) → is_among x ys ≡ true → is_among x (ys ++ z ∷ []) ≡ true
among_front x z [] h = absurd cc
among_front x z (y ∷ ys) h = among_front_by (bytes_eq x y) (is_among x ys) (is_among x (ys ++ z ∷ [])) (among_front x z ys) h

not_among_by : (source : Source) (kind : NameKind) (n : Name) (b : Bool) → cond b (Some (told_name source kind n)) None ≡ None → b ≡ false
not_among_by source kind n true h = absurd cc
not_among_by source kind n false h = refl

-- a name that is there before is not that of the next thing
next_new : (source : Source) (kind : NameKind) (n : Name) (before : List (List ℕ)) (x : List ℕ) → twice_fault source kind before n ≡ None → is_among x before ≡ true → x ≡ n.text → ⊥
next_new source kind n before x h k e =
    false≢true (sym (not_among_by source kind n (is_among n.text before) h) ∙ ap (λ (y : List ℕ). is_among y before) (sym e) ∙ k)

abbrev pub texts : List Subroutine → List (List ℕ)
texts ss = map (λ t. t.name.text) ss

module _ (source : Source) where
  later_new : (before : List (List ℕ)) (ss : List Subroutine) (x : List ℕ) → subroutines_fault source before ss ≡ None → is_among x before ≡ true → IsNew x (texts ss)
  later_new before [] x h k = tt
  later_new before (s ∷ ss) x h k =
      let a = none_both (twice_fault source kinds.MemberTwice before s.name) _ h in
      let b = none_both (variables_fault source s) (subroutines_fault source (before ++ s.name.text ∷ []) ss) a.1 in
      (next_new source kinds.MemberTwice s.name before x a.0 k, later_new (before ++ s.name.text ∷ []) ss x b.1 (among_front x s.name.text before k))

  members_apart : (before : List (List ℕ)) (ss : List Subroutine) → subroutines_fault source before ss ≡ None → AreApart (texts ss)
  members_apart before [] h = tt
  members_apart before (s ∷ ss) h =
      let a = none_both (twice_fault source kinds.MemberTwice before s.name) _ h in
      let b = none_both (variables_fault source s) (subroutines_fault source (before ++ s.name.text ∷ []) ss) a.1 in
      (later_new (before ++ s.name.text ∷ []) ss s.name.text b.1 (among_last s.name.text before), members_apart (before ++ s.name.text ∷ []) ss b.1)

-- what a class without a fault in its declarations keeps
pub record IsDeclared (shipped : Bool) (before : List (List ℕ)) (c : Class) : Type 0 where
  pub new : twice_fault (source_of shipped c) kinds.ClassTwice before c.name ≡ None
  pub apart : AreApart (texts c.subroutines.items)

pub declared : (shipped : Bool) (before : List (List ℕ)) (c : Class) → declaration_fault shipped before c ≡ None → IsDeclared shipped before c
declared shipped before c h =
    let source = source_of shipped c in
    let a = none_both (file_fault (source_of shipped c) c) _ h in
    let b = none_both (twice_fault (source_of shipped c) kinds.ClassTwice before c.name) (members_fault (source_of shipped c) c) a.1 in
    let d = none_both (members_twice (source_of shipped c) [] c.variables.items) (subroutines_fault (source_of shipped c) [] c.subroutines.items) b.1 in
    record { new = b.0; apart = members_apart (source_of shipped c) [] c.subroutines.items d.1 }

pub later_classes : (shipped : Bool) (before : List (List ℕ)) (cs : List Class) (x : List ℕ) → declarations_fault shipped before cs ≡ None → is_among x before ≡ true → IsNew x (class_names cs)
later_classes shipped before [] x h k = tt
later_classes shipped before (c ∷ cs) x h k =
    let a = none_both (declaration_fault shipped before c) (declarations_fault shipped (before ++ c.name.text ∷ []) cs) h in
    (next_new (source_of shipped c) kinds.ClassTwice c.name before x (declared shipped before c a.0).new k, later_classes shipped (before ++ c.name.text ∷ []) cs x a.1 (among_front x c.name.text before k))

-- classes whose names are apart, with subroutines whose names are apart in each
abbrev pub Declared : List Class → Type 0
Declared [] = Unit {0}
Declared (c ∷ cs) = IsNew c.name.text (class_names cs) × AreApart (texts c.subroutines.items) × Declared cs

pub all_declared : (shipped : Bool) (before : List (List ℕ)) (cs : List Class) → declarations_fault shipped before cs ≡ None → Declared cs
all_declared shipped before [] h = tt
all_declared shipped before (c ∷ cs) h =
    let a = none_both (declaration_fault shipped before c) (declarations_fault shipped (before ++ c.name.text ∷ []) cs) h in (
      later_classes shipped (before ++ c.name.text ∷ []) cs c.name.text a.1 (among_last c.name.text before),
      (declared shipped before c a.0).apart,
      all_declared shipped (before ++ c.name.text ∷ []) cs a.1,
    )
