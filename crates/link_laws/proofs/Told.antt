-- Each fault, and what the search for it finds.
use Rattle.std.proofs.Common.{◌≡◌, ℕ, Bool, true, false, List, [], ◌∷◌, Option, Some, None, refl, sym, ap, subst, ◌∙◌, inl, inr, if◌then◌else◌}
use Rattle.std.specs.List.{list_any}
use Rattle.vm_tree.specs.declared.command.Line.{Line}
use Rattle.vm_link.specs.Faults.{first_of, first_repeat, label_twice, lacking, names, no_function, no_label}
use Rattle.vm_link.specs.Sections.{Section, called_name, has_name, is_named, label, labels, stands_in, target}
use Rattle.link_laws.specs.First.{NoneIs, IsFirst}
use Rattle.link_laws.specs.Linking.{CallsNothing, GoesNowhere, HasFunction, HasLabel, HasLabelTwice, IsDefinedBefore, IsMarkedBefore, LacksFunction, LacksLabel}
use Rattle.link_laws.proofs.Lists.{not_none, one_first}
use Rattle.link_laws.proofs.First.{Gives, Firsts, Repeated, a_first, among, equal_name, false_true, first_is, firsts, gives, no_first, no_first_is, none_is, none_repeated, nothing, or_either, or_first, or_second, repeat_is, repeated, repeats, same_name, stands}

name_of : Section → Option (List ℕ)
name_of s = s.name

marks : Line → Option (List ℕ)
marks x = label x.command

no_name : (o : Option (List ℕ)) (n : List ℕ) → o ≡ None → o ≡ Some n → ⊥
no_name o n e f = cc

one_name : (o : Option (List ℕ)) (n m : List ℕ) → o ≡ Some n → o ≡ Some m → n ≡ m
one_name o n m e f = let g : Some n ≡ Some m = sym e ∙ f in cc

-- ---- functions by name

named : (f : List ℕ) (o : Option (List ℕ)) → has_name f o ≡ true → o ≡ Some f
named f None e = absurd cc
named f (Some n) e = ap Some (sym (same_name f n e))

has_that_name : (f : List ℕ) (o : Option (List ℕ)) → o ≡ Some f → has_name f o ≡ true
has_that_name f None e = absurd cc
has_that_name f (Some n) e = equal_name f n (sym (one_name (Some n) n f refl e))

pub is_there : (f : List ℕ) (ss : List Section) → list_any (is_named f) ss ≡ true → HasFunction ss f
is_there f [] e = absurd cc
is_there f (s ∷ ss) e = elim (or_either (is_named f s) (list_any (is_named f) ss) e) [ inl h ↦ inl (named f s.name h) | inr r ↦ inr (is_there f ss r) ]

pub found_there : (f : List ℕ) (ss : List Section) → HasFunction ss f → list_any (is_named f) ss ≡ true
found_there f [] h = absurd h
found_there f (s ∷ ss) (inl e) = or_first (is_named f s) (list_any (is_named f) ss) (has_that_name f s.name e)
found_there f (s ∷ ss) (inr h) = or_second (is_named f s) (list_any (is_named f) ss) (found_there f ss h)

-- ---- a name that is not there

module _ {X : Type 0} (name : X → Option (List ℕ)) (there : List ℕ → Bool) (Has : List ℕ → Type 0) (yes : (n : List ℕ) → there n ≡ true → Has n) (back : (n : List ℕ) → Has n → there n ≡ true) where
  pub lacks : (before : List X) (x : X) → Gives (λ (b : List X) (y : X). (n : List ℕ) × (name y ≡ Some n) × (Has n → ⊥)) (λ (y : X) (n : List ℕ). name y ≡ Some n) before x (lacking there (name x))
  lacks before x = by (name x) refl
    where
      by : (o : Option (List ℕ)) → name x ≡ o → Gives (λ (b : List X) (y : X). (n : List ℕ) × (name y ≡ Some n) × (Has n → ⊥)) (λ (y : X) (n : List ℕ). name y ≡ Some n) before x (lacking there o)
      by None e = nothing (λ k. no_name (name x) k.0 e k.1)
      by (Some n) e = test (there n) refl
        where
          test : (b : Bool) → there n ≡ b → Gives (λ (c : List X) (y : X). (m : List ℕ) × (name y ≡ Some m) × (Has m → ⊥)) (λ (y : X) (m : List ℕ). name y ≡ Some m) before x (if b then None else Some n)
          test true f = nothing (λ k. k.2 (subst Has (one_name (name x) n k.0 e k.1) (yes n f)))
          test false f = gives n (n, e, λ h. false_true (there n) f (back n h)) e

-- ---- in a section

target_of : Line → Option (List ℕ)
target_of x = target x.command

call_of : Line → Option (List ℕ)
call_of x = called_name x.command

goes : (s : Section) (before : List Line) (x : Line) → Gives (GoesNowhere s) (λ (y : Line) (n : List ℕ). target y.command ≡ Some n) before x (lacking (stands_in (labels s.lines)) (target x.command))
goes s before x = lacks (λ (y : Line). target y.command) (stands_in (labels s.lines)) (HasLabel s) (λ n e. among (λ (y : Line). label y.command) n s.lines e) (λ n h. stands (λ (y : Line). label y.command) n s.lines h) before x

calls : (ss : List Section) (before : List Line) (x : Line) → Gives (CallsNothing ss) (λ (y : Line) (n : List ℕ). called_name y.command ≡ Some n) before x (lacking (λ f. list_any (is_named f) ss) (called_name x.command))
calls ss before x = lacks (λ (y : Line). called_name y.command) (λ (f : List ℕ). list_any (is_named f) ss) (HasFunction ss) (λ n e. is_there n ss e) (λ n h. found_there n ss h) before x

-- ---- sections

pub TwiceIn : Section → List ℕ → Type 0
TwiceIn s n = (x : Line) × IsFirst IsMarkedBefore s.lines x × (label x.command ≡ Some n)

pub NowhereIn : Section → List ℕ → Type 0
NowhereIn s n = (x : Line) × IsFirst (GoesNowhere s) s.lines x × (target x.command ≡ Some n)

pub NothingIn : List Section → Section → List ℕ → Type 0
NothingIn ss s n = (x : Line) × IsFirst (CallsNothing ss) s.lines x × (called_name x.command ≡ Some n)

twice_in : (before : List Section) (s : Section) → Gives HasLabelTwice TwiceIn before s (label_twice s)
unfolding TwiceIn
twice_in before s = by (first_repeat (labels s.lines)) (repeats (λ (x : Line). label x.command) s.lines)
  where
    by : (o : Option (List ℕ)) → Repeated (λ (x : Line). label x.command) s.lines o → Gives HasLabelTwice TwiceIn before s o
    by None (none_repeated k) = nothing (λ p. not_none IsMarkedBefore s.lines p.0 p.1 k)
    by (Some n) (repeated x m f e) = gives n (x, f) (x, f, e)

nowhere_in : (before : List Section) (s : Section) → Gives LacksLabel NowhereIn before s (no_label s)
unfolding NowhereIn
nowhere_in before s = by (no_label s) (firsts (GoesNowhere s) (λ (y : Line) (n : List ℕ). target y.command ≡ Some n) (λ (x : Line). lacking (stands_in (labels s.lines)) (target x.command)) (goes s) s.lines)
  where
    by : (o : Option (List ℕ)) → Firsts (GoesNowhere s) (λ (y : Line) (n : List ℕ). target y.command ≡ Some n) (λ (x : Line). lacking (stands_in (labels s.lines)) (target x.command)) (goes s) s.lines o → Gives LacksLabel NowhereIn before s o
    by None (no_first k) = nothing (λ p. not_none (GoesNowhere s) s.lines p.0 p.1 k)
    by (Some n) (a_first x m f e) = gives n (x, f) (x, f, e)

nothing_in : (ss before : List Section) (s : Section) → Gives (LacksFunction ss) (NothingIn ss) before s (no_function ss s)
unfolding NothingIn
nothing_in ss before s = by (no_function ss s) (firsts (CallsNothing ss) (λ (y : Line) (n : List ℕ). called_name y.command ≡ Some n) (λ (x : Line). lacking (λ f. list_any (is_named f) ss) (called_name x.command)) (calls ss) s.lines)
  where
    by : (o : Option (List ℕ)) → Firsts (CallsNothing ss) (λ (y : Line) (n : List ℕ). called_name y.command ≡ Some n) (λ (x : Line). lacking (λ f. list_any (is_named f) ss) (called_name x.command)) (calls ss) s.lines o → Gives (LacksFunction ss) (NothingIn ss) before s o
    by None (no_first k) = nothing (λ p. not_none (CallsNothing ss) s.lines p.0 p.1 k)
    by (Some n) (a_first x m f e) = gives n (x, f) (x, f, e)

-- ---- of all sections

pub defined : (ss : List Section) → Repeated (λ (s : Section). s.name) ss (first_repeat (names ss))
defined ss = repeats (λ (s : Section). s.name) ss

pub none_defined : (ss : List Section) → NoneIs IsDefinedBefore ss → first_repeat (names ss) ≡ None
none_defined ss h = none_is (λ (s : Section). s.name) ss h

pub defined_is : (ss : List Section) (s : Section) (n : List ℕ) → IsFirst IsDefinedBefore ss s → s.name ≡ Some n → first_repeat (names ss) ≡ Some n
defined_is ss s n f e = repeat_is (λ (t : Section). t.name) ss s n f e

pub data Marked (ss : List Section) : Option (List ℕ) → Type 0 where
  none_marked : NoneIs HasLabelTwice ss → Marked ss None
  marked : (s : Section) (x : Line) (n : List ℕ) → IsFirst HasLabelTwice ss s → IsFirst IsMarkedBefore s.lines x → label x.command ≡ Some n → Marked ss (Some n)

pub marked_of : (ss : List Section) → Marked ss (first_of label_twice ss)
unfolding TwiceIn
marked_of ss = by (first_of label_twice ss) (firsts HasLabelTwice TwiceIn label_twice twice_in ss)
  where
    by : (o : Option (List ℕ)) → Firsts HasLabelTwice TwiceIn label_twice twice_in ss o → Marked ss o
    by None (no_first k) = none_marked k
    by (Some n) (a_first s m f q) = marked s q.0 n f q.1 q.2

pub no_mark : (ss : List Section) → NoneIs HasLabelTwice ss → first_of label_twice ss ≡ None
no_mark ss h = no_first_is HasLabelTwice TwiceIn label_twice twice_in ss h

pub mark_is : (ss : List Section) (s : Section) (x : Line) (n : List ℕ) → IsFirst HasLabelTwice ss s → IsFirst IsMarkedBefore s.lines x → label x.command ≡ Some n → first_of label_twice ss ≡ Some n
unfolding TwiceIn
mark_is ss s x n f g e = first_is HasLabelTwice TwiceIn label_twice twice_in ss s n f (x, g, e) (λ m q. one_name (label q.0.command) m n q.2 (ap (λ (y : Line). label y.command) (one_first IsMarkedBefore s.lines q.0 x q.1 g) ∙ e))

pub data Gone (ss : List Section) : Option (List ℕ) → Type 0 where
  none_gone : NoneIs LacksLabel ss → Gone ss None
  gone : (s : Section) (x : Line) (n : List ℕ) → IsFirst LacksLabel ss s → IsFirst (GoesNowhere s) s.lines x → target x.command ≡ Some n → Gone ss (Some n)

pub gone_of : (ss : List Section) → Gone ss (first_of no_label ss)
unfolding NowhereIn
gone_of ss = by (first_of no_label ss) (firsts LacksLabel NowhereIn no_label nowhere_in ss)
  where
    by : (o : Option (List ℕ)) → Firsts LacksLabel NowhereIn no_label nowhere_in ss o → Gone ss o
    by None (no_first k) = none_gone k
    by (Some n) (a_first s m f q) = gone s q.0 n f q.1 q.2

pub no_gone : (ss : List Section) → NoneIs LacksLabel ss → first_of no_label ss ≡ None
no_gone ss h = no_first_is LacksLabel NowhereIn no_label nowhere_in ss h

pub gone_is : (ss : List Section) (s : Section) (x : Line) (n : List ℕ) → IsFirst LacksLabel ss s → IsFirst (GoesNowhere s) s.lines x → target x.command ≡ Some n → first_of no_label ss ≡ Some n
unfolding NowhereIn
gone_is ss s x n f g e = first_is LacksLabel NowhereIn no_label nowhere_in ss s n f (x, g, e) (λ m q. one_name (target q.0.command) m n q.2 (ap (λ (y : Line). target y.command) (one_first (GoesNowhere s) s.lines q.0 x q.1 g) ∙ e))

pub data Unmet (ss kept : List Section) : Option (List ℕ) → Type 0 where
  none_unmet : NoneIs (LacksFunction ss) kept → Unmet ss kept None
  unmet : (s : Section) (x : Line) (n : List ℕ) → IsFirst (LacksFunction ss) kept s → IsFirst (CallsNothing ss) s.lines x → called_name x.command ≡ Some n → Unmet ss kept (Some n)

pub unmet_of : (ss kept : List Section) → Unmet ss kept (first_of (no_function ss) kept)
unfolding NothingIn
unmet_of ss kept = by (first_of (no_function ss) kept) (firsts (LacksFunction ss) (NothingIn ss) (no_function ss) (nothing_in ss) kept)
  where
    by : (o : Option (List ℕ)) → Firsts (LacksFunction ss) (NothingIn ss) (no_function ss) (nothing_in ss) kept o → Unmet ss kept o
    by None (no_first k) = none_unmet k
    by (Some n) (a_first s m f q) = unmet s q.0 n f q.1 q.2

pub no_unmet : (ss kept : List Section) → NoneIs (LacksFunction ss) kept → first_of (no_function ss) kept ≡ None
no_unmet ss kept h = no_first_is (LacksFunction ss) (NothingIn ss) (no_function ss) (nothing_in ss) kept h

pub unmet_is : (ss kept : List Section) (s : Section) (x : Line) (n : List ℕ) → IsFirst (LacksFunction ss) kept s → IsFirst (CallsNothing ss) s.lines x → called_name x.command ≡ Some n → first_of (no_function ss) kept ≡ Some n
unfolding NothingIn
unmet_is ss kept s x n f g e = first_is (LacksFunction ss) (NothingIn ss) (no_function ss) (nothing_in ss) kept s n f (x, g, e) (λ m q. one_name (called_name q.0.command) m n q.2 (ap (λ (y : Line). called_name y.command) (one_first (CallsNothing ss) s.lines q.0 x q.1 g) ∙ e))
