-- Searches, and what they find.
use Rattle.std.proofs.Common.{◌≡◌, ◌++◌, ℕ, Bool, true, false, List, [], ◌∷◌, Option, Some, None, refl, sym, ap, subst, ◌∙◌, ◌⊎◌, inl, inr, append_assoc, append-nil, if◌then◌else◌, ◌||◌}
use Rattle.std.specs.List.{cons_option, filter_map}
use Rattle.std.specs.Option.{option_or}
use Rattle.std.specs.Str.{bytes_eq}
use Rattle.std.proofs.lemmas.List.Elements.{filter_map-append}
use Rattle.std.proofs.lemmas.Slice.Eq.{bytes_eq-Decides}
use Rattle.vm_link.specs.Faults.{first_of, first_repeat, repeat_after}
use Rattle.vm_link.specs.Sections.{stands_in}
use Rattle.link_laws.specs.First.{Any, NoneIs, IsFirst, IsNamedBefore}
use Rattle.link_laws.proofs.Lists.{none_begun, none_more, not_none, one_first}

-- ---- a name among names

pub or_either : (a b : Bool) → (a || b) ≡ true → (a ≡ true) ⊎ (b ≡ true)
or_either true b e = inl refl
or_either false b e = inr e

pub or_first : (a b : Bool) → a ≡ true → (a || b) ≡ true
or_first true b e = refl
or_first false b e = absurd cc

pub or_second : (a b : Bool) → b ≡ true → (a || b) ≡ true
or_second true b e = refl
or_second false b e = e

pub same_name : (n m : List ℕ) → bytes_eq n m ≡ true → n ≡ m
same_name n m e = (bytes_eq-Decides n m).0 e

pub equal_name : (n m : List ℕ) → n ≡ m → bytes_eq n m ≡ true
equal_name n m e = (bytes_eq-Decides n m).1 e

pub false_true : (b : Bool) → b ≡ false → b ≡ true → ⊥
false_true b e f = cc

module _ {X : Type 0} (name : X → Option (List ℕ)) where
  pub among : (n : List ℕ) (xs : List X) → stands_in (filter_map name xs) n ≡ true → Any (λ (x : X). name x ≡ Some n) xs
  among n [] e = absurd cc
  among n (x ∷ xs) e = by (name x) refl e (λ f. among n xs f)
    where
      by : (o : Option (List ℕ)) → name x ≡ o → stands_in (cons_option o (filter_map name xs)) n ≡ true → (stands_in (filter_map name xs) n ≡ true → Any (λ (y : X). name y ≡ Some n) xs)
          → Any (λ (y : X). name y ≡ Some n) (x ∷ xs)
      by None f e go = inr (go e)
      by (Some m) f e go = elim (or_either (bytes_eq n m) (stands_in (filter_map name xs) n) e) [
        | inl s ↦ inl (f ∙ ap Some (sym (same_name n m s)))
        | inr r ↦ inr (go r)
      ]

  pub stands : (n : List ℕ) (xs : List X) → Any (λ (x : X). name x ≡ Some n) xs → stands_in (filter_map name xs) n ≡ true
  stands n [] h = absurd h
  stands n (x ∷ xs) (inl e) = ap (λ (o : Option (List ℕ)). stands_in (cons_option o (filter_map name xs)) n) e ∙ or_first (bytes_eq n n) (stands_in (filter_map name xs) n) (equal_name n n refl)
  stands n (x ∷ xs) (inr h) = by (name x) (stands n xs h)
    where
      by : (o : Option (List ℕ)) → stands_in (filter_map name xs) n ≡ true → stands_in (cons_option o (filter_map name xs)) n ≡ true
      by None e = e
      by (Some m) e = or_second (bytes_eq n m) (stands_in (filter_map name xs) n) e

  -- ---- the first name that stands before itself

  pub data Repeated (xs : List X) : Option (List ℕ) → Type 0 where
    none_repeated : NoneIs (IsNamedBefore name) xs → Repeated xs None
    repeated : (x : X) (n : List ℕ) → IsFirst (IsNamedBefore name) xs x → name x ≡ Some n → Repeated xs (Some n)

  no_name : (o : Option (List ℕ)) (n : List ℕ) → o ≡ None → o ≡ Some n → ⊥
  no_name o n e f = cc

  one_name : (o : Option (List ℕ)) (n m : List ℕ) → o ≡ Some n → o ≡ Some m → n ≡ m
  one_name o n m e f = let g : Some n ≡ Some m = sym e ∙ f in cc

  names_last : (before : List X) (x : X) (o : Option (List ℕ)) → name x ≡ o → filter_map name (before ++ x ∷ []) ≡ filter_map name before ++ cons_option o []
  names_last before x o e = filter_map-append name before (x ∷ []) ∙ ap (λ (p : Option (List ℕ)). filter_map name before ++ cons_option p []) e

  module _ (before rest : List X) (x : X) (h : NoneIs (IsNamedBefore name) before)
      (go : (b : List X) → NoneIs (IsNamedBefore name) b → Repeated (b ++ rest) (repeat_after (filter_map name b) (filter_map name rest))) where
    on : (o : Option (List ℕ)) → name x ≡ o → (IsNamedBefore name before x → ⊥) → Repeated (before ++ x ∷ rest) (repeat_after (filter_map name before ++ cons_option o []) (filter_map name rest))
    on o e never =
        subst (λ (ns : List (List ℕ)). Repeated (before ++ x ∷ rest) (repeat_after ns (filter_map name rest))) (names_last before x o e)
        (subst (λ (l : List X). Repeated l (repeat_after (filter_map name (before ++ x ∷ [])) (filter_map name rest))) (append_assoc before (x ∷ []) rest)
        (go (before ++ x ∷ []) (none_more (IsNamedBefore name) before x h never)))

    at_name : (n : List ℕ) → name x ≡ Some n → (b : Bool) → stands_in (filter_map name before) n ≡ b
        → Repeated (before ++ x ∷ rest) (if b then Some n else repeat_after (filter_map name before ++ n ∷ []) (filter_map name rest))
    at_name n e true f = repeated x n (record { before = before; behind = rest; here = refl; is = (n, e, among n before f); none = h }) e
    at_name n e false f = on (Some n) e (λ k. false_true (stands_in (filter_map name before) n) f (stands n before (subst (λ (m : List ℕ). Any (λ (y : X). name y ≡ Some m) before) (one_name (name x) k.0 n k.1 e) k.2)))

    step : (o : Option (List ℕ)) → name x ≡ o → Repeated (before ++ x ∷ rest) (repeat_after (filter_map name before) (cons_option o (filter_map name rest)))
    step None e = subst (λ (ns : List (List ℕ)). Repeated (before ++ x ∷ rest) (repeat_after ns (filter_map name rest))) (append-nil (filter_map name before)) (on None e (λ k. no_name (name x) k.0 e k.1))
    step (Some n) e = at_name n e (stands_in (filter_map name before) n) refl

  walk : (before rest : List X) → NoneIs (IsNamedBefore name) before → Repeated (before ++ rest) (repeat_after (filter_map name before) (filter_map name rest))
  walk before [] h = none_repeated (subst (λ (l : List X). NoneIs (IsNamedBefore name) l) (sym (append-nil before)) h)
  walk before (x ∷ rest) h = step before rest x h (λ b k. walk b rest k) (name x) refl

  pub repeats : (xs : List X) → Repeated xs (first_repeat (filter_map name xs))
  repeats xs = walk [] xs (none_begun (IsNamedBefore name))

  pub none_is : (xs : List X) → NoneIs (IsNamedBefore name) xs → first_repeat (filter_map name xs) ≡ None
  none_is xs h = by (first_repeat (filter_map name xs)) (repeats xs)
    where
      by : (o : Option (List ℕ)) → Repeated xs o → o ≡ None
      by None k = refl
      by (Some n) (repeated x m f e) = absurd (not_none (IsNamedBefore name) xs x f h)

  pub repeat_is : (xs : List X) (x : X) (n : List ℕ) → IsFirst (IsNamedBefore name) xs x → name x ≡ Some n → first_repeat (filter_map name xs) ≡ Some n
  repeat_is xs x n f e = by (first_repeat (filter_map name xs)) (repeats xs)
    where
      by : (o : Option (List ℕ)) → Repeated xs o → o ≡ Some n
      by None (none_repeated k) = absurd (not_none (IsNamedBefore name) xs x f k)
      by (Some m) (repeated y k g d) = ap Some (one_name (name y) m n d (ap name (sym (one_first (IsNamedBefore name) xs x y f g)) ∙ e))

-- ---- the first item that gives a name

-- what an item gives: nothing, where it is not such; else a name that goes with it
pub data Gives {X : Type 0} (P : List X → X → Type 0) (Q : X → List ℕ → Type 0) (before : List X) (x : X) : Option (List ℕ) → Type 0 where
  nothing : (P before x → ⊥) → Gives P Q before x None
  gives : (n : List ℕ) → P before x → Q x n → Gives P Q before x (Some n)

module _ {X : Type 0} (P : List X → X → Type 0) (Q : X → List ℕ → Type 0) (h : X → Option (List ℕ)) (item : (before : List X) (x : X) → Gives P Q before x (h x)) where
  pub data Firsts (xs : List X) : Option (List ℕ) → Type 0 where
    no_first : NoneIs P xs → Firsts xs None
    a_first : (x : X) (n : List ℕ) → IsFirst P xs x → Q x n → Firsts xs (Some n)

  find : (before rest : List X) → NoneIs P before → Firsts (before ++ rest) (first_of h rest)
  find before [] none = no_first (subst (λ (l : List X). NoneIs P l) (sym (append-nil before)) none)
  find before (x ∷ rest) none = by (h x) (item before x) (λ k. find (before ++ x ∷ []) rest k)
    where
      by : (o : Option (List ℕ)) → Gives P Q before x o → (NoneIs P (before ++ x ∷ []) → Firsts ((before ++ x ∷ []) ++ rest) (first_of h rest)) → Firsts (before ++ x ∷ rest) (option_or o (first_of h rest))
      by None (nothing never) go = subst (λ (l : List X). Firsts l (first_of h rest)) (append_assoc before (x ∷ []) rest) (go (none_more P before x none never))
      by (Some n) (gives m p q) go = a_first x n (record { before = before; behind = rest; here = refl; is = p; none = none }) q

  pub firsts : (xs : List X) → Firsts xs (first_of h xs)
  firsts xs = find [] xs (none_begun P)

  pub no_first_is : (xs : List X) → NoneIs P xs → first_of h xs ≡ None
  no_first_is xs none = by (first_of h xs) (firsts xs)
    where
      by : (o : Option (List ℕ)) → Firsts xs o → o ≡ None
      by None k = refl
      by (Some n) (a_first x m f q) = absurd (not_none P xs x f none)

  pub first_is : (xs : List X) (x : X) (n : List ℕ) → IsFirst P xs x → Q x n → ((m : List ℕ) → Q x m → m ≡ n) → first_of h xs ≡ Some n
  first_is xs x n f q one = by (first_of h xs) (firsts xs)
    where
      by : (o : Option (List ℕ)) → Firsts xs o → o ≡ Some n
      by None (no_first k) = absurd (not_none P xs x f k)
      by (Some m) (a_first y k g r) = ap Some (one m (subst (λ (z : X). Q z m) (one_first P xs y x g f) r))
