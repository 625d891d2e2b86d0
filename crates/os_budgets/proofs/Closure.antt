-- The linked subroutines of a program and its budget, by computation. The list is found by a search, of which nothing is proved but that it
-- stays within what is linked, and tested.
use Rattle.std.proofs.Common.{◌≡◌, ◌≢◌, ◌<◌, ◌+◌, ◌==◌, ◌&&◌, ℕ, zero, suc, Bool, true, false, not, List, [], ◌∷◌, ◌++◌, drop, map, length, get_or, sym, ap, ◌∙◌, subst, arith}
use Rattle.std.specs.Prelude.{sum_by}
use Rattle.std.specs.List.{All, AllByRecursion, AllPairs, Contains, list_any}
use Rattle.std.proofs.Math.ListN.{get_or-map}
use Rattle.std.proofs.lemmas.Bool.{and_parts}
use Rattle.std.proofs.lemmas.Bool.Decides.{Decides-eqb}
use Rattle.std.proofs.lemmas.List.{get_or_default}
use Rattle.std.proofs.lemmas.List.Elements.{All-append, All-cons, All-contains, All-from_recursion, All-head, All-nil, All-tail}
use Rattle.std.proofs.lemmas.List.Folds.{list_any_at}
use Rattle.std.proofs.lemmas.List.Kept.{AllPairs-cons}
use Rattle.std.proofs.lemmas.Map.Views.{Contains-from_any}
use Rattle.jack_meaning.specs.Text.{End, Function, Program, Subroutine}
use Rattle.jack_meaning.specs.Meaning.{subroutine_at}
use Rattle.jack_meaning.specs.Linked.{IsLinked, called, init, text_calls}
use Rattle.tower.specs.Budget.{IsBudget, subroutine_words, words_at}

-- of a subroutine: what its text calls, and how many words it has
abbrev pub Row : Type 0
Row = List ℕ × ℕ

abbrev row : Subroutine → Row
row s = (text_calls s.body, subroutine_words s)

abbrev pub rows : Program → List Row
rows p = map row p.subroutines

abbrev nothing : Subroutine
nothing = record { kind = Function; class = 0; arguments = 0; locals = 0; body = End }

abbrev pub row_at : List Row → ℕ → Row
row_at t g = get_or t g (row nothing)

abbrev pub is_in : List ℕ → ℕ → Bool
is_in gs g = list_any (λ h. g == h) gs

-- what a number brings that was found before, or not
abbrev pub brings : Bool → List ℕ → List ℕ
brings true gs = []
brings false gs = gs

abbrev pub entered : Bool → ℕ → List ℕ → List ℕ
entered true g fs = fs
entered false g fs = g ∷ fs

-- what is found from these on, in this many steps
abbrev pub search : ℕ → List Row → List ℕ → List ℕ → List ℕ
search zero t todo fs = fs
search (suc n) t [] fs = fs
search (suc n) t (g ∷ todo) fs = search n t (brings (is_in fs g) (row_at t g).0 ++ todo) (entered (is_in fs g) g fs)

abbrev pub every : (ℕ → Bool) → List ℕ → Bool
every test [] = true
every test (x ∷ xs) = test x && every test xs

abbrev are_apart : List ℕ → Bool
are_apart [] = true
are_apart (x ∷ xs) = not (is_in xs x) && are_apart xs

abbrev sum_of : List Row → List ℕ → ℕ
sum_of t fs = 256 + sum_by (λ g. (row_at t g).1) fs

abbrev is_right : List Row → ℕ → ℕ → List ℕ → Bool
is_right t first words fs = is_in fs first && (every (λ g. every (is_in fs) (row_at t g).0) fs && (are_apart fs && (words == sum_of t fs)))

abbrev by_rows : ℕ → List Row → ℕ → ℕ → Bool
by_rows n t first words = is_right t first words (search n t (first ∷ []) [])

-- the budget is this many words
abbrev pub has_budget : ℕ → Program → ℕ → Bool
has_budget n p words = by_rows n (rows p) p.init words

-- numbers of subroutines from this one on are all there
abbrev covers : List ℕ → ℕ → List Subroutine → Bool
covers fs at [] = true
covers fs at (s ∷ ss) = is_in fs at && covers fs (suc at) ss

abbrev covers_rest : List Subroutine → List ℕ → Bool
covers_rest subs fs = covers fs 1 (drop 1 subs)

-- each but the first is found
abbrev pub has_all : ℕ → Program → Bool
has_all n p = covers_rest p.subroutines (search n (rows p) (p.init ∷ []) [])

-- ---- tests

pub in_list : (xs : List ℕ) (x : ℕ) → is_in xs x ≡ true → Contains xs x
in_list xs x h = Contains-from_any {eq = λ a b. a == b} (λ a b. (Decides-eqb a b).0) x xs h

pub is_there : (xs : List ℕ) (x : ℕ) → Contains xs x → is_in xs x ≡ true
is_there xs x (k, near, here) = list_any_at (λ h. x == h) xs k x near ((Decides-eqb x (get_or xs k x)).1 (sym here))

every_by : (test : ℕ → Bool) (xs : List ℕ) → every test xs ≡ true → AllByRecursion (λ x. test x ≡ true) xs
every_by test [] h = tt
every_by test (x ∷ xs) h = let p = and_parts (test x) (every test xs) h in (p.0, every_by test xs p.1)

pub every_at : (test : ℕ → Bool) (xs : List ℕ) → every test xs ≡ true → (x : ℕ) → Contains xs x → test x ≡ true
every_at test xs h x c = All-contains (λ y. test y ≡ true) xs x (All-from_recursion (λ y. test y ≡ true) xs (every_by test xs h)) c

pub never : (b : Bool) → not b ≡ true → b ≡ true → ⊥
never true h e = absurd cc
never false h e = absurd cc

once : (xs : List ℕ) → are_apart xs ≡ true → AllPairs (λ g h. g ≢ h) xs
once [] h = λ i j d before near. absurd (omega arith)
once (x ∷ xs) h =
    let p = and_parts (not (is_in xs x)) (are_apart xs) h in
    AllPairs-cons (λ g k. g ≢ k) x xs
    (λ k d near e. never (is_in xs x) p.0 (is_there xs x (k, near, get_or_default xs k x d near ∙ sym e)))
    (once xs p.1)

-- ---- a property that goes from a number to what it brings

module _ (t : List Row) (P : ℕ → Type 0) (goes_on : (g : ℕ) → P g → All P (row_at t g).0) where
  brings_all : (b : Bool) (gs : List ℕ) → All P gs → All P (brings b gs)
  brings_all true gs h = All-nil P
  brings_all false gs h = h

  entered_all : (b : Bool) (g : ℕ) (fs : List ℕ) → P g → All P fs → All P (entered b g fs)
  entered_all true g fs l h = h
  entered_all false g fs l h = All-cons P g fs l h

  -- is had by all that is found
  pub found_all : (n : ℕ) (todo fs : List ℕ) → All P todo → All P fs → All P (search n t todo fs)
  found_all zero todo fs h k = k
  found_all (suc n) [] fs h k = k
  found_all (suc n) (g ∷ todo) fs h k =
      let b = is_in fs g in
      let l = All-head P g todo h in
      let cs = (row_at t g).0 in
      found_all n (brings b cs ++ todo) (entered b g fs) (All-append P (brings b cs) todo (brings_all b cs (goes_on g l)) (All-tail P g todo h)) (entered_all b g fs l k)

-- ---- what is found is linked, and all that is linked

module _ (p : Program) where
  abbrev calls_of : ℕ → List ℕ
  calls_of g = text_calls (subroutine_at p.subroutines g).body

  row_is : (g : ℕ) → row_at (rows p) g ≡ (calls_of g, words_at p g)
  row_is g = get_or-map row p.subroutines g nothing

  calls_linked : (g : ℕ) → IsLinked p g → All (IsLinked p) (row_at (rows p) g).0
  calls_linked g l =
      subst (λ (r : Row). All (IsLinked p) r.0) (sym (row_is g))
      (λ k d near. called l (k, near, get_or_default (calls_of g) k (get_or (calls_of g) k d) d near))

  module _ (fs : List ℕ) (first : is_in fs p.init ≡ true) (closed : every (λ g. every (is_in fs) (row_at (rows p) g).0) fs ≡ true) where
    all_found : {g : ℕ} → IsLinked p g → Contains fs g
    all_found init = in_list fs p.init first
    all_found (called {g} {h} l c) =
        let inner = every_at (λ x. every (is_in fs) (row_at (rows p) x).0) fs closed g (all_found l) in
        in_list fs h (every_at (is_in fs) (row_at (rows p) g).0 inner h (subst (λ (r : Row). Contains r.0 h) (sym (row_is g)) c))

  by_found : (words : ℕ) (fs : List ℕ) → All (IsLinked p) fs → is_right (rows p) p.init words fs ≡ true → IsBudget p words
  by_found words fs linked h =
      let a = and_parts (is_in fs p.init) (every (λ g. every (is_in fs) (row_at (rows p) g).0) fs && (are_apart fs && (words == sum_of (rows p) fs))) h in
      let b = and_parts (every (λ g. every (is_in fs) (row_at (rows p) g).0) fs) (are_apart fs && (words == sum_of (rows p) fs)) a.1 in
      let c = and_parts (are_apart fs) (words == sum_of (rows p) fs) b.1 in
      record {
        linked = fs;
        all = λ g l. all_found fs a.0 b.0 l;
        only = λ g c. All-contains (IsLinked p) fs g linked c;
        once = once fs c.0;
        sum = (Decides-eqb words (sum_of (rows p) fs)).0 c.1 ∙ ap (λ (w : ℕ → ℕ). 256 + sum_by w fs) (λ i g. (row_is g i).1);
      }

  pub budget : (n words : ℕ) → has_budget n p words ≡ true → IsBudget p words
  budget n words h =
      by_found words (search n (rows p) (p.init ∷ []) [])
      (found_all (rows p) (IsLinked p) calls_linked n (p.init ∷ []) [] (All-cons (IsLinked p) p.init [] init (All-nil (IsLinked p))) (All-nil (IsLinked p))) h

  -- ---- every subroutine after the first

  covered_at : (fs : List ℕ) (at : ℕ) (ss : List Subroutine) → covers fs at ss ≡ true → (k : ℕ) → k < length ss → is_in fs (at + k) ≡ true
  covered_at fs at [] h k near = absurd (omega (arith, near))
  covered_at fs at (s ∷ ss) h zero near = let z : at ≡ at + 0 = omega arith in subst (λ (j : ℕ). is_in fs j ≡ true) z (and_parts (is_in fs at) (covers fs (suc at) ss) h).0
  covered_at fs at (s ∷ ss) h (suc k) near =
      let z : suc at + k ≡ at + suc k = omega arith in
      subst (λ (j : ℕ). is_in fs j ≡ true) z (covered_at fs (suc at) ss (and_parts (is_in fs at) (covers fs (suc at) ss) h).1 k (omega (arith, near)))

  pub covered : (n : ℕ) (s : Subroutine) (ss : List Subroutine) → p.subroutines ≡ s ∷ ss → has_all n p ≡ true → (g : ℕ) → 0 < g → g < length p.subroutines → IsLinked p g
  covered n s ss e h zero low high = absurd (omega (arith, low))
  covered n s ss e h (suc k) low high =
      let fs = search n (rows p) (p.init ∷ []) [] in
      let near : k < length ss = omega (arith, high, ap length e) in
      let there : covers fs 1 ss ≡ true = ap (λ l. covers fs 1 (drop 1 l)) (sym e) ∙ h in
      let z : 1 + k ≡ suc k = omega arith in
      let linked = found_all (rows p) (IsLinked p) calls_linked n (p.init ∷ []) [] (All-cons (IsLinked p) p.init [] init (All-nil (IsLinked p))) (All-nil (IsLinked p)) in
      All-contains (IsLinked p) fs (suc k) linked (in_list fs (suc k) (subst (λ (j : ℕ). is_in fs j ≡ true) z (covered_at fs 1 ss there k near)))
