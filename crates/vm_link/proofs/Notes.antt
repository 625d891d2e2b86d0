-- A map after a name is noted, and names that stand twice.
use Rattle.std.proofs.Common.{◌≡◌, ℕ, ◌+◌, ◌||◌, Bool, true, false, List, [], ◌∷◌, Option, Some, None, is_some, cond, refl, sym, ap, ◌∙◌, if◌then◌else◌}
use Rattle.std.specs.Option.{option_or}
use Rattle.std.specs.Str.{bytes_eq}
use Rattle.std.specs.List.{list_any, position_from, cons_option}
use Rattle.std.proofs.lemmas.Slice.Eq.{bytes_eq-Decides}
use Rattle.vm_link.specs.Inner.Maps.{Numbers, number}
use Rattle.vm_link.specs.Sections.{stands_in, has_name, label, labels}
use Rattle.vm_link.specs.Resolved.{label_place, steps}
use Rattle.vm_link.specs.Faults.{first_of, lacking}
use Rattle.vm_tree.specs.declared.command.Line.{Line}

pub or_none : {A : Type 0} (o : Option A) → option_or o None ≡ o
or_none None = refl
or_none (Some x) = refl

pub bytes_eq-sym : (xs ys : List ℕ) → bytes_eq xs ys ≡ bytes_eq ys xs
bytes_eq-sym xs ys = by_cases (bytes_eq xs ys) (bytes_eq ys xs) (λ h. (bytes_eq-Decides ys xs).1 (sym ((bytes_eq-Decides xs ys).0 h))) (λ h. (bytes_eq-Decides xs ys).1 (sym ((bytes_eq-Decides ys xs).0 h)))
  where
    by_cases : (a b : Bool) → (a ≡ true → b ≡ true) → (b ≡ true → a ≡ true) → a ≡ b
    by_cases true b f g = sym (f refl)
    by_cases false true f g = g refl
    by_cases false false f g = refl

noted_at : (b : Bool) (old : Option ℕ) (v : ℕ) → (b ≡ true → old ≡ None) → cond b (Some v) old ≡ option_or old (if b then Some v else None)
noted_at true old v h = let e = h refl in rw e refl
noted_at false old v h = sym (or_none old)

none_from : (o : Option ℕ) → is_some o ≡ false → o ≡ None
none_from None e = refl
none_from (Some x) e = absurd cc

-- the numbers of all names after a new name is noted
pub noted : (m : Numbers) (name q : List ℕ) (v : ℕ) → is_some (number m name) ≡ false
    → cond (bytes_eq name q) (Some v) (number m q) ≡ option_or (number m q) (if bytes_eq q name then Some v else None)
noted m name q v absent =
    let e : number m name ≡ None = none_from _ absent in
    rw (bytes_eq-sym q name) (noted_at (bytes_eq name q) (number m q) v
    (λ same. let eq : name ≡ q = (bytes_eq-Decides name q).0 same in ap (number m) (sym eq) ∙ e))

-- and after one that is there
pub kept_number : (m : Numbers) (name q : List ℕ) (v : ℕ) → is_some (number m name) ≡ true
    → number m q ≡ option_or (number m q) (if bytes_eq q name then Some v else None)
kept_number m name q v there = at (bytes_eq q name) (number m q) (λ same. let eq : q ≡ name = (bytes_eq-Decides q name).0 same in ap (λ n. is_some (number m n)) eq ∙ there)
  where
    at : (b : Bool) (o : Option ℕ) → (b ≡ true → is_some o ≡ true) → o ≡ option_or o (if b then Some v else None)
    at true None h = absurd (let e : is_some {T = ℕ} None ≡ true = h refl in cc)
    at true (Some x) h = refl
    at false o h = sym (or_none o)

-- a noted name is found before what comes later
pub or_step : {A : Type 0} (o : Option A) (b : Bool) (v : A) (r : Option A) → option_or (option_or o (if b then Some v else None)) r ≡ option_or o (cond b (Some v) r)
or_step (Some x) b v r = refl
or_step None true v r = refl
or_step None false v r = refl

some_if : (b : Bool) (at : ℕ) (o : Option ℕ) (r : Bool) → is_some o ≡ r → is_some (if b then Some at else o) ≡ (b || r)
some_if true at o r h = refl
some_if false at o r h = h

place_by : (q : List ℕ) (at : ℕ) (l : Option (List ℕ)) (o : Option ℕ) (ls : List (List ℕ)) → is_some o ≡ stands_in ls q
    → is_some (if has_name q l then Some at else o) ≡ stands_in (cons_option l ls) q
place_by q at None o ls h = h
place_by q at (Some own) o ls h = some_if (bytes_eq q own) at o (stands_in ls q) h

-- a label has a place exactly where it stands among the labels
pub place_there : (q : List ℕ) (at : ℕ) (lines : List Line) → is_some (label_place q at lines) ≡ stands_in (labels lines) q
place_there q at [] = refl
place_there q at (x ∷ xs) = place_by q at (label x.command) (label_place q (at + steps x.command) xs) (labels xs) (place_there q (at + steps x.command) xs)

-- a place is found exactly where one passes
pub position_there : {A : Type 0} (p : A → Bool) (i : ℕ) (xs : List A) → is_some (position_from p i xs) ≡ list_any p xs
position_there p i [] = refl
position_there p i (x ∷ xs) = some_if (p x) i (position_from p (i + 1) xs) (list_any p xs) (position_there p (i + 1) xs)

-- what is lacking is known by what is there
pub lacking_same : (f g : List ℕ → Bool) (o : Option (List ℕ)) → ((n : List ℕ) → f n ≡ g n) → lacking f o ≡ lacking g o
lacking_same f g None h = refl
lacking_same f g (Some n) h = rw (h n) refl

pub first_lacking : {A : Type 0} (name : A → Option (List ℕ)) (f g : List ℕ → Bool) (xs : List A) → ((n : List ℕ) → f n ≡ g n)
    → first_of (λ x. lacking f (name x)) xs ≡ first_of (λ x. lacking g (name x)) xs
first_lacking name f g [] h = refl
first_lacking name f g (x ∷ xs) h = ap (λ o. option_or o (first_of (λ x. lacking f (name x)) xs)) (lacking_same f g (name x) h) ∙ ap (option_or (lacking g (name x))) (first_lacking name f g xs h)
