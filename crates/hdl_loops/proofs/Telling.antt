-- Names that are reported one after another, each once.
use Rattle.std.proofs.Common.{◌≡◌, ℕ, Bool, true, false, ◌||◌, List, [], ◌∷◌, ◌++◌, refl, sym, ap, ap₂, ◌∙◌, append_assoc, append-nil}
use Rattle.std.specs.Prelude.{if◌then◌else◌}
use Rattle.std.specs.Str.{bytes_eq}
use Rattle.std.specs.Cmp.Lexicographic.{bytes_decides}
use Rattle.hdl_tree.specs.Writable.{is_among}
use Rattle.hdl_check.proofs.MarkLemmas.{or_assoc, or_false}
use Rattle.hdl_plans.specs.Loops.{once_more}
use Rattle.hdl_loops.specs.Inner.Report.{add_name, add_names, AllAmong}

abbrev Names : Type 0
Names = List (List ℕ)

among_append : (x : List ℕ) (xs ys : Names) → is_among x (xs ++ ys) ≡ (is_among x xs || is_among x ys)
among_append x [] ys = refl
among_append x (w ∷ xs) ys = ap (λ v. bytes_eq x w || v) (among_append x xs ys) ∙ sym (or_assoc (bytes_eq x w) (is_among x xs) (is_among x ys))

or_swap : (a b : Bool) → (a || b) ≡ (b || a)
or_swap true true = refl
or_swap true false = refl
or_swap false true = refl
or_swap false false = refl

told_step : (told seen xs : Names) (x : List ℕ) (s t : Bool) → is_among x told ≡ s → is_among x seen ≡ t → ((y : List ℕ) → is_among y told ≡ is_among y seen) →
    ((more seen_more : Names) → ((y : List ℕ) → is_among y more ≡ is_among y seen_more) → add_names more xs ≡ more ++ once_more seen_more xs) →
    add_names (if s then told else told ++ x ∷ []) xs ≡ told ++ (if t then once_more seen xs else x ∷ once_more (x ∷ seen) xs)
told_step told seen xs x true true e f same rest = rest told seen same
told_step told seen xs x false false e f same rest =
    rest (told ++ x ∷ []) (x ∷ seen)
    (λ y. among_append y told (x ∷ []) ∙ (ap₂ (λ (s t : Bool). s || t) (same y) (or_false (bytes_eq y x)) ∙ or_swap (is_among y seen) (bytes_eq y x)))
    ∙ append_assoc told (x ∷ []) (once_more (x ∷ seen) xs)
told_step told seen xs x true false e f same rest = absurd (let h : true ≡ false = sym e ∙ (same x ∙ f) in cc)
told_step told seen xs x false true e f same rest = absurd (let h : false ≡ true = sym e ∙ (same x ∙ f) in cc)

-- what is reported is what was reported, and then what is not among it
told_once : (xs told seen : Names) → ((y : List ℕ) → is_among y told ≡ is_among y seen) → add_names told xs ≡ told ++ once_more seen xs
told_once [] told seen same = sym (append-nil told)
told_once (x ∷ xs) told seen same = told_step told seen xs x (is_among x told) (is_among x seen) refl refl same (told_once xs)

pub told_all : (xs : Names) → add_names [] xs ≡ once_more [] xs
told_all xs = told_once xs [] [] (λ y. refl)

pub told_append : (xs told ys : Names) → add_names told (xs ++ ys) ≡ add_names (add_names told xs) ys
told_append [] told ys = refl
told_append (x ∷ xs) told ys = told_append xs (add_name told x) ys

-- what is reported stays

stays_one : (x y : List ℕ) (told : Names) → is_among x told ≡ true → is_among x (add_name told y) ≡ true
stays_one x y told h = by (is_among y told)
  where
    by : (b : Bool) → is_among x (if b then told else told ++ y ∷ []) ≡ true
    by true = h
    by false = among_append x told (y ∷ []) ∙ ap (λ (v : Bool). v || is_among x (y ∷ [])) h

stays_told : (x : List ℕ) (ys told : Names) → is_among x told ≡ true → is_among x (add_names told ys) ≡ true
stays_told x [] told h = h
stays_told x (y ∷ ys) told h = stays_told x ys (add_name told y) (stays_one x y told h)

pub all_stay : (xs told ys : Names) → AllAmong xs told → AllAmong xs (add_names told ys)
all_stay [] told ys h = tt
all_stay (x ∷ xs) told ys h = (stays_told x ys told h.0, all_stay xs told ys h.1)

now_one : (x : List ℕ) (told : Names) → is_among x (add_name told x) ≡ true
now_one x told = by (is_among x told) refl
  where
    by : (b : Bool) → is_among x told ≡ b → is_among x (if b then told else told ++ x ∷ []) ≡ true
    by true e = e
    by false e = among_append x told (x ∷ []) ∙ ap₂ (λ (s t : Bool). s || (t || false)) e ((bytes_decides x x).1 refl)

pub now_told : (xs told : Names) → AllAmong xs (add_names told xs)
now_told [] told = tt
now_told (x ∷ xs) told = (stays_told x xs (add_name told x) (now_one x told), now_told xs (add_name told x))

-- what is reported is not reported again
pub told_before : (xs told : Names) → AllAmong xs told → add_names told xs ≡ told
told_before [] told h = refl
told_before (x ∷ xs) told h = ap (λ (b : Bool). add_names (if b then told else told ++ x ∷ []) xs) h.0 ∙ told_before xs told h.1
