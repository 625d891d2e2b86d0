-- What linking keeps of a program's sections, and its static words.
use Rattle.std.proofs.Common.{◌≡◌, ◌+◌, ◌-◌, ◌^◌, ◌<◌, ◌≤◌, inl, inr, ℕ, zero, suc, Bool, true, false, cond, nat_eq, nat_lt, List, [], ◌∷◌, Option, Some, None, is_some, max, min, refl, sym, ap, subst, ◌∙◌, arith, slice_get}
use Rattle.std.specs.List.{list_any, position_from}
use Rattle.std.specs.Option.{option_or}
use Rattle.std.proofs.lemmas.Bool.{or_left, or_right, eq-eqb, cases_eq}
use Rattle.vm_link.specs.declared.fault.LinkFault.{LinkFault}
use Rattle.vm_link.specs.declared.fault.LinkFault.TheVariants.{TooManyStatics}
use Rattle.vm_link.specs.Sections.{Section, is_named, calls, stands_in}
use Rattle.vm_link.specs.Faults.{sys_init, first_of, words_before, file_words, words_of_lines, too_many}
use Rattle.vm_link.specs.Reached.{Reached, Keeps, none, kept, dropped, IsFunction, start, called}
use Rattle.vm_link.proofs.Notes.{position_there}

some_same : {A : Type 0} {x y : A} → Some x ≡ Some y → x ≡ y
some_same {A} {x} {y} e = cc

pub position_item : {A : Type 0} (p : A → Bool) (at : ℕ) (xs : List A) (i : ℕ) → position_from p at xs ≡ Some i
    → (j : ℕ) × (i ≡ at + j) × ((x : A) × (slice_get xs j ≡ Some x) × (p x ≡ true))
position_item p at [] i e = absurd cc
position_item {A} p at (x ∷ xs) i e = by_test (p x) refl e (λ f. position_item p (at + 1) xs i f)
  where
    by_test : (b : Bool) → p x ≡ b → cond b (Some at) (position_from p (at + 1) xs) ≡ Some i
        → (position_from p (at + 1) xs ≡ Some i → (j : ℕ) × (i ≡ at + 1 + j) × ((y : A) × (slice_get xs j ≡ Some y) × (p y ≡ true)))
        → (j : ℕ) × (i ≡ at + j) × ((y : A) × (slice_get (x ∷ xs) j ≡ Some y) × (p y ≡ true))
    by_test true t f go = let same : at ≡ i = some_same f in (0, omega arith, (x, refl, t))
    by_test false t f go = let r = go f in let e = r.1 in (suc r.0, omega arith, r.2)

some_of : {A : Type 0} (o : Option A) → is_some o ≡ true → (x : A) × (o ≡ Some x)
some_of None e = absurd cc
some_of (Some x) e = (x, refl)

-- the first item that passes a test
pub record Found {A : Type 0} (p : A → Bool) (xs : List A) : Type 0 where
  pub at : ℕ
  pub item : A
  pub position : position_from p 0 xs ≡ Some at
  pub there : slice_get xs at ≡ Some item
  pub passes : p item ≡ true

pub found : {A : Type 0} (p : A → Bool) (xs : List A) → list_any p xs ≡ true → Found p xs
found p xs h =
    let o = some_of (position_from p 0 xs) (position_there p 0 xs ∙ h) in
    let item = position_item p 0 xs o.0 o.1 in
    let e = item.1 in
    record {
      at = item.0;
      item = item.2.0;
      position = o.1 ∙ ap Some (let z : o.0 ≡ item.0 = omega arith in z);
      there = item.2.1;
      passes = item.2.2;
    }

pub any_at : {A : Type 0} (p : A → Bool) (xs : List A) (i : ℕ) (x : A) → slice_get xs i ≡ Some x → p x ≡ true → list_any p xs ≡ true
any_at p [] i x e h = absurd cc
any_at p (y ∷ ys) zero x e h = let same : y ≡ x = some_same e in or_left (p y) (list_any p ys) (ap p same ∙ h)
any_at p (y ∷ ys) (suc i) x e h = or_right (p y) (list_any p ys) (any_at p ys i x e h)

keeps_has : (P : ℕ → Type 0) {at : ℕ} {ss ks : List Section} → Keeps P at ss ks → (j : ℕ) (s : Section) (q : Section → Bool) → slice_get ss j ≡ Some s → P (at + j) → q s ≡ true
    → list_any q ks ≡ true
keeps_has P none j s q e h t = absurd cc
keeps_has P (kept {s = s'} {ks = ks} p r) zero s q e h t = let same : s' ≡ s = some_same e in or_left (q s') (list_any q ks) (ap q same ∙ t)
keeps_has P (kept {i = at} {s = s'} {ks = ks} p r) (suc j) s q e h t = or_right (q s') (list_any q ks) (keeps_has P r j s q e (let z : at + suc j ≡ suc at + j = omega arith in subst P z h) t)
keeps_has P (dropped {i = at} p r) zero s q e h t = absurd (p (let z : at + 0 ≡ at = omega arith in subst P z h))
keeps_has P (dropped {i = at} p r) (suc j) s q e h t = keeps_has P r j s q e (let z : at + suc j ≡ suc at + j = omega arith in subst P z h) t

pub keeps_from : (P : ℕ → Type 0) {at : ℕ} {ss ks : List Section} → Keeps P at ss ks → (i : ℕ) (s : Section) → slice_get ks i ≡ Some s → (j : ℕ) × (slice_get ss j ≡ Some s) × P (at + j)
keeps_from P none i s e = absurd cc
keeps_from P (kept {i = at} p r) zero s e = (0, e, (let z : at ≡ at + 0 = omega arith in subst P z p))
keeps_from P (kept {i = at} p r) (suc i) s e = let f = keeps_from P r i s e in (suc f.0, f.1, (let z : suc at + f.0 ≡ at + suc f.0 = omega arith in subst P z f.2))
keeps_from P (dropped {i = at} p r) i s e = let f = keeps_from P r i s e in (suc f.0, f.1, (let z : suc at + f.0 ≡ at + suc f.0 = omega arith in subst P z f.2))

-- no section is kept twice, where they are numbered
pub keeps_once : (P : ℕ → Type 0) {at : ℕ} {ss ks : List Section} → Keeps P at ss ks → ((k : ℕ) (s : Section) → slice_get ss k ≡ Some s → s.number ≡ 1 + at + k)
    → (i j : ℕ) (s t : Section) → slice_get ks i ≡ Some s → slice_get ks j ≡ Some t → s.number ≡ t.number → i ≡ j
keeps_once P none numbers i j s t a b e = absurd cc
keeps_once P (kept {i = at} p r) numbers zero zero s t a b e = refl
keeps_once P (kept {i = at} p r) numbers zero (suc j) s t a b e =
    let f = keeps_from P r j t b in let n = numbers 0 s a in let m = numbers (suc f.0) t f.1 in absurd (omega arith)
keeps_once P (kept {i = at} p r) numbers (suc i) zero s t a b e =
    let f = keeps_from P r i s a in let n = numbers 0 t b in let m = numbers (suc f.0) s f.1 in absurd (omega arith)
keeps_once P (kept {i = at} p r) numbers (suc i) (suc j) s t a b e = ap suc (keeps_once P r (λ k x f. let n = numbers (suc k) x f in omega arith) i j s t a b e)
keeps_once P (dropped {i = at} p r) numbers i j s t a b e = keeps_once P r (λ k x f. let n = numbers (suc k) x f in omega arith) i j s t a b e

-- a reached function of a name is kept
reached_kept : (ss ks : List Section) → Keeps (Reached ss) 0 ss ks → (name : List ℕ) (i : ℕ) → IsFunction ss name i → Reached ss i → list_any (is_named name) ks ≡ true
reached_kept ss ks k name i f r =
    let item = position_item (is_named name) 0 ss i f in
    let e = item.1 in
    keeps_has (Reached ss) k item.0 item.2.0 (is_named name) item.2.1 (subst (Reached ss) e r) item.2.2

-- what a kept section calls is kept
pub closed : (ss ks : List Section) → Keeps (Reached ss) 0 ss ks → (i : ℕ) (s : Section) → slice_get ks i ≡ Some s
    → (f : List ℕ) → stands_in (calls s.lines) f ≡ true → list_any (is_named f) ss ≡ true → list_any (is_named f) ks ≡ true
closed ss ks k i s e f c h =
    let from = keeps_from (Reached ss) k i s e in
    let j = some_of (position_from (is_named f) 0 ss) (position_there (is_named f) 0 ss ∙ h) in
    let z : 0 + from.0 ≡ from.0 = omega arith in
    reached_kept ss ks k f j.0 j.1 (called s f (subst (Reached ss) z from.2) from.1 c j.1)

pub start_kept : (ss ks : List Section) → Keeps (Reached ss) 0 ss ks → list_any (is_named sys_init) ss ≡ true → list_any (is_named sys_init) ks ≡ true
start_kept ss ks k h =
    let j = some_of (position_from (is_named sys_init) 0 ss) (position_there (is_named sys_init) 0 ss ∙ h) in
    reached_kept ss ks k sys_init j.0 j.1 (start j.1)

pub first_none : {A : Type 0} (f : A → Option (List ℕ)) (xs : List A) → ((i : ℕ) (x : A) → slice_get xs i ≡ Some x → f x ≡ None) → first_of f xs ≡ None
first_none f [] h = refl
first_none f (x ∷ xs) h = ap (λ o. option_or o (first_of f xs)) (h 0 x refl) ∙ first_none f xs (λ i y e. h (suc i) y e)

-- a section's statics are among its file's
pub words_within : (ss : List Section) (i : ℕ) (s : Section) → slice_get ss i ≡ Some s → words_of_lines s.lines ≤ file_words ss s.file
words_within [] i s e = absurd cc
words_within (t ∷ ss) zero s e =
    let same : t ≡ s = cc in
    subst (λ z. words_of_lines z.lines ≤ file_words (t ∷ ss) z.file) same (rw (eq-eqb t.file t.file refl) (omega arith))
words_within (t ∷ ss) (suc i) s e = by_test (nat_eq t.file s.file) (words_within ss i s e)
  where
    by_test : (b : Bool) → words_of_lines s.lines ≤ file_words ss s.file → words_of_lines s.lines ≤ cond b (max (words_of_lines t.lines) (file_words ss s.file)) (file_words ss s.file)
    by_test true h = omega arith
    by_test false h = h

pub words_rise : (ss : List Section) (k n : ℕ) → k < n → words_before ss k + file_words ss k ≤ words_before ss n
words_rise ss k zero h = absurd (omega arith)
words_rise ss k (suc n) h = elim (cases_eq k n) [
  | inl same ↦ subst (λ z. words_before ss z + file_words ss z ≤ words_before ss (suc n)) (sym same) (omega arith)
  | inr other ↦ (let ih = words_rise ss k n (omega arith) in omega arith)
]

-- the only fault of static words
pub only_statics : (n : ℕ) (o : Option LinkFault) (f : LinkFault) → o ≡ None → option_or o (too_many n) ≡ Some f → (m : ℕ) × (f ≡ TooManyStatics m)
only_statics n None f e h = by_test (nat_lt 240 n) h
  where
    by_test : (b : Bool) → cond b (Some (TooManyStatics (min n (2 ^ 64 - 1)))) None ≡ Some f → (m : ℕ) × (f ≡ TooManyStatics m)
    by_test true e = (min n (2 ^ 64 - 1), sym (some_same e))
    by_test false e = absurd cc
only_statics n (Some x) f e h = absurd cc
