-- A place is at the end of the code where nothing stands after it.
use Rattle.std.proofs.Common.{◌≡◌, ◌+◌, ◌-◌, ◌<◌, ◌≤◌, ◌⊎◌, ◌||◌, ◌&&◌, ℕ, zero, suc, Bool, true, false, List, [], ◌∷◌, length, get_or, take, drop, nat_eq, unwrap_or, if◌then◌else◌, refl, sym, ap, ◌∙◌, arith, add-one, inl, inr}
use Rattle.std.specs.Prelude.{not}
use Rattle.std.specs.List.{list_any}
use Rattle.std.proofs.lemmas.Bool.{or_left, cases_lt, cases_order, cases_eq, eq-eqb, ne_eqb, le-leb, lt-leb}
use Rattle.std.proofs.lemmas.List.{length-take-le}
use Rattle.std.proofs.lemmas.List.Folds.{list_any-append}
use Rattle.vm_link.specs.declared.linked.Step.{Step}
use Rattle.vm_link.specs.declared.linked.Step.TheVariants as step
use Rattle.vm_link.specs.declared.linked.Code.{Code}
use Rattle.vm_link.specs.declared.linked.LinkedFunction.{LinkedFunction}
use Rattle.vm_translator.specs.Shapes.{step_size}
use Rattle.vm_translator.specs.Places.{words_of, words_in, code_at, address, named_symbol, placed_code, placed_from, base_of}
use Rattle.vm_link.specs.declared.linked.Linked.{Linked}
use Rattle.vm_translator.specs.Image.{names, names_end}
use Rattle.vm_translator.specs.Tables.{IsFilled, is_end, step_names_end, code_names_end, functions_name_end}
use Rattle.vm_translator.proofs.Sums.{words_some, words_all, words_parts, words_less, words_in_parts, words_in_take, address_next}

pub rest_none : (fs : List LinkedFunction) (k : ℕ) → ((j : ℕ) → k ≤ j → code_at fs j ≡ []) → words_in (drop k fs) ≡ 0
rest_none [] zero h = refl
rest_none [] (suc k) h = refl
rest_none (f ∷ fs) zero h =
    let e = ap words_of (h zero (omega arith)) in
    let r : words_in fs ≡ 0 = rest_none fs zero (λ j l. h (suc j) (omega arith)) in
    omega arith
rest_none (f ∷ fs) (suc k) h = rest_none fs k (λ j l. h (suc j) (omega arith))

pub rest_some : (fs : List LinkedFunction) (k j : ℕ) → k ≤ j → 0 < length (code_at fs j) → 0 < words_in (drop k fs)
rest_some [] k zero l h = absurd (omega arith)
rest_some [] k (suc j) l h = absurd (omega arith)
rest_some (f ∷ fs) zero zero l h = let s = words_some f.code h in omega arith
rest_some (f ∷ fs) zero (suc j) l h = let r : 0 < words_in fs = rest_some fs zero j (omega arith) h in omega arith
rest_some (f ∷ fs) (suc k) zero l h = absurd (omega arith)
rest_some (f ∷ fs) (suc k) (suc j) l h = rest_some fs k j (omega arith) h

⊎_by : {A B C : Type 0} → A ⊎ B → (A → C) → (B → C) → C
⊎_by (inl a) f g = f a
⊎_by (inr b) f g = g b

-- the place's address is that of the end, or a lower one
pub record AtEnd (base : ℕ) (fs : List LinkedFunction) (n k p : ℕ) : Type 0 where
  pub at : address base fs k p ≡ base + words_in fs
  pub is : is_end n fs k p ≡ true

pub record Before (base : ℕ) (fs : List LinkedFunction) (n k p : ℕ) : Type 0 where
  pub at : address base fs k p < base + words_in fs
  pub is : is_end n fs k p ≡ false

pub side : (base : ℕ) (fs : List LinkedFunction) (n k p : ℕ) → IsFilled fs n → AtEnd base fs n k p ⊎ Before base fs n k p
side base fs n k p f = ⊎_by (cases_lt k n) below above
  where
    whole : words_in fs ≡ words_in (take k fs) + (words_of (code_at fs k) + words_in (drop (suc k) fs))
    whole = words_in_parts fs k

    parts : words_of (code_at fs k) ≡ words_of (take p (code_at fs k)) + words_of (drop p (code_at fs k))
    parts = words_parts (code_at fs k) p

    above : n ≤ k → AtEnd base fs n k p ⊎ Before base fs n k p
    above h =
        let e : words_of (code_at fs k) ≡ 0 = ap words_of (f.rest k h) in
        let r = rest_none fs (suc k) (λ j l. f.rest j (omega arith)) in
        inl (record { at = omega (arith, whole, parts); is = or_left _ _ (le-leb n k h) })

    last : k < n → k + 1 ≡ n → length (code_at fs k) ≤ p → AtEnd base fs n k p
    last h e l =
        let r = rest_none fs (suc k) (λ j l. f.rest j (omega arith)) in
        let w = words_all (code_at fs k) p l in
        record { at = omega (arith, whole, parts); is = rw (lt-leb n k h, eq-eqb (k + 1) n e, le-leb (length (code_at fs k)) p l) refl }

    inner : k < n → k + 1 ≡ n → p < length (code_at fs k) → Before base fs n k p
    inner h e l =
        let w = words_less (code_at fs k) p l in
        record { at = omega (arith, whole, parts); is = rw (lt-leb n k h, eq-eqb (k + 1) n e, lt-leb (length (code_at fs k)) p l) refl }

    outer : k < n → (k + 1 ≡ n → ⊥) → Before base fs n k p
    outer h e =
        let r = rest_some fs (suc k) (n - 1) (omega arith) (f.last (omega arith)) in
        record { at = omega (arith, whole, parts); is = rw (lt-leb n k h, ne_eqb (k + 1) n e) refl }

    below : k < n → AtEnd base fs n k p ⊎ Before base fs n k p
    below h = ⊎_by (cases_eq (k + 1) n)
        (λ e. ⊎_by (cases_lt p (length (code_at fs k))) (λ l. inr (inner h e l)) (λ l. inl (last h e l)))
        (λ e. inr (outer h e))

pub end_is : (base : ℕ) (fs : List LinkedFunction) (n k p : ℕ) → IsFilled fs n → nat_eq (base + words_in fs) (address base fs k p) ≡ is_end n fs k p
end_is base fs n k p f = ⊎_by (side base fs n k p f)
    (λ s. eq-eqb _ _ (sym s.at) ∙ sym s.is)
    (λ s. ne_eqb _ _ (λ e. let l = s.at in omega arith) ∙ sym s.is)

or_false : (b : Bool) → (b || false) ≡ b
or_false true = refl
or_false false = refl

module _ (base : ℕ) (fs : List LinkedFunction) (n : ℕ) (f : IsFilled fs n) where
  step_named : (k p next : ℕ) (s : Step) → next ≡ address base fs k p → list_any (nat_eq (base + words_in fs)) (named_symbol base fs k next s) ≡ step_names_end n fs k p s
  step_named k p next (step.Goto q) e = or_false _ ∙ end_is base fs n k q f
  step_named k p next (step.IfGoto q) e = or_false _ ∙ end_is base fs n k q f
  step_named k p next (step.Call g m) e = rw (e, end_is base fs n g 0 f, end_is base fs n k p f, or_false) refl
  step_named k p next (step.Operate o) e = refl
  step_named k p next (step.Push g i) e = refl
  step_named k p next (step.Pop g i) e = refl
  step_named k p next (step.Function m) e = refl
  step_named k p next step.Return e = refl

  code_named : (k sub p at : ℕ) (cs : List Code) → at ≡ address base fs k p → drop p (code_at fs k) ≡ cs
      → list_any (names base fs (base + words_in fs)) (placed_code k sub at cs) ≡ code_names_end n fs k p cs
  code_named k sub p at [] e d = refl
  code_named k sub p at (c ∷ cs) e d =
      let next : at + step_size c.step ≡ address base fs k (p + 1) = ap (λ z. z + step_size c.step) e ∙ sym (address_next base fs k p c cs d) in
      let first = step_named k (p + 1) (at + step_size c.step) c.step next in
      let rest = code_named k sub (p + 1) (at + step_size c.step) cs next (drop_next (code_at fs k) p c cs d) in
      rw (first, rest) refl
    where
      drop_next : (ds : List Code) (p : ℕ) (c : Code) (cs : List Code) → drop p ds ≡ c ∷ cs → drop (p + 1) ds ≡ cs
      drop_next ds p c cs e = rw (add-one) (tail ds p c cs e)
        where
          tail : (ds : List Code) (p : ℕ) (c : Code) (cs : List Code) → drop p ds ≡ c ∷ cs → drop (suc p) ds ≡ cs
          tail [] zero c cs e = cc
          tail [] (suc p) c cs e = cc
          tail (d ∷ ds) zero c cs e = cc
          tail (d ∷ ds) (suc p) c cs e = tail ds p c cs e

  functions_named : (k at : ℕ) (gs : List LinkedFunction) → at ≡ base + words_in (take k fs) → drop k fs ≡ gs
      → list_any (names base fs (base + words_in fs)) (placed_from k at gs) ≡ functions_name_end n fs k gs
  functions_named k at [] e d = refl
  functions_named k at (g ∷ gs) e d =
      let own : code_at fs k ≡ g.code = code_first fs k g gs d in
      let here : at ≡ address base fs k 0 = omega arith in
      let first = code_named k g.number 0 at g.code here own in
      let later : at + words_of g.code ≡ base + words_in (take (k + 1) fs) = let w = words_in_take fs k in let o = ap words_of own in omega arith in
      let rest = functions_named (k + 1) (at + words_of g.code) gs later (rw add-one (rest_of fs k g gs d)) in
      rw (list_any-append, first, rest) refl
    where
      code_first : (fs : List LinkedFunction) (k : ℕ) (g : LinkedFunction) (gs : List LinkedFunction) → drop k fs ≡ g ∷ gs → code_at fs k ≡ g.code
      code_first [] zero g gs e = cc
      code_first [] (suc k) g gs e = cc
      code_first (h ∷ hs) zero g gs e = let same : h ≡ g = cc in ap (λ z. z.code) same
      code_first (h ∷ hs) (suc k) g gs e = code_first hs k g gs e

      rest_of : (fs : List LinkedFunction) (k : ℕ) (g : LinkedFunction) (gs : List LinkedFunction) → drop k fs ≡ g ∷ gs → drop (suc k) fs ≡ gs
      rest_of [] zero g gs e = cc
      rest_of [] (suc k) g gs e = cc
      rest_of (h ∷ hs) zero g gs e = cc
      rest_of (h ∷ hs) (suc k) g gs e = rest_of hs k g gs e

  pub all_named : list_any (names base fs (base + words_in fs)) (placed_from 0 base fs) ≡ functions_name_end n fs 0 fs
  all_named = functions_named 0 base fs (omega arith) refl

-- what names the end of a program, where this many of its functions are filled
pub names_by : (l : Linked) (n : ℕ) → IsFilled l.functions n
    → names_end l ≡ ((not l.bare && is_end n l.functions (unwrap_or l.start 0) 0) || functions_name_end n l.functions 0 l.functions)
names_by l n f = rw (end_is (base_of l) l.functions n (unwrap_or l.start 0) 0 f, all_named (base_of l) l.functions n f) refl

-- a loop over functions: the first i of them are looked at
pub filled_none : (fs : List LinkedFunction) → IsFilled (take 0 fs) 0
filled_none fs = record { within = omega arith; rest = λ k l. refl; last = λ l. absurd (omega arith) }

code_taken : (fs : List LinkedFunction) (i k : ℕ) → k < i → code_at (take i fs) k ≡ code_at fs k
code_taken fs zero k h = absurd (omega arith)
code_taken [] (suc i) k h = refl
code_taken (f ∷ fs) (suc i) zero h = refl
code_taken (f ∷ fs) (suc i) (suc k) h = code_taken fs i k (omega arith)

code_past : (fs : List LinkedFunction) (k : ℕ) → length fs ≤ k → code_at fs k ≡ []
code_past [] k h = refl
code_past (f ∷ fs) zero h = absurd (omega arith)
code_past (f ∷ fs) (suc k) h = code_past fs k (omega arith)

code_read : (fs : List LinkedFunction) (i : ℕ) (f : LinkedFunction) → i < length fs → f ≡ get_or fs i f → code_at fs i ≡ f.code
code_read [] i f h e = absurd (omega arith)
code_read (g ∷ fs) zero f h e = let s : f ≡ g = e in ap (λ (z : LinkedFunction). z.code) (sym s)
code_read (g ∷ fs) (suc i) f h e = code_read fs i f (omega arith) e

-- one more function, with code or without
pub filled_some : (fs : List LinkedFunction) (i : ℕ) (f : LinkedFunction) → i < length fs → f ≡ get_or fs i f → 0 < length f.code → IsFilled (take (i + 1) fs) (i + 1)
filled_some fs i f h e s =
    let t = length-take-le (i + 1) fs (omega arith) in
    let c = code_taken fs (i + 1) i (omega arith) ∙ code_read fs i f h e in
    let n : (i + 1) - 1 ≡ i = omega arith in
    record {
      within = omega arith;
      rest = λ k l. code_past (take (i + 1) fs) k (omega arith);
      last = λ l. rw n (rw c s);
    }

pub filled_same : (fs : List LinkedFunction) (i n : ℕ) (f : LinkedFunction) → i < length fs → f ≡ get_or fs i f → length f.code ≡ 0 → IsFilled (take i fs) n
    → IsFilled (take (i + 1) fs) n
filled_same fs i n f h e s old =
    let t = length-take-le (i + 1) fs (omega arith) in
    let u = length-take-le i fs (omega arith) in
    let w = old.within in
    record {
      within = omega arith;
      rest = λ k l. ⊎_by (cases_order k i)
          (λ same. rw same (code_taken fs (i + 1) i (omega arith) ∙ code_read fs i f h e ∙ none f.code s))
          (λ o. ⊎_by o
          (λ less. code_taken fs (i + 1) k (omega arith) ∙ sym (code_taken fs i k less) ∙ old.rest k l)
          (λ more. code_past (take (i + 1) fs) k (omega arith)));
      last = λ l. rw (code_taken fs (i + 1) (n - 1) (omega arith) ∙ sym (code_taken fs i (n - 1) (omega arith))) (old.last l);
    }
  where
    none : (cs : List Code) → length cs ≡ 0 → cs ≡ []
    none [] e = refl
    none (c ∷ cs) e = absurd (omega arith)

pub filled_next : (fs : List LinkedFunction) (i n m : ℕ) (f : LinkedFunction) → i < length fs → f ≡ get_or fs i f → IsFilled (take i fs) n
    → m ≡ (if nat_eq (length f.code) 0 then n else i + 1) → IsFilled (take (i + 1) fs) m
filled_next fs i n m f h e old r = ⊎_by (cases_eq (length f.code) 0)
    (λ z. let t : m ≡ n = r ∙ rw (eq-eqb (length f.code) 0 z) refl in rw t (filled_same fs i n f h e z old))
    (λ z. let t : m ≡ i + 1 = r ∙ rw (ne_eqb (length f.code) 0 z) refl in rw t (filled_some fs i f h e (some (length f.code) z)))
  where
    some : (k : ℕ) → (k ≡ 0 → ⊥) → 0 < k
    some zero z = absurd (z refl)
    some (suc k) z = omega arith

pub starts_name : (l : Linked) (n : ℕ) (b : Bool) → IsFilled l.functions n → b ≡ (not l.bare && is_end n l.functions (unwrap_or l.start 0) 0) → b ≡ true → true ≡ names_end l
starts_name l n b f e t = sym (names_by l n f ∙ or_left _ _ (sym e ∙ t))
