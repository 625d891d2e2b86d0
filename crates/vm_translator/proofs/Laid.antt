-- The layout leads from places to addresses, and each of its steps can be written.
use Rattle.std.proofs.Common.{◌≡◌, ◌+◌, ◌<◌, ◌≤◌, ◌++◌, ◌-◌, ◌^◌, min, unwrap_or, ℕ, zero, suc, List, [], ◌∷◌, Some, option_map, length, take, drop, slice_get, refl, ap, ◌∙◌, arith, add-one, length-append}
use Rattle.std.specs.Prelude.{All}
use Rattle.vm_link.specs.declared.linked.Step.{Step}
use Rattle.vm_link.specs.declared.linked.Step.TheVariants as step
use Rattle.vm_link.specs.declared.linked.Code.{Code}
use Rattle.vm_link.specs.declared.linked.LinkedFunction.{LinkedFunction}
use Rattle.vm_link.specs.Sound.{IsSoundStep, IsSoundFunction}
use Rattle.vm_translator.specs.declared.layout.Placed.{Placed}
use Rattle.vm_translator.specs.declared.layout.Layout.{Layout}
use Rattle.vm_translator.specs.Shapes.{step_size}
use Rattle.vm_translator.specs.Places.{words_of, words_in, code_at, address, placed_code, placed_from}
use Rattle.vm_translator.specs.Tables.{IsLayout, IsReady, LeadsWithin, firsts_from}

-- the address of the step at an index, or that of the end
unfoldable pub at_index : ℕ → List Placed → ℕ → ℕ
at_index end [] i = end
at_index end (c ∷ cs) zero = c.at
at_index end (c ∷ cs) (suc i) = at_index end cs i

pub at_get : (end : ℕ) (cs : List Placed) (i : ℕ) → unwrap_or (option_map (λ c. c.at) (slice_get cs i)) end ≡ at_index end cs i
unfolding at_index
at_get end [] i = refl
at_get end (c ∷ cs) zero = refl
at_get end (c ∷ cs) (suc i) = at_get end cs i

-- the number of the functions' steps
unfoldable pub steps_in : List LinkedFunction → ℕ
steps_in [] = 0
steps_in (f ∷ fs) = length f.code + steps_in fs

pub length_placed : (k sub at : ℕ) (cs : List Code) → length (placed_code k sub at cs) ≡ length cs
length_placed k sub at [] = refl
length_placed k sub at (c ∷ cs) = ap suc (length_placed k sub (at + step_size c.step) cs)

-- within a function's steps, where what comes after them begins at the address after them
inside : (end k sub at : ℕ) (cs : List Code) (rest : List Placed) (p : ℕ) → p ≤ length cs → at_index end rest 0 ≡ at + words_of cs
    → at_index end (placed_code k sub at cs ++ rest) p ≡ at + words_of (take p cs)
unfolding at_index
inside end k sub at [] rest zero h e = e
inside end k sub at [] rest (suc p) h e = absurd (omega arith)
inside end k sub at (c ∷ cs) rest zero h e = omega arith
inside end k sub at (c ∷ cs) rest (suc p) h e = let r = inside end k sub (at + step_size c.step) cs rest p (omega arith) (omega arith) in omega arith

past : (end k sub at : ℕ) (cs : List Code) (rest : List Placed) (i : ℕ) → at_index end (placed_code k sub at cs ++ rest) (length cs + i) ≡ at_index end rest i
unfolding at_index
past end k sub at [] rest i = ap (at_index end rest) (omega arith)
past end k sub at (c ∷ cs) rest i =
    let e : suc (length cs) + i ≡ suc (length cs + i) = omega arith in
    rw e (past end k sub (at + step_size c.step) cs rest i)

at_first : (j at : ℕ) (fs : List LinkedFunction) → at_index (at + words_in fs) (placed_from j at fs) 0 ≡ at
unfolding at_index
at_first j at [] = omega arith
at_first j at (f ∷ fs) =
    let end : (at + words_of f.code) + words_in fs ≡ at + (words_of f.code + words_in fs) = omega arith in
    let rest : at_index (at + (words_of f.code + words_in fs)) (placed_from (j + 1) (at + words_of f.code) fs) 0 ≡ at + words_of f.code
    = rw end at (at_first (j + 1) (at + words_of f.code) fs) in
    let zero_more : at + 0 ≡ at = omega arith in
    inside (at + (words_of f.code + words_in fs)) j f.number at f.code (placed_from (j + 1) (at + words_of f.code) fs) 0 (omega arith) rest ∙ zero_more

at_place : (j at : ℕ) (fs : List LinkedFunction) (k p : ℕ) → k < length fs → p ≤ length (code_at fs k)
    → at_index (at + words_in fs) (placed_from j at fs) (steps_in (take k fs) + p) ≡ at + (words_in (take k fs) + words_of (take p (code_at fs k)))
unfolding steps_in
at_place j at [] k p h l = absurd (omega arith)
at_place j at (f ∷ fs) zero p h l =
    let end : (at + words_of f.code) + words_in fs ≡ at + (words_of f.code + words_in fs) = omega arith in
    let rest : at_index (at + (words_of f.code + words_in fs)) (placed_from (j + 1) (at + words_of f.code) fs) 0 ≡ at + words_of f.code
    = rw end at (at_first (j + 1) (at + words_of f.code) fs) in
    let e : 0 + p ≡ p = omega arith in
    let fin : at + words_of (take p f.code) ≡ at + (0 + words_of (take p f.code)) = omega arith in
    rw e (inside (at + (words_of f.code + words_in fs)) j f.number at f.code (placed_from (j + 1) (at + words_of f.code) fs) p l rest ∙ fin)
at_place j at (f ∷ fs) (suc k) p h l =
    let end : (at + words_of f.code) + words_in fs ≡ at + (words_of f.code + words_in fs) = omega arith in
    let r : at_index (at + (words_of f.code + words_in fs)) (placed_from (j + 1) (at + words_of f.code) fs) (steps_in (take k fs) + p)
    ≡ (at + words_of f.code) + (words_in (take k fs) + words_of (take p (code_at fs k)))
    = rw end at (at_place (j + 1) (at + words_of f.code) fs k p (omega arith) l) in
    let i : (length f.code + steps_in (take k fs)) + p ≡ length f.code + (steps_in (take k fs) + p) = omega arith in
    let fin : (at + words_of f.code) + (words_in (take k fs) + words_of (take p (code_at fs k))) ≡ at + ((words_of f.code + words_in (take k fs)) + words_of (take p (code_at fs k))) = omega arith in
    rw i (past (at + (words_of f.code + words_in fs)) j f.number at f.code (placed_from (j + 1) (at + words_of f.code) fs) (steps_in (take k fs) + p) ∙ r ∙ fin)

length_all : (j at : ℕ) (fs : List LinkedFunction) → length (placed_from j at fs) ≡ steps_in fs
unfolding steps_in
length_all j at [] = refl
length_all j at (f ∷ fs) =
    let a = length_placed j f.number at f.code in
    let b = length_all (j + 1) (at + words_of f.code) fs in
    length-append (placed_code j f.number at f.code) (placed_from (j + 1) (at + words_of f.code) fs) ∙ omega arith

steps_within : (fs : List LinkedFunction) (k p : ℕ) → p ≤ length (code_at fs k) → steps_in (take k fs) + p ≤ steps_in fs
unfolding steps_in
steps_within [] zero p l = omega arith
steps_within [] (suc k) p l = omega arith
steps_within (f ∷ fs) zero p l = omega arith
steps_within (f ∷ fs) (suc k) p l = let r = steps_within fs k p l in omega arith

first_at : (n : ℕ) (fs : List LinkedFunction) (k : ℕ) → k < length fs → slice_get (firsts_from n fs) k ≡ Some (n + steps_in (take k fs))
unfolding steps_in
first_at n [] k h = absurd (omega arith)
first_at n (f ∷ fs) zero h = ap Some (omega arith)
first_at n (f ∷ fs) (suc k) h =
    let e : (n + length f.code) + steps_in (take k fs) ≡ n + (length f.code + steps_in (take k fs)) = omega arith in
    first_at (n + length f.code) fs k (omega arith) ∙ ap Some e

-- what the layout finds for a place
pub address_found : (base : ℕ) (fs : List LinkedFunction) (layout : Layout) (k p first i r : ℕ) → IsLayout base fs layout → k < length fs → p ≤ length (code_at fs k)
    → first ≡ unwrap_or (slice_get layout.firsts.items k) 0 → i ≡ min (first + p) (2 ^ 64 - 1) → length layout.placed.items < 2 ^ 64
    → r ≡ unwrap_or (option_map (λ c. c.at) (slice_get layout.placed.items i)) layout.end → r ≡ address base fs k p
address_found base fs layout k p first i r lay h l f m small e =
    let known = first_at 0 fs k h in
    let start : first ≡ 0 + steps_in (take k fs) = f ∙ ap (λ xs. unwrap_or (slice_get xs k) 0) lay.firsts ∙ ap (λ o. unwrap_or o 0) known in
    let count : length layout.placed.items ≡ steps_in fs = ap length lay.placed ∙ length_all 0 base fs in
    let room = steps_within fs k p l in
    let index : i ≡ steps_in (take k fs) + p = omega arith in
    e ∙ at_get layout.end layout.placed.items i ∙ ap (λ xs. at_index layout.end xs i) lay.placed ∙ ap (λ z. at_index z (placed_from 0 base fs) i) lay.ends
    ∙ ap (at_index (base + words_in fs) (placed_from 0 base fs)) index ∙ at_place 0 base fs k p h l

-- a fact for each item
unfoldable pub Each : {A : Type 0} → (A → Type 0) → List A → Type 0
Each P [] = Unit {0}
Each P (x ∷ xs) = P x × Each P xs

pub each_all : {A : Type 0} (P : A → Type 0) (xs : List A) → Each P xs → All P xs
unfolding Each
each_all P [] e k d h = absurd (omega arith)
each_all P (x ∷ xs) e zero d h = e.0
each_all P (x ∷ xs) e (suc k) d h = each_all P xs e.1 k d (omega arith)

pub each_both : {A : Type 0} (P : A → Type 0) (xs ys : List A) → Each P xs → Each P ys → Each P (xs ++ ys)
unfolding Each
each_both P [] ys e f = f
each_both P (x ∷ xs) ys e f = (e.0, each_both P xs ys e.1 f)

pub each_of : {A : Type 0} (P : A → Type 0) (xs : List A) → All P xs → Each P xs
unfolding Each
each_of P [] e = tt
each_of P (x ∷ xs) e = (e 0 x (omega arith), each_of P xs (λ k d h. e (suc k) d (omega arith)))

module _ (fs : List LinkedFunction) where
  ready_code : (k sub at : ℕ) (cs : List Code) → k < length fs → at + words_of cs ≤ 32768
      → All (λ c. IsSoundStep (length fs) (length (code_at fs k)) c.step) cs → Each (IsReady fs) (placed_code k sub at cs)
  unfolding Each
  ready_code k sub at [] h w s = tt
  ready_code k sub at (c ∷ cs) h w s = (
    record { fits = omega arith; leads = leads c.step (s 0 c (omega arith)) },
    ready_code k sub (at + step_size c.step) cs h (omega arith) (λ i d b. s (suc i) d (omega arith)),
  )
    where
      leads : (x : Step) → IsSoundStep (length fs) (length (code_at fs k)) x → LeadsWithin fs k x
      leads (step.Goto p) s = (h, s)
      leads (step.IfGoto p) s = (h, s)
      leads (step.Call f n) s = s
      leads (step.Operate o) s = tt
      leads (step.Push g i) s = tt
      leads (step.Pop g i) s = tt
      leads (step.Function n) s = tt
      leads step.Return s = tt

  ready_from : (k at : ℕ) (gs : List LinkedFunction) → drop k fs ≡ gs → at + words_in gs ≤ 32768
      → All (IsSoundFunction (length fs)) gs → Each (IsReady fs) (placed_from k at gs)
  unfolding Each
  ready_from k at [] d w s = tt
  ready_from k at (g ∷ gs) d w s =
      let own : code_at fs k ≡ g.code = code_first fs k g gs d in
      each_both (IsReady fs) (placed_code k g.number at g.code) (placed_from (k + 1) (at + words_of g.code) gs)
      (ready_code k g.number at g.code (below fs k g gs d) (omega arith) (rw own (s 0 g (omega arith))))
      (ready_from (k + 1) (at + words_of g.code) gs (rw add-one (rest_of fs k g gs d)) (omega arith) (λ i e b. s (suc i) e (omega arith)))
    where
      code_first : (fs : List LinkedFunction) (k : ℕ) (g : LinkedFunction) (gs : List LinkedFunction) → drop k fs ≡ g ∷ gs → code_at fs k ≡ g.code
      code_first [] zero g gs e = cc
      code_first [] (suc k) g gs e = cc
      code_first (h ∷ hs) zero g gs e = let same : h ≡ g = cc in ap (λ z. z.code) same
      code_first (h ∷ hs) (suc k) g gs e = code_first hs k g gs e

      rest_of : (fs : List LinkedFunction) (k : ℕ) (g : LinkedFunction) (gs : List LinkedFunction) → drop k fs ≡ g ∷ gs → drop (suc k) fs ≡ gs
      rest_of [] zero g gs e = cc
      rest_of [] (suc k) g gs e = cc
      rest_of (h ∷ hs) zero g gs e = cc
      rest_of (h ∷ hs) (suc k) g gs e = rest_of hs k g gs e

      below : (fs : List LinkedFunction) (k : ℕ) (g : LinkedFunction) (gs : List LinkedFunction) → drop k fs ≡ g ∷ gs → k < length fs
      below [] zero g gs e = cc
      below [] (suc k) g gs e = cc
      below (h ∷ hs) zero g gs e = omega arith
      below (h ∷ hs) (suc k) g gs e = let b = below hs k g gs e in omega arith

  pub ready : (base : ℕ) → base + words_in fs ≤ 32768 → All (IsSoundFunction (length fs)) fs
      → All (IsReady fs) (placed_from 0 base fs)
  ready base w s = each_all (IsReady fs) (placed_from 0 base fs) (ready_from 0 base fs refl w s)
