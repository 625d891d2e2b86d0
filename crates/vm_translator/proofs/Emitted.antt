-- Instructions that are added one after another.
use Rattle.std.proofs.Common.{◌≡◌, ◌+◌, ◌-◌, ◌^◌, ◌<◌, ◌≤◌, ◌++◌, ℕ, zero, suc, Bool, true, List, [], ◌∷◌, length, drop, get_or, refl, sym, ap, ◌∙◌, arith, append_assoc, min}
use Rattle.std.proofs.lemmas.List.{drop_more}
use Rattle.hack_isa.specs.declared.Instr.{Instr}
use Rattle.hack_isa.specs.declared.Instr.TheVariants.{Address}
use Rattle.vm_templates.specs.Templates.{function_code, push_zero}
use Rattle.vm_link.specs.declared.linked.Code.{Code}
use Rattle.vm_link.specs.declared.linked.LinkedFunction.{LinkedFunction}
use Rattle.vm_translator.specs.Shapes.{step_size}
use Rattle.vm_translator.specs.declared.layout.Placed.{Placed}
use Rattle.vm_translator.specs.Places.{placed_code, placed_from, words_of, words_in}
use Rattle.vm_translator.specs.Tables.{code_names_end, firsts_from, step_names_end}
use Rattle.std.proofs.lemmas.Bool.{or_left}

pub function_more : (n k : ℕ) (out after all : List Instr) → k < n → out ++ function_code (n - k) ≡ all → after ≡ out ++ push_zero → after ++ function_code (n - (k + 1)) ≡ all
function_more n k out after all l e a =
    let z : n - k ≡ suc (n - (k + 1)) = omega arith in
    ap (λ x. x ++ function_code (n - (k + 1))) a ∙ append_assoc out push_zero (function_code (n - (k + 1))) ∙ (let y = ap (λ x. out ++ function_code x) z in sym y ∙ e)

pub function_last : (n k : ℕ) (out after all : List Instr) → n ≤ k → out ++ function_code (n - k) ≡ all → after ≡ out ++ Address 0 ∷ [] → after ≡ all
function_last n k out after all l e a =
    let z : n - k ≡ 0 = omega arith in
    a ∙ (let y = ap (λ x. out ++ function_code x) z in sym y ∙ e)

-- what is left of code
pub words_left : (cs : List Code) (i : ℕ) (d : Code) → i < length cs → words_of (drop i cs) ≡ step_size (get_or cs i d).step + words_of (drop (i + 1) cs)
words_left cs i d h = ap words_of (drop_more cs i d h)

pub words_fit : (cs : List Code) (i at n from : ℕ) (d : Code) → i < length cs → n ≡ step_size (get_or cs i d).step
    → at + words_of (drop i cs) ≡ from + words_of cs → from + words_of cs ≤ 32768 → at + n ≤ 32768
words_fit cs i at n from d h e w f = let l = words_left cs i d h in omega arith

-- a step of some code names the end
pub code_then : (n : ℕ) (fs : List LinkedFunction) (k : ℕ) (cs : List Code) (i : ℕ) (d : Code) (b : Bool) → i < length cs
    → code_names_end n fs k i (drop i cs) ≡ code_names_end n fs k 0 cs → b ≡ step_names_end n fs k (i + 1) (get_or cs i d).step → b ≡ true → true ≡ code_names_end n fs k 0 cs
code_then n fs k cs i d b h e f t =
    let s : code_names_end n fs k i (get_or cs i d ∷ drop (i + 1) cs) ≡ code_names_end n fs k 0 cs = rw (drop_more cs i d h) at e in
    sym (sym s ∙ or_left _ _ (sym f ∙ t))

-- nothing is left
pub words_done : (cs : List Code) (i w t : ℕ) → length cs ≤ i → w ≤ 2 ^ 64 - 1 → min (w + words_of (drop i cs)) (2 ^ 64 - 1) ≡ t → w ≡ t
words_done cs i w t h s e = let z = none cs i h in omega arith
  where
    none : (cs : List Code) (i : ℕ) → length cs ≤ i → words_of (drop i cs) ≡ 0
    none [] zero h = refl
    none [] (suc i) h = refl
    none (c ∷ cs) zero h = absurd (omega arith)
    none (c ∷ cs) (suc i) h = none cs i (omega arith)

pub words_in_done : (fs : List LinkedFunction) (i w t : ℕ) → length fs ≤ i → w ≤ 2 ^ 64 - 1 → min (w + words_in (drop i fs)) (2 ^ 64 - 1) ≡ t → w ≡ t
words_in_done fs i w t h s e = let z = none fs i h in omega arith
  where
    none : (fs : List LinkedFunction) (i : ℕ) → length fs ≤ i → words_in (drop i fs) ≡ 0
    none [] zero h = refl
    none [] (suc i) h = refl
    none (f ∷ fs) zero h = absurd (omega arith)
    none (f ∷ fs) (suc i) h = none fs i (omega arith)

-- the steps of one more function
module _ (fs : List LinkedFunction) (i : ℕ) (f : LinkedFunction) (h : i < length fs) (e : f ≡ get_or fs i f) where
  next : drop i fs ≡ f ∷ drop (i + 1) fs
  next = drop_more fs i f h ∙ ap (λ (z : LinkedFunction). z ∷ drop (i + 1) fs) (sym e)

  pub steps_more : (at to : ℕ) (cs : List Code) (ps qs all : List Placed) → cs ≡ f.code → ps ++ placed_from i at (drop i fs) ≡ all
      → qs ≡ ps ++ placed_code i f.number at cs → to ≡ at + words_of cs → qs ++ placed_from (i + 1) to (drop (i + 1) fs) ≡ all
  steps_more at to cs ps qs all c a q t =
      let old : ps ++ (placed_code i f.number at f.code ++ placed_from (i + 1) (at + words_of f.code) (drop (i + 1) fs)) ≡ all = rw next at a in
      rw (q, t, c, append_assoc) old

  pub firsts_more : (n m : ℕ) (cs : List Code) (ns ms all : List ℕ) → cs ≡ f.code → ns ++ firsts_from n (drop i fs) ≡ all
      → ms ≡ ns ++ n ∷ [] → m ≡ n + length cs → ms ++ firsts_from m (drop (i + 1) fs) ≡ all
  firsts_more n m cs ns ms all c a q t =
      let old : ns ++ (n ∷ firsts_from (n + length f.code) (drop (i + 1) fs)) ≡ all = rw next at a in
      rw (q, t, c, append_assoc) old

  pub words_more : (at to : ℕ) (cs : List Code) (all : ℕ) → cs ≡ f.code → at + words_in (drop i fs) ≡ all → to ≡ at + words_of cs → to + words_in (drop (i + 1) fs) ≡ all
  words_more at to cs all c a t =
      let old : at + (words_of f.code + words_in (drop (i + 1) fs)) ≡ all = rw next at a in
      let w = ap words_of c in
      omega arith
