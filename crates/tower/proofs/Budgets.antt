-- The image of a program has no more words than its budget.
use Rattle.std.proofs.Common.{◌≡◌, ◌≢◌, ◌<◌, ◌≤◌, ◌+◌, ◌-◌, ◌⊎◌, ℕ, zero, suc, Bool, true, false, List, [], ◌∷◌, Some, length, map, get_or, inl, inr, refl, sym, ap, ◌∙◌, subst, arith}
use Rattle.std.specs.Prelude.{if◌then◌else◌, slice_get, sum_by}
use Rattle.std.specs.List.{AllPairs, Contains, remove}
use Rattle.std.proofs.lemmas.Bool.{cases_lt}
use Rattle.std.proofs.lemmas.List.{get_or_default, length-map}
use Rattle.std.proofs.lemmas.List.Edits.{get_or-remove_above, get_or-remove_below, length-remove}
use Rattle.std.proofs.lemmas.List.Sums.{sum_by-cons, sum_by-remove}
use Rattle.std.proofs.lemmas.Option.{slice_get_within}
use Rattle.vm_link.specs.declared.linked.Linked.{Linked}
use Rattle.vm_link.specs.declared.linked.LinkedFunction.{LinkedFunction}
use Rattle.vm_translator.specs.Image.{closing_of, image_of}
use Rattle.vm_templates.specs.Templates.{start_size}
use Rattle.vm_translator.specs.Places.{words_in, words_of}
use Rattle.vm_translator.proofs.Routines.{used_few}
use Rattle.vm_translator.proofs.Sizes.{closing_few, length_image}
use Rattle.jack_meaning.specs.Text.{Program}
use Rattle.jack_meaning.specs.Meaning.{subroutine_at}
use Rattle.jack_meaning.specs.Linked.{IsLinked}
use Rattle.jack_core.specs.declared.program.Core.{Core}
use Rattle.jack_core.specs.Texts.{the_program}
use Rattle.jack_compiler.specs.Linked.{IsLinkedProgram}
use Rattle.jack_compiler.specs.Resolved.{IsResolvedCore}
use Rattle.jack_compiler.specs.Templates.{subroutine_code}
use Rattle.jack_compiler.proofs.Seam.{compiled}
use Rattle.tower.specs.Budget.{BudgetLaw, IsBudget, words_at}
use Rattle.tower.specs.Image.{IsNotBuilt, LargeImage}
use Rattle.tower.proofs.BudgetWords.{subroutine_within}

-- ---- sums over numbers, each once

cases_place : (j k : ℕ) → (j < k) ⊎ ((j ≡ k) ⊎ (k < j))
cases_place j k = elim (cases_lt j k) [ inl h ↦ inl h | inr h ↦ elim (cases_lt k j) [ inl i ↦ inr (inr i) | inr i ↦ inr (inl (omega arith)) ] ]

-- a number that is not the one at k is there without that
member_kept : (gs : List ℕ) (k g x : ℕ) → k < length gs → get_or gs k g ≡ g → Contains gs x → g ≢ x → Contains (remove gs k) x
member_kept gs k g x near at (j, low, here) other = there (cases_place j k)
  where
    short : length (remove gs k) + 1 ≡ length gs
    short = length-remove gs k near

    there : (j < k) ⊎ ((j ≡ k) ⊎ (k < j)) → Contains (remove gs k) x
    there (inl below) = (j, omega (arith, short), get_or-remove_below gs k x j below near ∙ here)
    there (inr (inl same)) = absurd (other (sym at ∙ get_or_default gs k g x near ∙ ap (λ i. get_or gs i x) (sym same) ∙ here))
    there (inr (inr above)) =
        let next : j - 1 + 1 ≡ j = omega arith in
        (j - 1, omega (arith, short), get_or-remove_above gs k x (j - 1) (omega arith) near ∙ ap (λ i. get_or gs i x) next ∙ here)

-- numbers that are all there, and apart, have no greater sum
pub sum_within : (h : ℕ → ℕ) (ns gs : List ℕ) → AllPairs (λ x y. x ≢ y) ns → ((x : ℕ) → Contains ns x → Contains gs x) → sum_by h ns ≤ sum_by h gs
sum_within h [] gs apart there = omega arith
sum_within h (n ∷ ns) gs apart there =
    let (k, near, at) = there n (0, omega arith, refl) in
    let more = sum_within h ns (remove gs k) (λ i j d a b. apart (suc i) (suc j) d (omega arith) (omega arith))
    (λ x (j, low, here). member_kept gs k n x near at (there x (suc j, omega arith, here)) (λ e. apart 0 (suc j) x (omega arith) (omega arith) (e ∙ sym here))) in
    omega (arith, more, sum_by-cons h n ns, sum_by-remove h gs k n near, ap h at)

-- ---- the functions of linked code

functions_within : (h : ℕ → ℕ) (fs : List LinkedFunction) → ((k : ℕ) (f : LinkedFunction) → slice_get fs k ≡ Some f → words_of f.code ≤ h f.number) → words_in fs ≤ sum_by h (map (λ f. f.number) fs)
functions_within h [] each = omega arith
functions_within h (f ∷ fs) each =
    omega (arith, each 0 f refl, functions_within h fs (λ k g e. each (suc k) g e), sum_by-cons h f.number (map (λ g. g.number) fs))

-- the function at a place
function_at : (fs : List LinkedFunction) (k : ℕ) → k < length fs → (f : LinkedFunction) × (slice_get fs k ≡ Some f)
function_at [] k near = absurd (omega arith)
function_at (f ∷ fs) zero near = (f, refl)
function_at (f ∷ fs) (suc k) near = function_at fs k (omega arith)

-- and its number
number_at : (fs : List LinkedFunction) (k d : ℕ) (f : LinkedFunction) → slice_get fs k ≡ Some f → get_or (map (λ g. g.number) fs) k d ≡ f.number
number_at [] k d f e = absurd (let no : ⊥ = cc in no)
number_at (g ∷ fs) zero d f e = let same : g ≡ f = cc in ap (λ z. z.number) same
number_at (g ∷ fs) (suc k) d f e = number_at fs k d f e

module _ (program : Program) (linked : Linked) (code : IsLinkedProgram program linked) where
  abbrev numbers : List ℕ
  numbers = map (λ f. f.number) linked.functions

  count : length numbers ≡ length linked.functions
  count = length-map linked.functions (λ f. f.number)

  -- a function is that of its subroutine
  words_each : (k : ℕ) (f : LinkedFunction) → slice_get linked.functions k ≡ Some f → words_of f.code ≤ words_at program f.number
  words_each k f e =
      let (g, at, number, is) = code.code.function f.number (code.all f.number (code.only k f e)) in
      let same : k ≡ code.numbers.function f.number = code.once k (code.numbers.function f.number) f g e at (sym number) in
      let here : slice_get linked.functions k ≡ Some g = ap (slice_get linked.functions) same ∙ at in
      let own : f ≡ g = cc in
      let text : f.code ≡ subroutine_code code.numbers (subroutine_at program.subroutines f.number) = ap (λ z. z.code) own ∙ is in
      omega (arith, ap words_of text, subroutine_within code.numbers (subroutine_at program.subroutines f.number))

  apart : AllPairs (λ x y. x ≢ y) numbers
  apart i j d before near same =
      let (f, at_i) = function_at linked.functions i (omega (arith, count)) in
      let (g, at_j) = function_at linked.functions j (omega (arith, count)) in
      let one : i ≡ j = code.once i j f g at_i at_j (sym (number_at linked.functions i d f at_i) ∙ same ∙ number_at linked.functions j d g at_j) in
      absurd (omega (arith, one))

  only : (x : ℕ) → Contains numbers x → IsLinked program x
  only x (k, low, here) =
      let (f, at) = function_at linked.functions k (omega (arith, count)) in
      subst (IsLinked program) (sym (number_at linked.functions k x f at) ∙ here) (code.only k f at)

  all : (g : ℕ) → IsLinked program g → Contains numbers g
  all g is =
      let (f, at, number, text) = code.code.function g (code.all g is) in
      let k = code.numbers.function g in
      (k, omega (arith, count, slice_get_within linked.functions k f at), number_at linked.functions k g f at ∙ number)

  pub budget : (words : ℕ) × IsBudget program words
  budget = (256 + sum_by (words_at program) numbers, record { linked = numbers; all = all; only = only; once = apart; sum = refl })

  base_low : (b : Bool) → (if b then 0 else start_size) ≤ start_size
  base_low true = omega arith
  base_low false = omega arith

  pub code_within : (words : ℕ) → IsBudget program words → length (image_of linked) ≤ words
  code_within words is =
      omega (
        arith,
        length_image linked,
        base_low linked.bare,
        closing_few (closing_of linked),
        used_few linked,
        functions_within (words_at program) linked.functions words_each,
        sum_within (words_at program) numbers is.linked apart (λ x here. is.all x (only x here)),
        is.sum,
      )

one_within : (program : Program) (v w : ℕ) → IsBudget program v → IsBudget program w → v ≤ w
one_within program v w a b =
    omega (arith, sum_within (words_at program) a.linked b.linked a.once (λ x here. b.all x (a.only x here)), a.sum, b.sum)

too_large : (core : Core) (w : ℕ) → IsResolvedCore core → IsNotBuilt core (LargeImage w) → (words : ℕ) → IsBudget (the_program core) words → (w ≤ words) × (32768 < words)
too_large core w resolved (linked, links, large) words is =
    let enough = code_within (the_program core) linked (compiled.linked core linked resolved links) words is in
    let most = large.words in
    let over = large.over in
    (omega (arith, enough, most), omega (arith, enough, over))

pub budgets : BudgetLaw
budgets = record {
  one = λ program v w a b. omega (arith, one_within program v w a b, one_within program w v b a);
  has = λ core linked resolved links. budget (the_program core) linked (compiled.linked core linked resolved links);
  within = λ core linked resolved links. code_within (the_program core) linked (compiled.linked core linked resolved links);
  too_large = too_large;
}
