-- What a program has of words besides those of its folder is at most those of all the system's subroutines. For a linked subroutine is one
-- of the program's, and each is counted once.
use Rattle.std.proofs.Common.{◌≡◌, ◌<◌, ◌≤◌, ◌+◌, ◌-◌, ◌++◌, ℕ, zero, suc, List, [], ◌∷◌, length, map, refl, sym, ap, ◌∙◌, subst, arith}
use Rattle.std.specs.Prelude.{sum_by}
use Rattle.std.specs.List.{Contains}
use Rattle.std.proofs.lemmas.List.Sums.{sum_by-append, sum_by-cons}
use Rattle.jack_tree.specs.Syntax.{ClassFile}
use Rattle.jack_tree.specs.Seen.{the_file}
use Rattle.jack_meaning.specs.Text.{Program, Subroutine}
use Rattle.jack_meaning.specs.Meaning.{subroutine_at}
use Rattle.jack_meaning.specs.Linked.{IsLinked, called, init}
use Rattle.jack_names.specs.Meaning.{no_subroutine, program_meaning, program_names, subroutine_meaning, subroutines_meaning}
use Rattle.jack_names.specs.Numbers.{field_count, standing, static_count}
use Rattle.jack_os.specs.System.{system}
use Rattle.jack_os.proofs.SystemTexts.{are_files, one_list, seen_files, system_classes}
use Rattle.jack_compiler.specs.Fits.{scope_of}
use Rattle.jack_compiler.specs.Resolved.{IsResolved, named_in}
use Rattle.jack_compiler.proofs.Members.{body_keeps}
use Rattle.jack_compiler.proofs.Resolving.{keeps_there}
use Rattle.tower.specs.Budget.{IsBudget, subroutine_words, words_at}
use Rattle.tower.specs.Resolved.{ResolvedLaw}
use Rattle.tower.proofs.Budgets.{sum_within}
use Rattle.os_budgets.specs.Laws.{EachFolderLaw, own_words}

-- ---- the numbers of subroutines

abbrev numbers : ℕ → List Subroutine → List ℕ
numbers at [] = []
numbers at (s ∷ ss) = at ∷ numbers (suc at) ss

is_number : (at : ℕ) (ss : List Subroutine) (k : ℕ) → k < length ss → Contains (numbers at ss) (at + k)
is_number at [] k near = absurd (omega (arith, near))
is_number at (s ∷ ss) zero near = (0, omega arith, omega arith)
is_number at (s ∷ ss) (suc k) near =
    let z : suc at + k ≡ at + suc k = omega arith in
    let (j, low, here) = subst (Contains (numbers (suc at) ss)) z (is_number (suc at) ss k (omega (arith, near))) in
    (suc j, omega (arith, low), here)

sum_numbers : (f : ℕ → ℕ) (at : ℕ) (ss : List Subroutine) → ((k : ℕ) → f (at + k) ≡ subroutine_words (subroutine_at ss k)) → sum_by f (numbers at ss) ≡ sum_by subroutine_words ss
sum_numbers f at [] h = refl
sum_numbers f at (s ∷ ss) h =
    let here : f at ≡ subroutine_words s = ap f (let z : at ≡ at + 0 = omega arith in z) ∙ h 0 in
    let rest = sum_numbers f (suc at) ss (λ k. ap f (let z : suc at + k ≡ at + suc k = omega arith in z) ∙ h (suc k)) in
    sum_by-cons f at (numbers (suc at) ss) ∙ (λ i. here i + rest i) ∙ sym (sum_by-cons subroutine_words s ss)

-- ---- a linked subroutine is one of the program's, and not the first

module _ (program : Program) (names : List (List ℕ)) (resolved : IsResolved program names) where
  there : {g : ℕ} → IsLinked program g → (0 < g) × (g < length program.subroutines)
  there init = (resolved.init, resolved.init_there)
  there (called {g} {h} l c) =
      let b = there l in
      let sub = subroutine_at program.subroutines g in
      let r = resolved.each g b.0 b.1 in
      keeps_there program names resolved sub.class h (body_keeps program.subroutines (named_in program sub.class) (scope_of sub) sub.kind sub.body r.body h c)

  in_rest : (s : Subroutine) (ss : List Subroutine) → program.subroutines ≡ s ∷ ss → (g : ℕ) → (0 < g) × (g < length program.subroutines) → Contains (numbers 1 ss) g
  in_rest s ss e zero b = absurd (let low = b.0 in omega (arith, low))
  in_rest s ss e (suc k) b =
      let near : k < length ss = let high = b.1 in omega (arith, high, ap length e) in
      let z : 1 + k ≡ suc k = omega arith in
      subst (Contains (numbers 1 ss)) z (is_number 1 ss k near)

  within_all : (s : Subroutine) (ss : List Subroutine) → program.subroutines ≡ s ∷ ss → (words : ℕ) → IsBudget program words → words ≤ 256 + sum_by subroutine_words ss
  within_all s ss e words is =
      let least = sum_within (words_at program) is.linked (numbers 1 ss) is.once (λ x c. in_rest s ss e x (there (is.only x c))) in
      let same = sum_numbers (words_at program) 1 ss (λ k. ap (λ (l : List Subroutine). subroutine_words (subroutine_at l (1 + k))) e ∙ ap (λ (j : ℕ). subroutine_words (subroutine_at (s ∷ ss) j)) (let z : 1 + k ≡ suc k = omega arith in z)) in
      omega (arith, least, same, is.sum)

-- ---- the words of the system's subroutines are the same in each program, by computation

system_words : (all : List ClassFile) (k n : ℕ) → sum_by subroutine_words (subroutines_meaning all k n system_classes) ≡ 17242
system_words all k n = refl

joined_words : (all : List ClassFile) (k n : ℕ) (own : List ClassFile)
    → sum_by subroutine_words (subroutines_meaning all k n (own ++ system_classes)) ≡ sum_by subroutine_words (subroutines_meaning all k n own) + 17242
joined_words all k n [] = system_words all k n
joined_words all k n (c ∷ cs) =
    let own : List Subroutine = map (λ t. subroutine_meaning (standing all k n c.class t) (field_count c.class.variables) t) c.class.subroutines in
    let more = subroutines_meaning all (k + 1) (n + static_count c.class.variables) (cs ++ system_classes) in
    let less = subroutines_meaning all (k + 1) (n + static_count c.class.variables) cs in
    omega (arith, sum_by-append subroutine_words own more, sum_by-append subroutine_words own less, joined_words all (k + 1) (n + static_count c.class.variables) cs)

by_list : (own cs : List ClassFile) → cs ≡ system_classes → (words : ℕ) → words ≤ 256 + sum_by subroutine_words (subroutines_meaning (own ++ cs) 0 0 (own ++ cs)) → words ≤ own_words own cs + 17498
by_list own cs e words h =
    let back : system_classes ≡ cs = sym e in
    let sum = joined_words (own ++ cs) 0 0 own in
    let all : sum_by subroutine_words (subroutines_meaning (own ++ cs) 0 0 (own ++ cs)) ≡ sum_by subroutine_words (subroutines_meaning (own ++ cs) 0 0 (own ++ system_classes)) =
    ap (λ (l : List ClassFile). sum_by subroutine_words (subroutines_meaning (own ++ cs) 0 0 (own ++ l))) e in
    omega (arith, h, sum, all)

pub each_folder : ResolvedLaw → EachFolderLaw
each_folder law own os spelled shipped well words is =
    let all = map the_file own ++ map the_file os in
    let resolved = law own os system well spelled shipped in
    by_list (map the_file own) (map the_file os) (one_list system (map the_file os) system_classes (seen_files system os shipped) are_files) words
    (within_all (program_meaning (map the_file own) (map the_file os)) (program_names (map the_file own) (map the_file os)) resolved no_subroutine (subroutines_meaning all 0 0 all) refl words is)
