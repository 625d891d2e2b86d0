-- The budgets of the three programs.
use Rattle.std.proofs.Common.{◌≡◌, ◌≢◌, ◌+◌, ◌*◌, ℕ, zero, suc, List, [], ◌∷◌, ◌++◌, refl, ◌∙◌, ap, subst, arith}
use Rattle.std.specs.Prelude.{replicate}
use Rattle.std.specs.List.{AllByRecursion, AllPairs, Contains}
use Rattle.std.proofs.lemmas.List.Elements.{All-contains, All-from_recursion}
use Rattle.jack_meaning.specs.Text.{Literal, Local, Load, Let, Statement, Store, Return, Text, text_of}
use Rattle.jack_meaning.specs.Meaning.{subroutine_at}
use Rattle.jack_meaning.specs.Linked.{IsLinked, called, init, statement_calls, text_calls}
use Rattle.tower.specs.Budget.{IsBudget, statement_words, text_words}
use Rattle.tower.specs.BudgetRows.{BudgetRows, local, nested_statement, repeated_program}

-- the text of Main.main
abbrev text : ℕ → Statement → Text
text n s = text_of (replicate n s ++ Return 0 (Literal 0) ∷ [])

no_calls : (n : ℕ) (s : Statement) → statement_calls s ≡ [] → text_calls (text n s) ≡ []
no_calls zero s e = refl
no_calls (suc n) s e = ap (λ cs. cs ++ text_calls (text n s)) e ∙ no_calls n s e

words : (n : ℕ) (s : Statement) → text_words (text n s) ≡ n * statement_words s + 17
words zero s = omega arith
words (suc n) s = let e = words n s in omega (arith, e)

module _ (n : ℕ) (s : Statement) (none : statement_calls s ≡ []) where
  closed : (g : ℕ) → Contains (1 ∷ 2 ∷ []) g → AllByRecursion (Contains (1 ∷ 2 ∷ [])) (text_calls (subroutine_at (repeated_program n s).subroutines g).body)
  closed g (zero, near, here) = subst (λ k. AllByRecursion (Contains (1 ∷ 2 ∷ [])) (text_calls (subroutine_at (repeated_program n s).subroutines k).body)) here ((1, omega arith, refl), tt)
  closed g (suc zero, near, here) =
      subst (λ k. AllByRecursion (Contains (1 ∷ 2 ∷ [])) (text_calls (subroutine_at (repeated_program n s).subroutines k).body)) here
      (subst (AllByRecursion (Contains (1 ∷ 2 ∷ []))) (let e = no_calls n s none in let back : [] ≡ text_calls (text n s) = cc in back) tt)
  closed g (suc (suc k), near, here) = absurd (omega (arith, near))

  all : {g : ℕ} → IsLinked (repeated_program n s) g → Contains (1 ∷ 2 ∷ []) g
  all init = (0, omega arith, refl)
  all (called {g} {h} l c) =
      let calls : List ℕ = text_calls (subroutine_at (repeated_program n s).subroutines g).body in
      All-contains (Contains (1 ∷ 2 ∷ [])) calls h (All-from_recursion (Contains (1 ∷ 2 ∷ [])) calls (closed g (all l))) c

  is_main : IsLinked (repeated_program n s) 2
  is_main = called init (zero, omega arith, refl)

  only : (g : ℕ) → Contains (1 ∷ 2 ∷ []) g → IsLinked (repeated_program n s) g
  only g (zero, near, here) = subst (IsLinked (repeated_program n s)) here init
  only g (suc zero, near, here) = subst (IsLinked (repeated_program n s)) here is_main
  only g (suc (suc k), near, here) = absurd (omega (arith, near))

  apart : AllPairs {X = ℕ} (λ g h. g ≢ h) (1 ∷ 2 ∷ [])
  apart zero zero d before near = absurd (omega arith)
  apart zero (suc zero) d before near = λ e. omega (arith, e)
  apart zero (suc (suc j)) d before near = absurd (omega arith)
  apart (suc i) zero d before near = absurd (omega arith)
  apart (suc i) (suc zero) d before near = absurd (omega arith)
  apart (suc i) (suc (suc j)) d before near = absurd (omega arith)

  pub budget : (w : ℕ) → w ≡ 347 + n * statement_words s → IsBudget (repeated_program n s) w
  budget w e = record {
    linked = 1 ∷ 2 ∷ [];
    all = λ g l. all l;
    only = only;
    once = apart;
    sum = omega (arith, e, words n s);
  }

pub rows : BudgetRows
rows = record {
  stores = budget 560 (Store 0 (local 0) (local 1) (local 2)) refl 31147 refl;
  loads = budget 668 (Let 0 (Local 1) (Load (local 0) (local 2))) refl 32411 refl;
  others = budget 1 nested_statement refl 526 refl;
}
