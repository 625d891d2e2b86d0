-- The subroutines that the small program of the rows can come to, and its gap.
use Rattle.std.proofs.Common.{◌≡◌, ℕ, zero, suc, ◌≤◌, Bool, true, false, List, refl, arith}
use Rattle.std.specs.List.{AllByRecursion}
use Rattle.std.proofs.lemmas.List.Elements.{All-from_recursion, All-contains}
use Rattle.jack_meaning.specs.Meaning.{subroutine_at}
use Rattle.jack_meaning.specs.Linked.{IsLinked, init, called, text_calls}
use Rattle.jack_meaning.specs.Gap.{depth_of, locals_of, IsGap}
use Rattle.jack_meaning.specs.Rows.{calls_some}

abbrev pub among : ℕ → Bool
among (suc zero) = true
among (suc (suc zero)) = true
among (suc (suc (suc zero))) = true
among (suc (suc (suc (suc zero)))) = true
among _ = false

abbrev pub calls_of : ℕ → List ℕ
calls_of g = text_calls (subroutine_at calls_some.subroutines g).body

closed : (g : ℕ) → among g ≡ true → AllByRecursion (λ h. among h ≡ true) (calls_of g)
closed zero e = absurd cc
closed (suc zero) e = (refl, tt)
closed (suc (suc zero)) e = (refl, (refl, tt))
closed (suc (suc (suc zero))) e = tt
closed (suc (suc (suc (suc zero)))) e = tt
closed (suc (suc (suc (suc (suc g))))) e = absurd cc

pub linked_among : {g : ℕ} → IsLinked calls_some g → among g ≡ true
linked_among init = refl
linked_among (called {g} {h} l c) =
    All-contains (λ k. among k ≡ true) (calls_of g) h (All-from_recursion (λ k. among k ≡ true) (calls_of g) (closed g (linked_among l))) c

pub is_init : IsLinked calls_some 1
is_init = init

pub is_main : IsLinked calls_some 2
is_main = called is_init (zero, omega arith, refl)

pub is_inner : IsLinked calls_some 4
is_inner = called is_main (zero, omega arith, refl)

pub is_outer : IsLinked calls_some 3
is_outer = called is_main (suc zero, omega arith, refl)

pub no_start : IsLinked calls_some 0 → ⊥
no_start l = absurd (let e = linked_among l in cc)

pub no_last : IsLinked calls_some 5 → ⊥
no_last l = absurd (let e = linked_among l in cc)

depth_most : (g : ℕ) → among g ≡ true → depth_of calls_some g ≤ 2
depth_most zero e = absurd cc
depth_most (suc zero) e = omega arith
depth_most (suc (suc zero)) e = omega arith
depth_most (suc (suc (suc zero))) e = omega arith
depth_most (suc (suc (suc (suc zero)))) e = omega arith
depth_most (suc (suc (suc (suc (suc g))))) e = absurd cc

locals_most : (g : ℕ) → among g ≡ true → locals_of calls_some g ≤ 3
locals_most zero e = absurd cc
locals_most (suc zero) e = omega arith
locals_most (suc (suc zero)) e = omega arith
locals_most (suc (suc (suc zero))) e = omega arith
locals_most (suc (suc (suc (suc zero)))) e = omega arith
locals_most (suc (suc (suc (suc (suc g))))) e = absurd cc

pub gap_is : IsGap calls_some 148
gap_is = record {
  depth = 2;
  most_locals = 3;
  deepest = record { bounds = λ g l. depth_most g (linked_among l); reached = (2, is_main, refl) };
  most = record { bounds = λ g l. locals_most g (linked_among l); reached = (3, is_outer, refl) };
  sum = refl;
}
