-- The commits of a run, one after another.
use Rattle.std.proofs.Common.{◌≡◌, ◌<◌, ◌+◌, ℕ, zero, suc, Bool, true, false, cond, refl, sym, ap, subst, ◌∙◌, arith, add-zero}
use Rattle.simulation.specs.Trace.{Trace, steps}
use Rattle.nand_cli.specs.Commands.SoakLevels.{IsJustAfter, AtFirst, BehindCommit}

-- the first commit from n on, where one is counted in d moves
pub record NextCommit (t : Trace) (n d : ℕ) : Type 0 where
  pub at : ℕ
  pub soon : at < n + d
  pub commits : t.commits at ≡ true
  pub none_before : steps t at ≡ steps t n

commit_by : (t : Trace) (n d : ℕ) (b : Bool) → t.commits n ≡ b → steps t n < steps t (n + suc d) → (steps t (suc n) < steps t (suc n + d) → NextCommit t (suc n) d) → NextCommit t n (suc d)
commit_by t n d true e h go = record { at = n; soon = omega arith; commits = e; none_before = refl }
commit_by t n d false e h go =
    let same : steps t (suc n) ≡ steps t n = ap (λ (x : Bool). cond x (suc (steps t n)) (steps t n)) e in
    let place : n + suc d ≡ suc n + d = omega arith in
    let r = go (subst (λ (k : ℕ). k < steps t (suc n + d)) (sym same) (subst (λ (k : ℕ). steps t n < steps t k) place h)) in
    record { at = r.at; soon = (let s = r.soon in omega (arith, s)); commits = r.commits; none_before = r.none_before ∙ same }

pub next_commit : (t : Trace) (d n : ℕ) → steps t n < steps t (n + d) → NextCommit t n d
next_commit t zero n h = absurd (let bad : steps t n < steps t n = subst (λ (k : ℕ). steps t n < steps t k) (add-zero n) h in omega (arith, bad))
next_commit t (suc d) n h = commit_by t n d (t.commits n) refl h (λ k. next_commit t d (suc n) k)

pub counted : (t : Trace) (n : ℕ) → t.commits n ≡ true → steps t (suc n) ≡ suc (steps t n)
counted t n e = ap (λ (x : Bool). cond x (suc (steps t n)) (steps t n)) e

pub counts : (t : Trace) (m k : ℕ) → IsJustAfter t m k → steps t k ≡ m
counts t m k AtFirst = refl
counts t m k (BehindCommit j e) = refl
