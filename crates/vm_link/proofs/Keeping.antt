-- The sections that are marked are those that are reached.
use Rattle.std.proofs.Common.{◌≡◌, ◌+◌, ℕ, suc, Bool, true, false, List, [], ◌∷◌, length, refl, sym, subst, arith, add-zero}
use Rattle.vm_link.specs.Sections.{Section}
use Rattle.vm_link.specs.Reached.{Reached, Keeps, none, kept, dropped, AreKept}
use Rattle.vm_link.specs.Inner.Marks.{is_marked, selected_sections, AreReached}

no_true : {b : Bool} → b ≡ false → b ≡ true → ⊥
no_true e f = absurd cc

pub keeps_selected : (P : ℕ → Type 0) (at : ℕ) (marks : List Bool) (ss : List Section) → length marks ≡ length ss
    → ((i : ℕ) → is_marked marks i ≡ true → P (at + i)) → ((i : ℕ) → P (at + i) → is_marked marks i ≡ true) → Keeps P at ss (selected_sections marks ss)
keeps_selected P at [] [] e only all = none
keeps_selected P at [] (s ∷ ss) e only all = absurd (omega arith)
keeps_selected P at (b ∷ marks) [] e only all = absurd (omega arith)
keeps_selected P at (true ∷ marks) (s ∷ ss) e only all =
    kept (let z : at + 0 ≡ at = omega arith in subst P z (only 0 refl))
    (keeps_selected P (suc at) marks ss (omega arith)
    (λ i h. let z : at + suc i ≡ suc at + i = omega arith in subst P z (only (suc i) h))
    (λ i p. let z : suc at + i ≡ at + suc i = omega arith in all (suc i) (subst P z p)))
keeps_selected P at (false ∷ marks) (s ∷ ss) e only all =
    dropped (λ p. no_true refl (all 0 (subst P (sym (add-zero at)) p)))
    (keeps_selected P (suc at) marks ss (omega arith)
    (λ i h. let z : at + suc i ≡ suc at + i = omega arith in subst P z (only (suc i) h))
    (λ i p. let z : suc at + i ≡ at + suc i = omega arith in all (suc i) (subst P z p)))

pub kept_by : (ss : List Section) (marks : List Bool) → AreReached ss marks → AreKept false ss (selected_sections marks ss)
kept_by ss marks r = keeps_selected (Reached ss) 0 marks ss r.same_length
    (λ i h. let z : i ≡ 0 + i = omega arith in subst (Reached ss) z (r.only i h))
    (λ i p. let z : 0 + i ≡ i = omega arith in r.all i (subst (Reached ss) z p))
