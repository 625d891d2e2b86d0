-- The stages before the search.
use Rattle.std.proofs.Common.{◌≡◌, ℕ, zero, suc, ◌<◌, false, List, [], ◌∷◌, length, Some, refl, sym, ap, ◌∙◌, arith}
use Rattle.std.specs.Prelude.{slice_get, replicate}
use Rattle.hdl_tree.specs.declared.library.Entry.{Entry}
use Rattle.hdl_tree.specs.Chips.{Chips}
use Rattle.hdl_check.specs.Locations.{IsFaultless}
use Rattle.hdl_check.specs.Inner.Progress.{IsProgress, AreOpen, is_open, IsDone}
use Rattle.hdl_check.specs.declared.stage.Stage.{Stage}
use Rattle.hdl_check.specs.declared.stage.Stage.TheVariants.{New, Done}

pub new_at : (n k : ℕ) → k < n → slice_get (replicate n New) k ≡ Some New
new_at zero k lt = absurd (omega arith)
new_at (suc n) zero lt = refl
new_at (suc n) (suc k) lt = new_at n k (omega arith)

not_done : (n k r : ℕ) → slice_get (replicate n New) k ≡ Some (Done r) → ⊥
not_done zero k r h = cc
not_done (suc n) zero r h = cc
not_done (suc n) (suc k) r h = not_done n k r h

none_open : (n k : ℕ) → is_open (slice_get (replicate n New) k) ≡ false
none_open zero k = refl
none_open (suc n) zero = refl
none_open (suc n) (suc k) = none_open n k

length_new : (n : ℕ) → length (replicate n New) ≡ n
length_new zero = refl
length_new (suc n) = ap suc (length_new n)

pub fresh : (chips : Chips) (stages : List Stage) (n done : ℕ) → stages ≡ replicate n New → n ≡ length chips.entries → done ≡ 0 → IsProgress chips stages done
fresh chips stages n done e many zeroed = record {
  long = ap length e ∙ length_new n ∙ many;
  ranked = λ k r h. absurd (not_done n k r (ap (λ s. slice_get s k) (sym e) ∙ h));
  faultless = λ k r entry h there outer avoids. absurd (not_done n k r (ap (λ s. slice_get s k) (sym e) ∙ h));
}

pub fresh_names : (chips : Chips) (stages : List Stage) (n : ℕ) → stages ≡ replicate n New → AreOpen chips stages []
fresh_names chips stages n e k entry there = sym (ap (λ s. is_open (slice_get s k)) e ∙ none_open n k)

pub faultless_at : (chips : Chips) (stages : List Stage) (done k : ℕ) → IsProgress chips stages done → IsDone stages k → (entry : Entry) → slice_get chips.entries k ≡ Some entry → IsFaultless chips (entry.name ∷ []) entry
faultless_at chips stages done k p d entry there = p.faultless k d.0 entry d.1 there [] (λ j q other e lt at. refl)
