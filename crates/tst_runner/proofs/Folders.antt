-- The folder of a path: what stands before its last slash.
use Rattle.std.proofs.Common.{◌≡◌, ◌<◌, ℕ, zero, suc, Bool, true, false, List, [], ◌∷◌, length, take, get_or, refl, ap, ◌∙◌, arith, if◌then◌else◌}
use Rattle.std.specs.Prelude.{◌==◌}
use Rattle.std.proofs.lemmas.List.Folds.{list_any_at}
use Rattle.std.proofs.lemmas.Bool.Decides.{nat_tests}
use Rattle.outer_world.specs.Files.{has_slash}
use Rattle.tst_runner.specs.Setting.{folder_of}

-- no slash stands in it
abbrev NoSlash : List ℕ → Type 0
NoSlash bs = (i : ℕ) → i < length bs → get_or bs i 0 ≡ 47 → ⊥

not_slash : (c : ℕ) → (c ≡ 47 → ⊥) → (c == 47) ≡ false
not_slash c h = grind (arith, nat_tests)

slash_is : (c : ℕ) → c ≡ 47 → (c == 47) ≡ true
slash_is c h = grind (arith, nat_tests)

none_has : (bs : List ℕ) → NoSlash bs → has_slash bs ≡ false
none_has [] h = refl
none_has (c ∷ bs) h =
    let first = not_slash c (h 0 (omega arith)) in
    rw first (none_has bs (λ i lt. h (suc i) (omega arith)))

some_has : (bs : List ℕ) (k : ℕ) → k < length bs → get_or bs k 0 ≡ 47 → has_slash bs ≡ true
some_has bs k lt is = list_any_at (λ c. c == 47) bs k 0 lt (slash_is _ is)

pub no_folder : (bs : List ℕ) → NoSlash bs → folder_of bs ≡ []
no_folder [] h = refl
no_folder (c ∷ bs) h = ap (λ (b : Bool). if b then c ∷ folder_of bs else []) (none_has bs (λ i lt. h (suc i) (omega arith)))

pub folder_before : (bs : List ℕ) (k : ℕ) → k < length bs → get_or bs k 0 ≡ 47 → ((i : ℕ) → k < i → i < length bs → get_or bs i 0 ≡ 47 → ⊥) → folder_of bs ≡ take k bs
folder_before [] k lt is last = absurd (omega arith)
folder_before (c ∷ bs) zero lt is last = ap (λ (b : Bool). if b then c ∷ folder_of bs else []) (none_has bs (λ i below. last (suc i) (omega arith) (omega arith)))
folder_before (c ∷ bs) (suc k) lt is last =
    ap (λ (b : Bool). if b then c ∷ folder_of bs else []) (some_has bs k (omega arith) is)
    ∙ ap (λ (more : List ℕ). c ∷ more) (folder_before bs k (omega arith) is (λ i above below. last (suc i) (omega arith) (omega arith)))
