-- Lists that are made from their places, after others.
use Rattle.std.proofs.Common.{◌≡◌, ℕ, suc, ◌+◌, List, [], ◌∷◌, ◌++◌, sym, ap, ◌∙◌, add-one, append_assoc}
use Rattle.hdl_tree.specs.declared.tree.Part.{Part}
use Rattle.chip_basic.specs.Hdl.{each}
use Rattle.chip_basic.proofs.Rows.{one_more}

pub one_more_behind : (xs ys : List Part) (f : ℕ → Part) (n : ℕ) → ys ≡ xs ++ each n f → ys ++ f n ∷ [] ≡ xs ++ each (n + 1) f
one_more_behind xs ys f n e = ap (λ zs. zs ++ f n ∷ []) e ∙ append_assoc xs (each n f) (f n ∷ []) ∙ ap (λ zs. xs ++ zs) (sym (one_more f n))

pub next_behind : (xs ys : List Part) (f : ℕ → Part) (n : ℕ) → ys ≡ xs ++ each n (λ i. f (suc i)) → ys ++ f (n + 1) ∷ [] ≡ xs ++ each (n + 1) (λ i. f (suc i))
next_behind xs ys f n e = ap (λ k. ys ++ f k ∷ []) (add-one n) ∙ one_more_behind xs ys (λ i. f (suc i)) n e
