-- Names joined by commas.
use Rattle.std.proofs.Common.{◌≡◌, ◌<◌, ◌≤◌, ◌+◌, ℕ, zero, suc, List, [], ◌∷◌, ◌++◌, length, get_or, take, append_assoc, sym, ap, ◌∙◌, arith}
use Rattle.std.proofs.lemmas.List.{length-take, take_more}
use Rattle.outer_world.specs.Texts.{joined_texts}

-- one more name after others
pub joined_more : (names : List (List ℕ)) (name : List ℕ) → 0 < length names → joined_texts (names ++ name ∷ []) ≡ (joined_texts names ++ 44 ∷ []) ++ name
joined_more [] name some = absurd (omega arith)
joined_more (a ∷ []) name some = sym (append_assoc a (44 ∷ []) name)
joined_more (a ∷ b ∷ rest) name some = ap (λ text. a ++ 44 ∷ text) (joined_more (b ∷ rest) name (omega arith)) ∙ simp append_assoc

-- the first name, and one more
pub joined_first : (names : List (List ℕ)) (k : ℕ) (name text : List ℕ) → k ≤ 0 → k < length names → name ≡ get_or names k name → text ≡ joined_texts (take k names) → text ++ name ≡ joined_texts (take (k + 1) names)
joined_first [] k name text none lt is before = absurd (omega arith)
joined_first (first ∷ names) zero name text none lt is before = ap (λ t. t ++ name) before ∙ is
joined_first (first ∷ names) (suc k) name text none lt is before = absurd (omega arith)

pub joined_next : (names : List (List ℕ)) (k : ℕ) (name text : List ℕ) → 0 < k → k < length names → name ≡ get_or names k name → text ≡ joined_texts (take k names) → (text ++ 44 ∷ []) ++ name ≡ joined_texts (take (k + 1) names)
joined_next names k name text some lt is before =
    let more : take (k + 1) names ≡ take k names ++ name ∷ [] = take_more names k name lt ∙ ap (λ n. take k names ++ n ∷ []) (sym is) in
    let long : 0 < length (take k names) = omega (arith, length-take k names) in
    ap (λ t. (t ++ 44 ∷ []) ++ name) before ∙ sym (joined_more (take k names) name long) ∙ ap joined_texts (sym more)
