-- Subroutines of which some have no commands, one after another.
use Rattle.std.proofs.Common.{◌≡◌, ◌+◌, ◌≤◌, ◌++◌, ℕ, Bool, true, false, List, [], ◌∷◌, Option, None, length, drop, refl, ap, ◌∙◌, arith}
use Rattle.jack_meaning.specs.Text.{Subroutine}
use Rattle.jack_compiler.specs.Resolved.{AreInOrder}
use Rattle.jack_compiler.specs.Inner.Hollow.{is_wanted, whole_if, whole_where}
use Rattle.jack_compiler.proofs.Sectioned.{AreUnder}

pub whole_none : (g : ℕ) (subs : List Subroutine) → whole_where None g subs ≡ subs
whole_none g [] = refl
whole_none g (sub ∷ subs) = ap (λ z. sub ∷ z) (whole_none (g + 1) subs)

pub class_same : (b : Bool) (sub : Subroutine) → (whole_if b sub).class ≡ sub.class
class_same true sub = refl
class_same false sub = refl

pub length_whole : (marks : Option (List Bool)) (g : ℕ) (subs : List Subroutine) → length (whole_where marks g subs) ≡ length subs
length_whole marks g [] = refl
length_whole marks g (sub ∷ subs) = let ih = length_whole marks (g + 1) subs in omega arith

pub whole_last : (marks : Option (List Bool)) (g : ℕ) (subs : List Subroutine) (sub : Subroutine)
    → whole_where marks g (subs ++ sub ∷ []) ≡ whole_where marks g subs ++ whole_if (is_wanted marks (g + length subs)) sub ∷ []
whole_last marks g [] sub = ap (λ (z : ℕ). whole_if (is_wanted marks z) sub ∷ []) (let z : g ≡ g + 0 = omega arith in z)
whole_last marks g (s ∷ subs) sub =
    ap (λ z. whole_if (is_wanted marks g) s ∷ z)
    (whole_last marks (g + 1) subs sub
    ∙ ap (λ (z : ℕ). whole_where marks (g + 1) subs ++ whole_if (is_wanted marks z) sub ∷ []) (let z : g + 1 + length subs ≡ g + length (s ∷ subs) = omega arith in z))

pub whole_rest : (marks : Option (List Bool)) (subs : List Subroutine) → drop 1 (whole_where marks 0 subs) ≡ whole_where marks 1 (drop 1 subs)
whole_rest marks [] = refl
whole_rest marks (sub ∷ subs) = refl

-- they stand in the same classes
pub whole_ordered : (marks : Option (List Bool)) (g k : ℕ) (subs : List Subroutine) → AreInOrder k subs → AreInOrder k (whole_where marks g subs)
whole_ordered marks g k [] h = tt
whole_ordered marks g k (sub ∷ subs) h = by_test (is_wanted marks g) h.0 (whole_ordered marks (g + 1) sub.class subs h.1)
  where
    by_test : (b : Bool) → k ≤ sub.class → AreInOrder sub.class (whole_where marks (g + 1) subs)
        → (k ≤ (whole_if b sub).class) × AreInOrder (whole_if b sub).class (whole_where marks (g + 1) subs)
    by_test true a o = (a, o)
    by_test false a o = (a, o)

pub whole_under : (marks : Option (List Bool)) (g k : ℕ) (subs : List Subroutine) → AreUnder k subs → AreUnder k (whole_where marks g subs)
whole_under marks g k [] h = tt
whole_under marks g k (sub ∷ subs) h = (let same = class_same (is_wanted marks g) sub in let below = h.0 in omega arith, whole_under marks (g + 1) k subs h.1)
