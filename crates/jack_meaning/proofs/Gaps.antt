-- A program has one gap.
use Rattle.std.proofs.Common.{◌≡◌, ℕ, ◌≤◌, arith, ◌∙◌, sym, ap}
use Rattle.jack_meaning.specs.Text.{Program}
use Rattle.jack_meaning.specs.Gap.{IsMost, depth_of, locals_of, gap, IsGap}

most_once : (program : Program) (count : ℕ → ℕ) (x y : ℕ) → IsMost program count x → IsMost program count y → x ≡ y
most_once program count x y a b =
    let above : count a.reached.0 ≤ y = b.bounds a.reached.0 a.reached.1 in
    let below : count b.reached.0 ≤ x = a.bounds b.reached.0 b.reached.1 in
    omega (arith, above, below, a.reached.2, b.reached.2)

pub gap_once : (program : Program) (x y : ℕ) → IsGap program x → IsGap program y → x ≡ y
gap_once program x y a b =
    let depth = most_once program (depth_of program) a.depth b.depth a.deepest b.deepest in
    let most = most_once program (locals_of program) a.most_locals b.most_locals a.most b.most in
    a.sum ∙ ap (λ d. gap d a.most_locals) depth ∙ ap (gap b.depth) most ∙ sym b.sum
