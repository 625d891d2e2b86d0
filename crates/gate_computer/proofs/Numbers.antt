-- The number that nodes spell, bit by bit.
use Rattle.std.proofs.Common.{◌<◌, ◌≤◌, ◌^◌, ℕ, Bool, List, drop, length, arith, length-drop}
use Rattle.std.proofs.Math.Nat.{pow-le-pow_right}
use Rattle.netlist.specs.Value.{spelled_number}
use Rattle.netlist.proofs.Rows.{spelled_below}

-- all but the first of at most sixteen bits
pub short : (row : ℕ → Bool) (nodes : List ℕ) (k : ℕ) → 0 < k → length nodes ≤ 16 → spelled_number row (drop k nodes) < 2 ^ 15
short row nodes k some wide =
    let b = spelled_below row (drop k nodes) in
    let l = length-drop k nodes in
    let le : length (drop k nodes) ≤ 15 = omega (arith, l, some, wide) in
    let p : 2 ^ length (drop k nodes) ≤ 2 ^ 15 = pow-le-pow_right {n = 2} (omega arith) le in
    omega (arith, b, p)
