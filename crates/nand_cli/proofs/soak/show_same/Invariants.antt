-- The words so far are the same.
use Rattle.std.proofs.Common.{◌≡◌, ℕ, ◌≤◌, ◌<◌}
use Rattle.nand_cli.proofs.soak.show_same.Given as goal

abbrev pub invariant-loop-address : goal.invariant-loop-address
invariant-loop-address g l = (a : ℕ) → 2048 ≤ a → a < l.address → (g.B.Level.reading l.second).word a ≡ (g.A.Level.reading l.first).word a
