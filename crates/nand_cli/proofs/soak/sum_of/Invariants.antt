-- The sum of the words so far.
use Rattle.std.proofs.Common.{◌≡◌, ◌+◌, ◌%◌}
use Rattle.nand_cli.specs.Commands.Soak.{total}
use Rattle.nand_cli.proofs.soak.sum_of.Given as goal

abbrev pub invariant-loop-place : goal.invariant-loop-place
invariant-loop-place g l = l.sum ≡ total (λ i. (g.L.Level.reading l.level).word (2048 + i)) l.place % 65536
