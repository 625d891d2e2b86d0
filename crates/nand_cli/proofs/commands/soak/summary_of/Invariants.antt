-- What is reported of the programs so far.
use Rattle.std.proofs.Common.{◌≤◌, ◌*◌}
use Rattle.nand_cli.specs.Commands.Soak.{AreOutcomes}
use Rattle.nand_cli.proofs.commands.soak.summary_of.Given as goal

abbrev pub invariant-loop-before : goal.invariant-loop-before
invariant-loop-before l = AreOutcomes l.seed l.before l.told.agree l.told.steps l.told.sum × (l.told.agree ≤ l.before) × (l.told.steps ≤ l.before * 4294967295)
