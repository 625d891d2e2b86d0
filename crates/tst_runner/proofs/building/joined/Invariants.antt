use Rattle.std.proofs.Common.{◌≡◌, take}
use Rattle.outer_world.specs.Texts.{joined_texts}
use Rattle.tst_runner.proofs.building.joined.Given as goal

abbrev pub invariant-loop-k : goal.invariant-loop-k
invariant-loop-k l = l.text.items ≡ joined_texts (take l.k l.names)
