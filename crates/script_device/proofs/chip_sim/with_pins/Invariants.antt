-- The nodes so far are there, the pins among them are kept, and so are the named ones; no others are.
use Rattle.std.proofs.Common.{◌≡◌, ◌<◌, ℕ, Some, length}
use Rattle.std.specs.Prelude.{slice_get}
use Rattle.std.specs.List.{All, Contains}
use Rattle.netlist.specs.declared.node.Node.TheVariants.{Pin}
use Rattle.script_device.specs.Simulated.{IsWanted}
use Rattle.script_device.proofs.chip_sim.with_pins.Given as goal

abbrev pub invariant-loop-k : goal.invariant-loop-k
invariant-loop-k l = record {
  there : All (λ j. j < length l.nodes) l.kept.items;
  pins : (j : ℕ) → j < l.k → slice_get l.nodes j ≡ Some Pin → Contains l.kept.items j;
  named : (j : ℕ) → Contains l.named j → Contains l.kept.items j;
  only : All (IsWanted l.nodes l.named) l.kept.items;
}
