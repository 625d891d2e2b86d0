-- The places so far are given.
use Rattle.std.proofs.Common.{◌≡◌, ◌<◌, ℕ, length}
use Rattle.std.specs.Prelude.{slice_index}
use Rattle.script_device.proofs.chip_sim.places_by_node.Given as goal

abbrev pub invariant-loop-i : goal.invariant-loop-i
invariant-loop-i l = (length l.places.items ≡ l.count) × ((j : ℕ) → j < l.i → slice_index l.places.items (slice_index l.kept j) ≡ slice_index l.place j)
