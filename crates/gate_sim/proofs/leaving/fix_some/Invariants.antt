use Rattle.std.proofs.Common.{◌≡◌, ◌≤◌, ◌<◌, ℕ, Some}
use Rattle.std.specs.Prelude.{slice_get}
use Rattle.netlist.specs.declared.node.Node.TheVariants.{Flip}
use Rattle.netlist.specs.Present.{value_in}
use Rattle.gate_sim.specs.declared.plan.Take.{Take}
use Rattle.gate_sim.specs.Inner.Pieces.{IsGiven}
use Rattle.gate_sim.specs.Inner.Plans.{place_of}
use Rattle.gate_sim.specs.Inner.Slots.{values_of, word_lane}
use Rattle.gate_sim.proofs.leaving.fix_some.Given as goal

abbrev pub invariant-loop-t : goal.invariant-loop-t
invariant-loop-t l = record {
  given : (k i j : ℕ) (take : Take) → l.from ≤ j → j < l.t → slice_get l.nodes k ≡ Some (Flip i) → IsGiven l.places l.takes k j take → word_lane l.fixed (place_of l.places k) ≡ value_in (values_of l.places l.slots) i;
  kept : (k i : ℕ) → slice_get l.nodes k ≡ Some (Flip i) → word_lane l.fn.fixed (place_of l.places k) ≡ value_in (values_of l.places l.slots) i → word_lane l.fixed (place_of l.places k) ≡ value_in (values_of l.places l.slots) i;
}
