use Rattle.std.proofs.Common.{◌≡◌, ◌≤◌, ◌<◌, ℕ, false, Some}
use Rattle.std.specs.Prelude.{slice_get, slice_index}
use Rattle.netlist.specs.declared.node.Node.TheVariants.{Flip, Pin}
use Rattle.netlist.specs.Present.{value_in}
use Rattle.gate_sim.specs.declared.plan.Take.{Take}
use Rattle.gate_sim.specs.Inner.Pieces.{piece_of, IsGiven}
use Rattle.gate_sim.specs.Inner.Plans.{place_of}
use Rattle.gate_sim.specs.Inner.Slots.{word_lane}
use Rattle.gate_sim.proofs.leaving.take_some.Given as goal

abbrev pub invariant-loop-t : goal.invariant-loop-t
invariant-loop-t l = record {
  pins : (k : ℕ) → slice_get l.nodes k ≡ Some Pin → word_lane l.start (place_of l.places k) ≡ word_lane l.fn.start (place_of l.places k);
  given : (k i j : ℕ) (take : Take) → l.from ≤ j → j < l.t → slice_get l.nodes k ≡ Some (Flip i) → IsGiven l.places l.takes k j take → word_lane l.start (place_of l.places k) ≡ word_lane l.fixed (place_of l.places k);
  kept : (k i : ℕ) → slice_get l.nodes k ≡ Some (Flip i) → word_lane l.fn.start (place_of l.places k) ≡ word_lane l.fixed (place_of l.places k) → word_lane l.start (place_of l.places k) ≡ word_lane l.fixed (place_of l.places k);
  grows : (m : ℕ) → value_in l.marks m ≡ false → value_in l.fn.marks m ≡ false;
  same : (q : ℕ) → value_in l.marks (piece_of q) ≡ false → slice_index l.start q ≡ slice_index l.fn.start q;
}
