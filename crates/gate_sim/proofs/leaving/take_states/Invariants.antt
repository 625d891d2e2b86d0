use Rattle.std.proofs.Common.{◌≡◌, ◌≤◌, ◌<◌, ℕ, false, Some}
use Rattle.std.specs.Prelude.{slice_get, slice_index}
use Rattle.netlist.specs.declared.node.Node.TheVariants.{Flip, Pin}
use Rattle.netlist.specs.Present.{value_in}
use Rattle.gate_sim.specs.declared.plan.Take.{Take}
use Rattle.gate_sim.specs.Inner.Pieces.{piece_of, IsGiven}
use Rattle.gate_sim.specs.Inner.Plans.{place_of}
use Rattle.gate_sim.specs.Inner.Slots.{word_lane}
use Rattle.gate_sim.proofs.leaving.take_states.Given as goal

abbrev pub invariant-loop-c : goal.invariant-loop-c
invariant-loop-c l = record {
  pins : (k : ℕ) → slice_get l.nodes k ≡ Some Pin → word_lane l.start (place_of l.places k) ≡ word_lane l.fn.start (place_of l.places k);
  given : (k i t : ℕ) (take : Take) → piece_of t < l.c → slice_get l.nodes k ≡ Some (Flip i) → IsGiven l.places l.takes k t take → word_lane l.start (place_of l.places k) ≡ word_lane l.fixed (place_of l.places k);
  kept : (k i : ℕ) → slice_get l.nodes k ≡ Some (Flip i) → word_lane l.fn.start (place_of l.places k) ≡ word_lane l.fixed (place_of l.places k) → word_lane l.start (place_of l.places k) ≡ word_lane l.fixed (place_of l.places k);
  grows : (m : ℕ) → value_in l.marks m ≡ false → value_in l.fn.marks m ≡ false;
  same : (q : ℕ) → value_in l.marks (piece_of q) ≡ false → slice_index l.start q ≡ slice_index l.fn.start q;
  later : (d : ℕ) → l.c ≤ d → value_in l.due d ≡ value_in l.fn.due d;
}
