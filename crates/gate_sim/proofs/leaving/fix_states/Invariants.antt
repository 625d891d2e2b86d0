use Rattle.std.proofs.Common.{◌≡◌, ◌≤◌, ◌<◌, ◌+◌, ℕ, false, Some, length}
use Rattle.std.specs.Prelude.{slice_get}
use Rattle.netlist.specs.declared.node.Node.TheVariants.{Flip}
use Rattle.netlist.specs.Present.{value_in}
use Rattle.gate_sim.specs.declared.plan.Take.{Take}
use Rattle.gate_sim.specs.Inner.Pieces.{piece_of, pieces_in, IsGiven}
use Rattle.gate_sim.specs.Inner.Plans.{place_of}
use Rattle.gate_sim.specs.Inner.Slots.{values_of, word_lane}
use Rattle.gate_sim.proofs.leaving.fix_states.Given as goal

abbrev pub invariant-loop-c : goal.invariant-loop-c
invariant-loop-c l = record {
  given : (k i t : ℕ) (take : Take) → piece_of t < l.c → slice_get l.nodes k ≡ Some (Flip i) → IsGiven l.places l.takes k t take → word_lane l.fixed (place_of l.places k) ≡ value_in (values_of l.places l.slots) i;
  kept : (k i : ℕ) → slice_get l.nodes k ≡ Some (Flip i) → word_lane l.fn.fixed (place_of l.places k) ≡ value_in (values_of l.places l.slots) i → word_lane l.fixed (place_of l.places k) ≡ value_in (values_of l.places l.slots) i;
  pieces : (m : ℕ) → m < pieces_in (length l.slots) → value_in l.marks m ≡ value_in l.fn.marks m;
  rest : (d : ℕ) → l.c ≤ d → value_in l.marks (pieces_in (length l.slots) + d) ≡ value_in l.fn.marks (pieces_in (length l.slots) + d);
  off : (d : ℕ) → d < l.c → value_in l.due d ≡ false → (value_in l.fn.due d ≡ false) × (value_in l.fn.marks (pieces_in (length l.slots) + d) ≡ false);
  later : (d : ℕ) → l.c ≤ d → value_in l.due d ≡ value_in l.fn.due d;
}
