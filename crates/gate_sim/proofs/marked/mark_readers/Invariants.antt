use Rattle.std.proofs.Common.{◌≡◌, ◌≤◌, ◌<◌, ℕ, true, false, length}
use Rattle.std.specs.Prelude.{slice_index}
use Rattle.netlist.specs.Present.{value_in}
use Rattle.gate_sim.proofs.marked.mark_readers.Given as goal

abbrev pub invariant-loop-i : goal.invariant-loop-i
invariant-loop-i l = record {
  grows : (m : ℕ) → value_in l.marks m ≡ false → value_in l.fn.marks m ≡ false;
  told : (j : ℕ) → l.from ≤ j → j < l.i → j < length l.list → slice_index l.list j < length l.marks → value_in l.marks (slice_index l.list j) ≡ true;
}
