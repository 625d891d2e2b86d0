use Rattle.std.proofs.Common.{◌≡◌, ℕ, ◌+◌, ◌<◌, length}
use Rattle.std.specs.Prelude.{slice_index}
use Rattle.gate_sim.specs.Inner.Plain.{plain_node}
use Rattle.gate_sim.proofs.plain.push_lanes.Given as goal

abbrev pub invariant-loop-l : goal.invariant-loop-l
invariant-loop-l l = record {
  long : length l.lanes.items ≡ length l.fn.lanes.items + l.l;
  kept : (m : ℕ) → m < length l.fn.lanes.items → slice_index l.lanes.items m ≡ slice_index l.fn.lanes.items m;
  more : (m : ℕ) → m < l.l → slice_index l.lanes.items (length l.fn.lanes.items + m) ≡ plain_node l.k l.node m;
}
