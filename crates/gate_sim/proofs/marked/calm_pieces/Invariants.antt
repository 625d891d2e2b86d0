use Rattle.std.proofs.Common.{◌≡◌, ◌≤◌, ◌<◌, ℕ, false}
use Rattle.netlist.specs.Present.{value_in}
use Rattle.gate_sim.specs.Inner.Pieces.{piece_of}
use Rattle.gate_sim.specs.Inner.Slots.{slot_at}
use Rattle.gate_sim.proofs.marked.calm_pieces.Given as goal

abbrev pub invariant-loop-p : goal.invariant-loop-p
invariant-loop-p l = record {
  values : (q : ℕ) → (slot_at l.slots q).value ≡ (slot_at l.fn.slots q).value;
  done : (q : ℕ) → piece_of q < l.p → (slot_at l.slots q).change ≡ 0;
  off : (q : ℕ) → value_in l.fn.marks (piece_of q) ≡ false → (slot_at l.slots q).change ≡ 0;
  pieces : (m : ℕ) → m < l.p → value_in l.marks m ≡ value_in l.always m;
  rest : (m : ℕ) → l.p ≤ m → value_in l.marks m ≡ value_in l.fn.marks m;
}
