use Rattle.std.proofs.Common.{◌≡◌, ◌≤◌, ◌<◌, ℕ}
use Rattle.gate_sim.specs.Inner.Slots.{slot_at}
use Rattle.gate_sim.proofs.marked.calm.Given as goal

abbrev pub invariant-loop-q : goal.invariant-loop-q
invariant-loop-q l = record {
  values : (p : ℕ) → (slot_at l.slots p).value ≡ (slot_at l.fn.slots p).value;
  still : (p : ℕ) → l.from ≤ p → p < l.q → (slot_at l.slots p).change ≡ 0;
  kept : (p : ℕ) → (slot_at l.fn.slots p).change ≡ 0 → (slot_at l.slots p).change ≡ 0;
}
