use Rattle.std.proofs.Common.{◌≡◌, ◌≤◌, ℕ, false, length}
use Rattle.netlist.specs.Present.{value_in}
use Rattle.netlist.specs.Words.{word_at}
use Rattle.gate_sim.specs.Inner.Pieces.{pieces_in, AreIdle, AreIdleTakes}
use Rattle.gate_sim.specs.Inner.Slots.{bits_of, Passes}
use Rattle.gate_sim.proofs.marked.pass_piece.Given as goal

abbrev pub invariant-loop-q : goal.invariant-loop-q
invariant-loop-q g l = record {
  more : l.fn.steps ≤ l.steps;
  passes : Passes l.nodes l.blocks l.lanes l.places (value_in (bits_of l.places l.start)) (word_at l.memory) (value_in l.written) l.whole l.from l.q l.fn.slots l.slots l.fn.steps l.steps;
  grows : (m : ℕ) → value_in l.marks m ≡ false → value_in l.fn.marks m ≡ false;
  idle : AreIdle (length l.nodes) l.lanes (value_in (bits_of l.places l.start)) l.ops l.slots l.marks;
  takes : AreIdleTakes (pieces_in (length l.ops)) l.takes l.slots l.marks;
}
