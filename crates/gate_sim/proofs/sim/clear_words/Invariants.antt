use Rattle.std.proofs.Common.{◌≡◌, ℕ, ◌<◌, length}
use Rattle.netlist.specs.Words.{row_of, word_at}
use Rattle.gate_sim.proofs.sim.clear_words.Given as goal

abbrev pub invariant-loop-b : goal.invariant-loop-b
invariant-loop-b l = record {
  sizes : (i : ℕ) → length (row_of l.memory i) ≡ length (row_of l.fn.memory i);
  zeros : (i a : ℕ) → i < l.b → word_at l.memory i a ≡ 0;
}
