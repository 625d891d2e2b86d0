use Rattle.std.proofs.Common.{◌≤◌}
use Rattle.gate_sim.proofs.pieces.is_between.Given as goal

abbrev pub invariant-loop : goal.invariant-loop
invariant-loop l = record {
  from : l.first ≤ l.from;
  end : l.end ≤ l.last;
}
