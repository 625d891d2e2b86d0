use Rattle.std.proofs.Common.{◌≡◌, ◌+◌}
use Rattle.word16.specs.Words.{has_bit}
use Rattle.gate_sim.specs.Inner.Slots.{count_below}
use Rattle.gate_sim.proofs.pass.tick_lanes.Given as goal

abbrev pub invariant-loop-l : goal.invariant-loop-l
invariant-loop-l g l = l.steps ≡ l.fn.steps + count_below (has_bit l.taken) l.l
