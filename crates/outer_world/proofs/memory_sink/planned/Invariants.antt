use Rattle.std.proofs.Common.{◌≡◌, drop}
use Rattle.outer_world.specs.Plans.{planned_bytes}
use Rattle.outer_world.proofs.memory_sink.planned.Given as goal

abbrev pub invariant-loop-fail : goal.invariant-loop-fail
invariant-loop-fail l = planned_bytes (drop l.fail-index l.fails) l.call ≡ planned_bytes l.fails l.call
