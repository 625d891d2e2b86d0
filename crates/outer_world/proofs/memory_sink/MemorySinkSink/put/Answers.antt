use Rattle.std.proofs.Common.{rules, inl, inr}
use Rattle.outer_world.proofs.Planned.{planned_call}
use Rattle.outer_world.proofs.memory_sink.MemorySinkSink.put.Goals.{else-is_none-via-then-is_none+else-taken-piece, else-is_none-via-else-is_none}
use Rattle.outer_world.proofs.memory_sink.MemorySinkSink.put.Goals as goal

pub returns-clause-planned : goal.returns-clause-planned
returns-clause-planned c = rw (← c.self.view_is) (elim c.else-is_none.branch [
  | else-is_none-via-then-is_none+else-taken-piece w ↦ inr (search rules)
  | else-is_none-via-else-is_none w ↦ inl (planned_call c.planned-plan.result _ (search rules) (search rules))
])
