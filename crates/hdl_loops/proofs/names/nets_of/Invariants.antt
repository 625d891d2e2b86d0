use Rattle.std.proofs.Common.{reverse}
use Rattle.hdl_check.specs.Whole.{chips_in}
use Rattle.hdl_plans.specs.Loops.{IsLoop}
use Rattle.hdl_loops.specs.Inner.Report.{names_of, AreTold}
use Rattle.hdl_loops.specs.Inner.Tasks.{AreTasks, Goes, room, tasks_weight}
use Rattle.hdl_loops.proofs.names.nets_of.Given as goal

abbrev pub invariant-loop-memories : goal.invariant-loop-memories
invariant-loop-memories l = record {
  right : AreTold (chips_in l.entries l.memories) l.told;
  tasks : AreTasks (chips_in l.entries l.memories) l.known (reverse l.tasks.items);
  goes : Goes (chips_in l.entries l.memories) (IsLoop (chips_in l.entries l.memories) l.entry) (reverse l.tasks.items) (names_of l.told);
}

abbrev pub decreases-loop-memories : goal.decreases-loop-memories
decreases-loop-memories l = tasks_weight (room l.known) (reverse l.tasks.items)
