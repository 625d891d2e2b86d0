use Rattle.std.proofs.Common.{◌≡◌, ◌<◌, ◌++◌, suc, length, reverse}
use Rattle.hdl_loops.specs.Inner.Tasks.{net_tasks}
use Rattle.hdl_loops.proofs.Tasking.{skip}
use Rattle.hdl_loops.proofs.names.put_way.Given as goal

abbrev pub invariant-loop-k : goal.invariant-loop-k
invariant-loop-k l = record {
  within : l.k < length l.way;
  put : reverse l.tasks.items ≡ net_tasks l.depth (skip (suc l.k) l.way) ++ reverse l.initial.tasks.items;
}

abbrev pub decreases-loop-k : goal.decreases-loop-k
decreases-loop-k l = l.k
