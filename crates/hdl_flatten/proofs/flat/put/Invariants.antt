use Rattle.hdl_check.specs.Inner.Progress.{chips_of}
use Rattle.hdl_flatten.specs.Inner.Unfinished.{ArePending, all_steps}
use Rattle.hdl_flatten.proofs.flat.put.Given as goal

abbrev pub invariant-chips : goal.invariant-chips
invariant-chips l = ArePending (chips_of l.catalog) l.plans (record { place = l.place; inputs = l.fn.inputs; old = l.fn.flat }) l.stack.items l.flat

abbrev pub decreases-chips : goal.decreases-chips
decreases-chips l = all_steps l.plans l.stack.items
