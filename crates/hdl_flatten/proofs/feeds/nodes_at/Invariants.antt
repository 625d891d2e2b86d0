use Rattle.std.proofs.Common.{[], take}
use Rattle.hdl_flatten.specs.Inner.Wired.{wires_of, FindsMore}
use Rattle.hdl_flatten.specs.Inner.Fed.{nodes_in, as_nodes}
use Rattle.hdl_flatten.proofs.feeds.nodes_at.Given as goal

abbrev pub invariant-loop-k : goal.invariant-loop-k
invariant-loop-k l = FindsMore [] (wires_of l.nodes) (as_nodes l.base (nodes_in l.inputs) (take l.k (wires_of l.wires)))
