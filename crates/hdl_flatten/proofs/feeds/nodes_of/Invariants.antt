use Rattle.std.proofs.Common.{◌≡◌, map, take}
use Rattle.hdl_flatten.specs.Inner.Puts.{node_of}
use Rattle.hdl_flatten.specs.Inner.Fed.{nodes_in}
use Rattle.hdl_flatten.proofs.feeds.nodes_of.Given as goal

abbrev pub invariant-loop-origin : goal.invariant-loop-origin
invariant-loop-origin l = l.nodes.items ≡ map (node_of l.base (nodes_in l.inputs)) (take l.origin-index l.origins)
