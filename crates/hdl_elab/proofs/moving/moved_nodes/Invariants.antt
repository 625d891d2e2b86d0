use Rattle.std.proofs.Common.{◌≡◌, map, take, slice_index}
use Rattle.hdl_elab.proofs.moving.moved_nodes.Given as goal

abbrev pub invariant-loop-number : goal.invariant-loop-number
invariant-loop-number l = l.moved.items ≡ map (slice_index l.places) (take l.number-index l.nodes)
