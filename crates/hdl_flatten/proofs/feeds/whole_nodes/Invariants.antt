use Rattle.std.proofs.Common.{◌≡◌, [], map, take}
use Rattle.hdl_flatten.specs.Inner.Wired.{bit_of, wires_of, origins_at}
use Rattle.hdl_flatten.specs.Inner.Puts.{node_of}
use Rattle.hdl_flatten.proofs.feeds.whole_nodes.Given as goal

abbrev pub invariant-loop-bit : goal.invariant-loop-bit
invariant-loop-bit l = l.nodes.items ≡ map (node_of 0 []) (origins_at (wires_of l.wires) (map bit_of (take l.bit-index l.bits)))
