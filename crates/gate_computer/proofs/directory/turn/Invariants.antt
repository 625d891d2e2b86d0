use Rattle.std.proofs.Common.{◌≡◌, ◌≤◌, ◌++◌, drop, length}
use Rattle.hdl_flatten.specs.Trees.{bit_count}
use Rattle.gate_computer.specs.Inner.Directory.{turned_nodes}
use Rattle.gate_computer.proofs.directory.turn.Given as goal

abbrev pub invariant-loop-pin : goal.invariant-loop-pin
invariant-loop-pin l = (l.turned.items ++ turned_nodes (drop l.pin-index l.pins) l.rest ≡ turned_nodes l.pins l.nodes) × (bit_count (drop l.pin-index l.pins) ≤ length l.rest)
