use Rattle.std.proofs.Common.{◌≡◌}
use Rattle.hdl_check.specs.Tables.{bits_of}
use Rattle.hdl_flatten.specs.Flat.{nodes_at}
use Rattle.hdl_flatten.specs.Inner.Wired.{wires_of}
use Rattle.hdl_flatten.specs.Inner.Fed.{nodes_in}
use Rattle.hdl_flatten.specs.Inner.Putting.{own_nodes}
use Rattle.hdl_flatten.proofs.flat.pin_at.Given as goal

abbrev pub invariant-loop-bit : goal.invariant-loop-bit
invariant-loop-bit l = l.nodes.items ≡ nodes_at (own_nodes (wires_of l.wires) l.base (nodes_in l.inputs)) (bits_of l.pin.name 0 l.bit)
