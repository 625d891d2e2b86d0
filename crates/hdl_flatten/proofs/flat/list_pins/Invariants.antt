use Rattle.std.proofs.Common.{◌≡◌, ◌++◌, map, take}
use Rattle.hdl_flatten.specs.Flat.{pin_at}
use Rattle.hdl_flatten.specs.Inner.Wired.{wires_of}
use Rattle.hdl_flatten.specs.Inner.Fed.{nodes_in}
use Rattle.hdl_flatten.specs.Inner.Putting.{own_nodes}
use Rattle.hdl_flatten.proofs.flat.list_pins.Given as goal

abbrev pub invariant-loop-pin : goal.invariant-loop-pin
invariant-loop-pin l = l.listed.items ≡ l.fn.listed.items ++ map (pin_at (own_nodes (wires_of l.wires) l.base (nodes_in l.inputs))) (take l.pin-index l.pins)
