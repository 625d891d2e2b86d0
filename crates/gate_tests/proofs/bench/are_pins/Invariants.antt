use Rattle.std.proofs.Common.{◌≡◌, Some, slice_get, take}
use Rattle.std.specs.List.{All}
use Rattle.netlist.specs.declared.node.Node.TheVariants.{Pin}
use Rattle.gate_tests.proofs.bench.are_pins.Given as goal

abbrev pub invariant-loop-node : goal.invariant-loop-node
invariant-loop-node l = All (λ node. slice_get l.net.nodes node ≡ Some Pin) (take l.node-index l.nodes)
