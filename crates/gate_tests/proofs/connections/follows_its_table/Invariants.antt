use Rattle.std.proofs.Common.{◌≡◌, ◌<◌, Some, length, slice_get}
use Rattle.std.specs.List.{All}
use Rattle.netlist.specs.declared.node.Node.TheVariants.{Pin}
use Rattle.gate_tests.proofs.connections.follows_its_table.Given as goal

abbrev pub invariant-loop-inputs : goal.invariant-loop-inputs
invariant-loop-inputs l =
    (All (λ node. slice_get l.chip.sim.net.nodes node ≡ Some Pin) l.chip.inputs.items)
    × (All (λ node. node < length l.chip.sim.net.nodes) l.chip.outputs.items)
