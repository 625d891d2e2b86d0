use Rattle.std.proofs.Common.{◌≡◌, ◌<◌, Some, length, slice_get}
use Rattle.std.specs.List.{All}
use Rattle.netlist.specs.declared.node.Node.TheVariants.{Pin}
use Rattle.gate_tests.proofs.memories.agree.Given as goal

abbrev pub invariant-loop-cycle : goal.invariant-loop-cycle
invariant-loop-cycle l =
    (All (λ node. slice_get l.one.sim.net.nodes node ≡ Some Pin) l.one.inputs.items)
    × (All (λ node. node < length l.one.sim.net.nodes) l.one.outputs.items)
    × (All (λ node. slice_get l.other.sim.net.nodes node ≡ Some Pin) l.other.inputs.items)
    × (All (λ node. node < length l.other.sim.net.nodes) l.other.outputs.items)
