use Rattle.std.proofs.Common.{◌≡◌, ℕ, Some, slice_get}
use Rattle.std.proofs.lemmas.List.Elements.{All-more}
use Rattle.netlist.specs.declared.node.Node.TheVariants.{Pin}
use Rattle.gate_tests.proofs.Taken.{whole}
use Rattle.gate_tests.proofs.bench.are_pins.Goals as goal

pub loop-node-preserved : goal.loop-node-preserved
loop-node-preserved c = All-more (λ (node : ℕ). slice_get c.args.net.now.nodes node ≡ Some Pin) c.args.nodes.now c.loop-node.node-index 0 c.loop-node-test.true c.loop-node.invariant (c.is_pin.ensures c.if-not-is_pin.false)

pub returns : goal.returns
returns c = λ _. whole (λ (node : ℕ). slice_get c.args.net.now.nodes node ≡ Some Pin) c.args.nodes.now c.loop-node.node-index c.loop-node-test.false c.loop-node.invariant
