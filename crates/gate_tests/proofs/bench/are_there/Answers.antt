use Rattle.std.proofs.Common.{◌<◌, ℕ, length}
use Rattle.std.proofs.lemmas.List.Elements.{All-more}
use Rattle.gate_tests.proofs.Taken.{whole}
use Rattle.gate_tests.proofs.bench.are_there.Goals as goal

pub loop-node-preserved : goal.loop-node-preserved
loop-node-preserved c = All-more (λ (node : ℕ). node < length c.args.net.now.nodes) c.args.nodes.now c.loop-node.node-index 0 c.loop-node-test.true c.loop-node.invariant (c.is_there.ensures c.if-not-is_there.false)

pub returns : goal.returns
returns c = λ _. whole (λ (node : ℕ). node < length c.args.net.now.nodes) c.args.nodes.now c.loop-node.node-index c.loop-node-test.false c.loop-node.invariant
