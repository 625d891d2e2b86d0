use Rattle.std.proofs.Common.{slice_index, arith}
use Rattle.hdl_flatten.proofs.Heads.{all_mapped}
use Rattle.hdl_flatten.proofs.parts.renumber.Goals as goal

pub returns : goal.returns
returns c = all_mapped (slice_index c.args.places.now) c.args.nodes.now _ (omega arith) (λ k lt. c.loop-node.invariant.done k (omega (arith, lt)))
