use Rattle.std.proofs.Common.{length, arith, subst}
use Rattle.std.proofs.lemmas.List.{get_or_default}
use Rattle.gate_sim.specs.Inner.Plans.{IsPlacedBefore}
use Rattle.gate_sim.proofs.plan.are_placed_before.Goals as goal

pub returns : goal.returns
returns c e i d less = subst (IsPlacedBefore (length c.args.places.now) c.args.places.now c.args.q) (get_or_default c.args.nodes.now i 0 d less) (c.loop-k.invariant i (omega arith))
