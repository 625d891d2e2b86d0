use Rattle.std.proofs.Common.{arith}
use Rattle.std.proofs.lemmas.Option.{slice_get_within}
use Rattle.hdl_loops.proofs.Lists.{in_get}
use Rattle.hdl_loops.proofs.ranks.Ranks.are_above.Goals as goal

pub returns : goal.returns
returns c = λ e j i.
    let q = in_get c.args.joints.now j i in
    let within = slice_get_within c.args.joints.now q.0 j q.1 in
    c.loop-joint.invariant q.0 (omega (arith, within)) j q.1
