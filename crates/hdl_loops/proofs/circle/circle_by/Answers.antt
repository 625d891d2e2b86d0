use Rattle.std.proofs.Common.{◌<◌, length, arith}
use Rattle.std.proofs.lemmas.Option.{slice_get_within}
use Rattle.hdl_loops.proofs.Lists.{in_get}
use Rattle.hdl_loops.proofs.circle.circle_by.Goals as goal

pub returns : goal.returns
returns c = λ e i.
    let p = in_get c.args.enters.now e i in
    let within : p.0 < length c.args.enters.now = slice_get_within c.args.enters.now p.0 e p.1 in
    let lt : p.0 < c.loop-enter.enter-index = omega arith in
    c.loop-enter.invariant p.0 lt e p.1
