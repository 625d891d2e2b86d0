use Rattle.std.proofs.Common.{arith}
use Rattle.std.proofs.lemmas.Option.{slice_get_within}
use Rattle.hdl_loops.proofs.doors.Doors.of.Goals as goal

pub returns : goal.returns
returns c = record {
  right = c.loop-g.invariant.right;
  all = λ g j b a at here. let within = slice_get_within c.args.graph.now g b at in c.loop-g.invariant.all g (omega (arith, within)) j b a at here;
}
