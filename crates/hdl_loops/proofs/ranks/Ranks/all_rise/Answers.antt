use Rattle.std.proofs.Common.{arith}
use Rattle.std.proofs.lemmas.Option.{slice_get_within}
use Rattle.hdl_loops.proofs.Bundling.{all_rise}
use Rattle.hdl_loops.proofs.ranks.Ranks.all_rise.Goals as goal

pub returns : goal.returns
returns c = λ e. all_rise c.args.self.now c.args.graph.now
    (λ g b at. let within = slice_get_within c.args.graph.now g b at in c.loop-bundle.invariant g (omega (arith, within)) b at)
