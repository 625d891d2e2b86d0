use Rattle.hdl_loops.specs.Inner.Bundles.{hops_in}
use Rattle.hdl_loops.proofs.Growing.{ranked_no_round}
use Rattle.hdl_loops.proofs.circle.circle_in.Goals as goal

pub returns-then-all_rise : goal.returns-then-all_rise
returns-then-all_rise c = ranked_no_round (hops_in c.args.graph.now) c.in_ok-proposal.proposal.ranks (c.all_rise.ensures c.if-all_rise.true)
