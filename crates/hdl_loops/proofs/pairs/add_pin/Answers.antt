use Rattle.std.proofs.Common.{ℕ, List, [], below_more, subst}
use Rattle.hdl_plans.specs.Loops.{bit_at}
use Rattle.hdl_loops.specs.Inner.Bundles.{hops_in}
use Rattle.hdl_loops.specs.Inner.Pairs.{BitLeads}
use Rattle.hdl_loops.proofs.Pairing.{pairs_kept, leads_kept}
use Rattle.hdl_loops.proofs.pairs.add_pin.Goals as goal

pub loop-b-preserved : goal.loop-b-preserved
loop-b-preserved c =
    let hs = hops_in c.args.graph.now in
    let ends = c.args.ends.now in
    let old = c.loop-b.pairs.keys in
    let new = c.add_bit.new.pairs.keys in
    let name = c.args.pin.now.name in
    let e = c.in_ok-add_bit.ensures in
    record {
      right = e.right;
      kept = pairs_kept c.args.pairs.now.keys old new c.loop-b.invariant.kept e.kept;
      there = below_more _ _ (λ b lt. leads_kept hs ends old new (bit_at [] name b) e.kept (c.loop-b.invariant.there b lt))
          (subst (λ (n : List ℕ). BitLeads hs ends new (bit_at [] n c.loop-b.b)) c.as_bytes.ensures e.there);
    }
