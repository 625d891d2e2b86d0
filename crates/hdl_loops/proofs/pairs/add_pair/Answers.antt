use Rattle.hdl_loops.specs.Inner.Hops.{bit}
use Rattle.hdl_loops.specs.Inner.Pairs.{has_pair}
use Rattle.hdl_loops.specs.declared.pairs.Pair.{Pair}
use Rattle.hdl_loops.proofs.Pairing.{only_more}
use Rattle.hdl_loops.proofs.pairs.add_pair.Goals as goal

pub returns-in-Ok-clause-only : goal.returns-in-Ok-clause-only
returns-in-Ok-clause-only c =
    let old = c.args.pairs.now.keys in
    let p : Pair = record { from = c.args.from; to = c.args.node.now.hop.to } in
    only_more old c.insert.new.self.keys (has_pair old (bit p.from) (bit p.to)) p c.in-Ok.ensures.keys
