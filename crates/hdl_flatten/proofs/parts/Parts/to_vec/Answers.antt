use Rattle.hdl_flatten.proofs.Heads.{more_taken}
use Rattle.hdl_flatten.proofs.parts.Parts.to_vec.Goals as goal

pub loop-k-preserved : goal.loop-k-preserved
loop-k-preserved c = more_taken c.args.self.now c.loop-k.parts.items c.push.new.self.items c.loop-k.k _ _ c.loop-k.invariant c.in_ok-push.ensures.items c.in_ok-copied.ensures c.get.ensures
