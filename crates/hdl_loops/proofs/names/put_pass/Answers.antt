use Rattle.hdl_loops.proofs.Tasking.{from_top}
use Rattle.hdl_loops.proofs.names.put_pass.Goals as goal

pub returns : goal.returns
returns c = from_top c.push.new.self.items c.args.tasks.now.items _ c.in_ok-push.ensures.items
