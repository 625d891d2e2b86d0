use Rattle.std.proofs.Common.{reverse, arith}
use Rattle.hdl_loops.proofs.Tasking.{put_none}
use Rattle.hdl_loops.proofs.names.put_way.Goals as goal

pub loop-k-init : goal.loop-k-init
loop-k-init c =
    let pos = c.requires in
    record { within = omega (arith, pos); put = put_none c.args.depth c.args.way.now (reverse c.args.tasks.now.items) pos }
