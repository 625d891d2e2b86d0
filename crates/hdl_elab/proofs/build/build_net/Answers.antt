use Rattle.hdl_check.specs.Whole.{chips_in}
use Rattle.hdl_elab.proofs.Building.{ready, built_if}
use Rattle.hdl_elab.proofs.build.build_net.Goals as goal

pub put_in_net-requires : goal.put_in_net-requires
put_in_net-requires c =
    let r = ready (chips_in c.args.library.now.entries c.args.memories) c.args.top.now c.in_ok-flat.flat c.requires.ends c.requires.fine c.requires.few c.requires.no_loop c.in_ok-flat.ensures c.requires.there in
    record { nodes = r.few; blocks = r.blocks; closed = r.orderly.closed; pins = r.pins; parts = r.parts; no_circle = r.orderly.no_circle }

pub returns : goal.returns
returns c =
    built_if (chips_in c.args.library.now.entries c.args.memories) c.args.top.now c.in_ok-flat.flat c.requires.ends c.requires.fine c.requires.few c.requires.no_loop c.in_ok-flat.ensures c.put_in_net.result c.put_in_net.ensures.moved c.put_in_net.ensures.ordered
