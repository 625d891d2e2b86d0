use Rattle.hdl_check.specs.Whole.{chips_in}
use Rattle.std.proofs.Common.{length, arith}
use Rattle.hdl_loops.specs.Inner.Bundles.{hops_in}
use Rattle.hdl_loops.proofs.Pinning.{sides_only, sides_all}
use Rattle.hdl_loops.proofs.graph.hops_through.Goals as goal

pub add_bundles-requires-clause-sides : goal.add_bundles-requires-clause-sides
add_bundles-requires-clause-sides c = (c.args.joints.now, c.in_ok-sides.ensures)

pub returns : goal.returns
returns c =
    let chips = chips_in c.args.entries.now c.args.memories in
    let ks = c.args.known.now in
    let joints = c.args.joints.now in
    let sides = c.in_ok-sides.sides in
    let are = c.in_ok-sides.ensures in
    let old = hops_in c.args.graph.now.items in
    let new = hops_in c.add_bundles.new.graph.items in
    let e = c.in_ok-add_bundles.ensures in
    sides_all chips ks c.args.chip joints sides are old new (length sides.leaves.items) (omega arith) (sides_only chips ks c.args.chip joints sides are old new e.right) e.there
