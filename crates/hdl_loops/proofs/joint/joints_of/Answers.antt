use Rattle.std.proofs.Common.{◌≡◌, [], length, List, Some, refl, sym, ap, ◌∙◌, arith}
use Rattle.std.specs.Prelude.{slice_get}
use Rattle.std.proofs.lemmas.Option.{slice_get_read}
use Rattle.hdl_tree.specs.declared.tree.Connection.{Connection}
use Rattle.hdl_loops.specs.Inner.Ties.{ties_of, ties_in}
use Rattle.hdl_loops.proofs.Lists.{gather_step, gather_done}
use Rattle.hdl_loops.proofs.joint.joints_of.Goals as goal

pub loop-connection-preserved : goal.loop-connection-preserved
loop-connection-preserved c = λ inner has.
    let conns = c.as_slice-connection-items.result.now in
    let i = c.loop-connection.connection-index in
    let there : slice_get conns i ≡ Some c.connection-item.result = slice_get_read conns (length conns) i c.connection-item.result refl c.loop-connection-test.true c.connection-item.is in
    let at : slice_get c.args.part.now.connections i ≡ Some c.connection-item.result = ap (λ (xs : List Connection). slice_get xs i) (sym c.as_slice-connection-items.ensures) ∙ there in
    gather_step (ties_in inner) c.args.part.now.connections i c.connection-item.result [] (ties_of c.loop-connection.joints.items) (ties_of c.join_connection.new.joints.items) at (c.loop-connection.invariant inner has) (c.in_ok-join_connection.ensures inner has)

pub returns : goal.returns
returns c = λ inner has.
    let conns = c.as_slice-connection-items.result.now in
    let long : length conns ≡ length c.args.part.now.connections = ap (λ (xs : List Connection). length xs) c.as_slice-connection-items.ensures in
    let i = c.loop-connection.connection-index in
    let done : i ≡ length c.args.part.now.connections = omega arith in
    gather_done (ties_in inner) c.args.part.now.connections i [] (ties_of c.loop-connection.joints.items) done (c.loop-connection.invariant inner has)
