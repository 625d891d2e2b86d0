use Rattle.std.proofs.Common.{List, subst}
use Rattle.hdl_check.specs.Whole.{chips_in}
use Rattle.hdl_loops.specs.Inner.Knowing.{AddsEnters}
use Rattle.hdl_loops.specs.declared.joint.Joint.{Joint}
use Rattle.hdl_loops.proofs.Pinning.{enters_all}
use Rattle.hdl_loops.proofs.graph.enters_of.Goals as goal

pub returns-in_ok-add_enters-in-Joints : goal.returns-in_ok-add_enters-in-Joints
returns-in_ok-add_enters-in-Joints c =
    let chips = chips_in c.args.entries.now c.args.memories in
    let ks = c.args.known.now in
    let joints = c.args.sides.now.enters.items in
    let leave = c.args.leave.now in
    let start = c.new-enters.result.items in
    let new = c.add_enters.new.enters.items in
    enters_all chips ks c.args.chip joints leave start new c.new-enters.ensures.items (subst (λ (v : List Joint). AddsEnters chips ks c.args.chip v leave start new) c.as_slice-all.ensures.value c.in_ok-add_enters-in-Joints.ensures)
