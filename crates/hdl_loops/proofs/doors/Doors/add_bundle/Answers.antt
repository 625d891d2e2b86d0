use Rattle.std.proofs.Common.{◌≡◌, ◌<◌, get_or, Some, List, length, refl, sym, ap, ◌∙◌, arith, below_more}
use Rattle.std.specs.Prelude.{slice_get}
use Rattle.std.proofs.lemmas.Option.{slice_get_read, slice_get_within}
use Rattle.hdl_loops.specs.Inner.Bundles.{HasDoor}
use Rattle.hdl_loops.specs.declared.bundle.Bundle.{Bundle}
use Rattle.hdl_loops.specs.declared.joint.Joint.{Joint}
use Rattle.hdl_loops.proofs.Lists.{get_there}
use Rattle.hdl_loops.proofs.doors.Doors.add_bundle.Goals as goal

pub add-requires-clause-there : goal.add-requires-clause-there
add-requires-clause-there c =
    let graph = c.args.graph.now in
    let own = c.index-graph-g.result in
    let list = c.as_slice-enters.result.now in
    let j = c.loop-j.j in
    let lt : j < length list = omega arith in
    record {
      bundle = own;
      joint = get_or list j _;
      there = slice_get_read graph (length graph) c.args.g own refl c.requires.there c.index-graph-g.is;
      here = ap (λ (v : List Joint). slice_get v j) (ap (λ (v : Bundle). v.enters.items) c.index-graph-g.is ∙ sym c.as_slice-enters.ensures.value) ∙ get_there list j _ lt;
      is = refl;
    }

pub loop-j-preserved : goal.loop-j-preserved
loop-j-preserved c =
    let e = c.in_ok-add.ensures in
    let inv = c.loop-j.invariant in
    record {
      right = e.right;
      kept = λ g j h. e.kept g j (inv.kept g j h);
      there = below_more (HasDoor c.add.new.self c.args.g) c.loop-j.j (λ i lt. e.kept c.args.g i (inv.there i lt)) e.there;
    }

pub returns-clause-there : goal.returns-clause-there
returns-clause-there c = λ j b e at here.
    let graph = c.args.graph.now in
    let own = c.index-graph-g.result in
    let list = c.as_slice-enters.result.now in
    let there : slice_get graph c.args.g ≡ Some own = slice_get_read graph (length graph) c.args.g own refl c.requires.there c.index-graph-g.is in
    let same : own ≡ b = cc in
    let long : length list ≡ length b.enters.items = ap (λ (v : List Joint). length v) c.as_slice-enters.ensures.value ∙ (ap (λ (v : Bundle). length v.enters.items) (sym c.index-graph-g.is) ∙ ap (λ (v : Bundle). length v.enters.items) same) in
    let within = slice_get_within b.enters.items j e here in
    c.loop-j.invariant.there j (omega (arith, within, long))
