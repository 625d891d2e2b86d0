use Rattle.std.proofs.Common.{◌≡◌, ◌≤◌, List, length, ap, ◌∙◌, arith}
use Rattle.std.specs.Prelude.{slice_get}
use Rattle.hdl_loops.specs.Inner.Bundles.{hops_in}
use Rattle.hdl_loops.specs.Inner.Hops.{bit}
use Rattle.hdl_loops.specs.declared.tree.Node.{Node}
use Rattle.hdl_loops.proofs.Pairing.{ways_more, pairs_kept, tree_leads, way_at, there_more}
use Rattle.hdl_loops.proofs.pairs.add_bit.Goals as goal

pub loop-node-init : goal.loop-node-init
loop-node-init c = record { right = c.requires.right; kept = λ x y h. h; there = λ j lt. absurd (omega (arith, lt)) }

pub loop-node-preserved : goal.loop-node-preserved
loop-node-preserved c =
    let hs = hops_in c.args.graph.now in
    let x = bit c.args.from in
    let tree = c.in_ok-tree.tree in
    let list = c.reached-nodes.result.now in
    let j = c.loop-node.node-index in
    let old = c.loop-node.pairs.keys in
    let new = c.add_pair.new.pairs.keys in
    let inv = c.loop-node.invariant in
    let e = c.in_ok-add_pair.ensures in
    record {
      right = ways_more hs old new x _ inv.right e.only (way_at hs tree list x j _ c.in_ok-tree.ensures c.reached-nodes.ensures c.loop-node-test.true);
      kept = pairs_kept c.args.pairs.now.keys old new inv.kept e.kept;
      there = there_more c.args.ends.now list x j _ old new e.kept e.there inv.there;
    }

pub returns-clause-right : goal.returns-clause-right
returns-clause-right c = c.loop-node.invariant.right

pub returns-clause-kept : goal.returns-clause-kept
returns-clause-kept c = c.loop-node.invariant.kept

pub returns-clause-there : goal.returns-clause-there
returns-clause-there c =
    let tree = c.in_ok-tree.tree in
    let list = c.reached-nodes.result.now in
    let long : length list ≡ length tree.nodes.items = ap (λ (v : List Node). length v) c.reached-nodes.ensures in
    let le : length tree.nodes.items ≤ c.loop-node.node-index = omega arith in
    tree_leads (hops_in c.args.graph.now) tree c.args.ends.now c.loop-node.pairs.keys (bit c.args.from) c.loop-node.node-index c.in_ok-tree.ensures le
    (λ j lt node at named. c.loop-node.invariant.there j lt node (ap (λ (v : List Node). slice_get v j) c.reached-nodes.ensures ∙ at) named)
