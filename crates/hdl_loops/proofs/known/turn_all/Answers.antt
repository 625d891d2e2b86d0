use Rattle.std.proofs.Common.{◌≡◌, ◌<◌, ◌≤◌, ◌+◌, ◌++◌, suc, drop, length, map, take, sym, ap, ◌∙◌, arith}
use Rattle.std.specs.Prelude.{slice_set}
use Rattle.hdl_loops.specs.Inner.Bundles.{turn}
use Rattle.hdl_loops.proofs.Pairing.{all_done, one_done}
use Rattle.hdl_loops.proofs.known.turn_all.Goals as goal

pub loop-k-preserved : goal.loop-k-preserved
loop-k-preserved c =
    let hs = c.args.graph.now.items in
    let now = c.loop-k.graph.items in
    let k = c.loop-k.k in
    let lt : k < length hs = omega (arith, c.loop-k-test.true, c.len-k-end.ensures, c.args.graph.now.ok.0) in
    let next : suc k ≡ k + 1 = omega arith in
    ap (slice_set now k) c.turn.ensures ∙ one_done hs now k c.index_mut.result.now lt c.loop-k.invariant (sym c.index_mut.ensures.value) ∙ ap (λ m. map turn (take m hs) ++ drop m hs) next

pub returns : goal.returns
returns c =
    let hs = c.args.graph.now.items in
    let le : length hs ≤ c.loop-k.k = omega (arith, c.loop-k-test.false, c.len-k-end.ensures, c.args.graph.now.ok.0) in
    all_done hs c.loop-k.graph.items c.loop-k.k le c.loop-k.invariant
