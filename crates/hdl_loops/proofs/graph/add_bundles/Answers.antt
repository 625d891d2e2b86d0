use Rattle.std.proofs.Common.{arith, below_more}
use Rattle.hdl_check.specs.Whole.{chips_in}
use Rattle.hdl_loops.specs.Inner.Bundles.{hops_in}
use Rattle.hdl_loops.specs.Inner.Ties.{ties_of}
use Rattle.hdl_loops.specs.Inner.Knowing.{leaps_between, BundlesLast}
use Rattle.hdl_loops.proofs.Pinning.{only_refl, only_on, last_kept}
use Rattle.hdl_loops.proofs.graph.add_bundles.Goals as goal

pub loop-k-init : goal.loop-k-init
loop-k-init c = record { right = only_refl (hops_in c.args.graph.now.items) _; there = λ k lt. absurd (omega (arith, lt)) }

pub loop-k-preserved : goal.loop-k-preserved
loop-k-preserved c =
    let chips = chips_in c.args.entries.now c.args.memories in
    let ks = c.args.known.now in
    let place = c.args.chip in
    let sides = c.args.sides.now in
    let leaps = leaps_between chips ks place (ties_of sides.enters.items) (ties_of sides.leaves.items) in
    let start = hops_in c.args.graph.now.items in
    let old = hops_in c.loop-k.graph.items in
    let new = hops_in c.add_bundle.new.graph.items in
    let e = c.in_ok-add_bundle.ensures in
    let inv = c.loop-k.invariant in
    record {
      right = only_on start old new leaps inv.right e.right;
      there = below_more (BundlesLast chips ks place sides new) c.loop-k.k (λ j lt. last_kept chips ks place sides c.requires.sides old new leaps e.right j (inv.there j lt)) e.there;
    }

pub returns-clause-there : goal.returns-clause-there
returns-clause-there c = λ k lt. c.loop-k.invariant.there k (omega (arith, lt, c.args.sides.now.leaves.ok.0))
