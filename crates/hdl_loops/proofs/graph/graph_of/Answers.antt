use Rattle.std.proofs.Common.{◌≡◌, List, length, Some, refl, subst, arith}
use Rattle.std.specs.Prelude.{slice_get}
use Rattle.std.proofs.lemmas.Option.{slice_get_read}
use Rattle.hdl_check.specs.Whole.{chips_in}
use Rattle.hdl_loops.specs.Inner.Bundles.{hops_in}
use Rattle.hdl_loops.specs.Inner.Knowing.{leaps_of, part_leaps}
use Rattle.hdl_loops.specs.Inner.Ties.{In}
use Rattle.hdl_loops.specs.declared.bundle.Bundle.{Bundle}
use Rattle.hdl_loops.proofs.Pinning.{first_next, first_all}
use Rattle.hdl_loops.proofs.graph.graph_of.Goals as goal

pub loop-part-init : goal.loop-part-init
loop-part-init c = record { only = λ leap h. absurd (subst (λ (v : List Bundle). In leap (leaps_of (hops_in v))) c.new-graph.ensures.items h); there = λ j lt. absurd (omega (arith, lt)) }

pub loop-part-preserved : goal.loop-part-preserved
loop-part-preserved c =
    let parts = c.args.parts.now in
    let i = c.loop-part.part-index in
    let there : slice_get parts i ≡ Some c.part-item.result = slice_get_read parts (length parts) i c.part-item.result refl c.loop-part-test.true c.part-item.is in
    first_next (part_leaps (chips_in c.args.entries.now c.args.memories) c.args.known.now) parts i c.part-item.result (hops_in c.loop-part.graph.items) (hops_in c.hops_of_part.new.graph.items) there c.loop-part.invariant c.in_ok-hops_of_part.ensures

pub returns : goal.returns
returns c =
    let parts = c.args.parts.now in
    let done : c.loop-part.part-index ≡ length parts = omega arith in
    first_all (part_leaps (chips_in c.args.entries.now c.args.memories) c.args.known.now) parts c.loop-part.part-index (hops_in c.loop-part.graph.items) done c.loop-part.invariant
