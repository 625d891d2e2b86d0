use Rattle.std.proofs.Common.{ℕ, ◌<◌, Option, length, ap, subst, ◌∙◌, arith}
use Rattle.hdl_check.specs.Whole.{chips_in}
use Rattle.hdl_loops.specs.Inner.Bundles.{hops_in}
use Rattle.hdl_loops.specs.Inner.Knowing.{leaps_at, place_of, AddsLeaps}
use Rattle.hdl_loops.proofs.Pinning.{adds_nothing}
use Rattle.hdl_loops.proofs.graph.hops_of_part.Goals as goal

pub returns-in-None : goal.returns-in-None
returns-in-None c =
    let es = c.args.entries.now in
    let hs = hops_in c.args.graph.now.items in
    subst (λ (o : Option ℕ). AddsLeaps hs hs (leaps_at (chips_in es c.args.memories) c.args.known.now c.args.part.now o)) (c.in-None.ensures.value es c.requires ∙ ap (place_of es) c.as_bytes.ensures) (adds_nothing hs)

pub pins_at-requires : goal.pins_at-requires
pins_at-requires c =
    let es = c.args.entries.now in
    let here : c.in-Some.k < length es = (c.in-Some.ensures.found es c.requires).0 in
    omega (arith, here, c.requires.pins.as_many)
