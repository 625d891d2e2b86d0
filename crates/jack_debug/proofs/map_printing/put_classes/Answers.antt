use Rattle.std.proofs.Common.{◌∙◌, ap, drop, get_or, ◌+◌}
use Rattle.std.specs.List.{flat_map}
use Rattle.std.proofs.lemmas.List.{get_or_default}
use Rattle.outer_world.proofs.Prints.{prints_more, prints_failed, rest_at}
use Rattle.jack_debug.specs.MapText.{lines_of_class}
use Rattle.std.specs.Prelude.{slice_get}
use Rattle.jack_debug.proofs.map_printing.put_classes.Goals as goal

pub returns-in-Failed-clause-passes : goal.returns-in-Failed-clause-passes
returns-in-Failed-clause-passes g c =
    let xs = c.args.by_name.now in
    let i = c.loop-k.k-index in
    prints_failed _ _ _ (flat_map (λ k. lines_of_class (slice_get c.args.places.now.classes k)) (drop (i + 1) xs)) _ _ _ _ _ _
    (ap (flat_map (λ k. lines_of_class (slice_get c.args.places.now.classes k))) (rest_at xs i (get_or xs i 0) c.loop-k-test.true (get_or_default xs i 0 (get_or xs i 0) c.loop-k-test.true)))
    c.loop-k.invariant.1 c.in-Failed.ensures.passes

pub loop-k-preserved : goal.loop-k-preserved
loop-k-preserved g c =
    let xs = c.args.by_name.now in
    let i = c.loop-k.k-index in (
      c.in-Done.ensures.same_sink ∙ c.loop-k.invariant.0,
      prints_more _ _ _ (flat_map (λ k. lines_of_class (slice_get c.args.places.now.classes k)) (drop (i + 1) xs)) _ _ _ _ _ _
          (ap (flat_map (λ k. lines_of_class (slice_get c.args.places.now.classes k))) (rest_at xs i (get_or xs i 0) c.loop-k-test.true (get_or_default xs i 0 (get_or xs i 0) c.loop-k-test.true)))
          c.loop-k.invariant.1 c.in-Done.ensures.passes,
    )
