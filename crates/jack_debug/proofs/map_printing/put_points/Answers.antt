use Rattle.std.proofs.Common.{◌∙◌, ap, drop, get_or, ◌+◌}
use Rattle.std.specs.List.{flat_map}
use Rattle.std.proofs.lemmas.List.{get_or_default}
use Rattle.outer_world.proofs.Prints.{prints_more, prints_failed, rest_at}
use Rattle.jack_debug.specs.MapText.{point_line}
use Rattle.jack_debug.specs.declared.places.PlacedRange.{PlacedRange}
use Rattle.jack_debug.proofs.map_printing.put_points.Goals as goal

abbrev nowhere : PlacedRange
nowhere = record { from = 0; to = 0; point = record { sub = 0; number = 0 }; place = record { line = 0; column = 0 } }

pub returns-in-Failed-clause-passes : goal.returns-in-Failed-clause-passes
returns-in-Failed-clause-passes g c =
    let xs = c.args.ranges.now in
    let i = c.loop-range.range-index in
    prints_failed _ _ _ (flat_map (point_line c.args.places.now) (drop (i + 1) xs)) _ _ _ _ _ _
    (ap (flat_map (point_line c.args.places.now)) (rest_at xs i (get_or xs i nowhere) c.loop-range-test.true (get_or_default xs i nowhere (get_or xs i nowhere) c.loop-range-test.true)))
    c.loop-range.invariant.1 c.in-Failed.ensures.passes

pub loop-range-preserved : goal.loop-range-preserved
loop-range-preserved g c =
    let xs = c.args.ranges.now in
    let i = c.loop-range.range-index in (
      c.in-Done.ensures.same_sink ∙ c.loop-range.invariant.0,
      prints_more _ _ _ (flat_map (point_line c.args.places.now) (drop (i + 1) xs)) _ _ _ _ _ _
          (ap (flat_map (point_line c.args.places.now)) (rest_at xs i (get_or xs i nowhere) c.loop-range-test.true (get_or_default xs i nowhere (get_or xs i nowhere) c.loop-range-test.true)))
          c.loop-range.invariant.1 c.in-Done.ensures.passes,
    )
