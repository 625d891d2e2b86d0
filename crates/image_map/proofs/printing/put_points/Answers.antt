use Rattle.std.proofs.Common.{◌∙◌, ap, drop, get_or, map, ◌+◌}
use Rattle.std.specs.List.{flat_map}
use Rattle.std.proofs.lemmas.List.{get_or_default}
use Rattle.outer_world.proofs.Prints.{prints_more, prints_failed, rest_at}
use Rattle.image_map.specs.declared.map.PointRange.{PointRange}
use Rattle.image_map.specs.Text.{point_line}
use Rattle.image_map.proofs.printing.put_points.Goals as goal

abbrev nowhere : PointRange
nowhere = record { from = 0; to = 0; point = record { sub = 0; number = 0 } }

pub returns-in-Failed-clause-passes : goal.returns-in-Failed-clause-passes
returns-in-Failed-clause-passes g c =
    let names = map (λ n. n.now) c.args.names.now in
    let points = c.args.points.now in
    let i = c.loop-range.range-index in
    prints_failed _ _ _ (flat_map (point_line names) (drop (i + 1) points)) _ _ _ _ _ _
    (ap (flat_map (point_line names)) (rest_at points i (get_or points i nowhere) c.loop-range-test.true (get_or_default points i nowhere (get_or points i nowhere) c.loop-range-test.true))) c.loop-range.invariant.1
    (rw c.name_at.ensures at c.in-Failed.ensures.passes)

pub loop-range-preserved : goal.loop-range-preserved
loop-range-preserved g c =
    let names = map (λ n. n.now) c.args.names.now in
    let points = c.args.points.now in
    let i = c.loop-range.range-index in (
      c.in-Done.ensures.same_sink ∙ c.loop-range.invariant.0,
      prints_more _ _ _ _ _ _ _ _ _ _
          (ap (flat_map (point_line names)) (rest_at points i (get_or points i nowhere) c.loop-range-test.true (get_or_default points i nowhere (get_or points i nowhere) c.loop-range-test.true))) c.loop-range.invariant.1
          (rw c.name_at.ensures at c.in-Done.ensures.passes),
    )
