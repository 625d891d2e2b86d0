use Rattle.std.proofs.Common.{◌∙◌, ap, drop, ◌+◌}
use Rattle.outer_world.proofs.Prints.{prints_more, prints_failed, rest_at}
use Rattle.jack_debug.specs.MapText.{field_lines}
use Rattle.jack_debug.proofs.map_printing.put_fields.Goals as goal

pub returns-in-Failed-clause-passes : goal.returns-in-Failed-clause-passes
returns-in-Failed-clause-passes g c =
    let xs = c.args.names.now in
    let i = c.loop-k.k in
    prints_failed _ _ _ (field_lines c.args.class.now (i + 1) (drop (i + 1) xs)) _ _ _ _ _ _
    (ap (field_lines c.args.class.now i) (rest_at xs i c.index-names-k.result c.loop-k-test.true c.index-names-k.is))
    c.loop-k.invariant.1 c.in-Failed.ensures.passes

pub loop-k-preserved : goal.loop-k-preserved
loop-k-preserved g c =
    let xs = c.args.names.now in
    let i = c.loop-k.k in (
      c.in-Done.ensures.same_sink ∙ c.loop-k.invariant.0,
      prints_more _ _ _ (field_lines c.args.class.now (i + 1) (drop (i + 1) xs)) _ _ _ _ _ _
          (ap (field_lines c.args.class.now i) (rest_at xs i c.index-names-k.result c.loop-k-test.true c.index-names-k.is))
          c.loop-k.invariant.1 c.in-Done.ensures.passes,
    )
