use Rattle.std.proofs.Common.{◌∙◌, ap, drop, ◌+◌}
use Rattle.std.specs.List.{flat_map}
use Rattle.outer_world.proofs.Prints.{prints_more, prints_failed, rest_at}
use Rattle.jack_debug.specs.Text.{variable_line}
use Rattle.jack_debug.proofs.printing.put_variables.Goals as goal

pub returns-in-Failed-clause-passes : goal.returns-in-Failed-clause-passes
returns-in-Failed-clause-passes g c =
    let variables = c.args.variables.now in
    let i = c.loop-variable.variable-index in
    prints_failed _ _ _ (flat_map (variable_line c.args.what.now) (drop (i + 1) variables)) _ _ _ _ _ _
    (ap (flat_map (variable_line c.args.what.now)) (rest_at variables i c.variable-item.result c.loop-variable-test.true c.variable-item.is)) c.loop-variable.invariant.1
    c.in-Failed.ensures.passes

pub loop-variable-preserved : goal.loop-variable-preserved
loop-variable-preserved g c =
    let variables = c.args.variables.now in
    let i = c.loop-variable.variable-index in (
      c.in-Done.ensures.same_sink ∙ c.loop-variable.invariant.0,
      prints_more _ _ _ _ _ _ _ _ _ _
          (ap (flat_map (variable_line c.args.what.now)) (rest_at variables i c.variable-item.result c.loop-variable-test.true c.variable-item.is)) c.loop-variable.invariant.1
          c.in-Done.ensures.passes,
    )
