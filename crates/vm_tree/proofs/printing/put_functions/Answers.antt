use Rattle.std.proofs.Common.{◌∙◌, ap, drop, ◌+◌}
use Rattle.vm_tree.specs.Printed.{functions_text}
use Rattle.outer_world.proofs.Prints.{prints_more, prints_failed, rest_at}
use Rattle.vm_tree.proofs.printing.put_functions.Goals as goal

pub returns-in-Failed-clause-passes : goal.returns-in-Failed-clause-passes
returns-in-Failed-clause-passes g c =
    prints_failed _ _ _ (functions_text (drop (c.loop-function.function-index + 1) c.args.functions.now)) _ _ _ _ _ _ (ap functions_text (rest_at c.args.functions.now c.loop-function.function-index c.function-item.result c.loop-function-test.true c.function-item.is)) c.loop-function.invariant.1 c.in-Failed.ensures.passes

pub loop-function-preserved : goal.loop-function-preserved
loop-function-preserved g c = (
  c.in-Done.ensures.same_sink ∙ c.loop-function.invariant.0,
  prints_more _ _ _ _ _ _ _ _ _ _ (ap functions_text (rest_at c.args.functions.now c.loop-function.function-index c.function-item.result c.loop-function-test.true c.function-item.is)) c.loop-function.invariant.1 c.in-Done.ensures.passes,
)
