use Rattle.std.proofs.Common.{◌∙◌, ap, drop, ◌+◌}
use Rattle.vm_tree.specs.Printed.{lines_text}
use Rattle.outer_world.proofs.Prints.{prints_more, prints_failed, rest_at}
use Rattle.vm_tree.proofs.printing.put_lines.Goals as goal

pub returns-in-Failed-clause-passes : goal.returns-in-Failed-clause-passes
returns-in-Failed-clause-passes g c =
    prints_failed _ _ _ (lines_text (drop (c.loop-line.line-index + 1) c.args.lines.now)) _ _ _ _ _ _ (ap lines_text (rest_at c.args.lines.now c.loop-line.line-index c.line-item.result c.loop-line-test.true c.line-item.is)) c.loop-line.invariant.1 c.in-Failed.ensures.passes

pub loop-line-preserved : goal.loop-line-preserved
loop-line-preserved g c = (
  c.in-Done.ensures.same_sink ∙ c.loop-line.invariant.0,
  prints_more _ _ _ _ _ _ _ _ _ _ (ap lines_text (rest_at c.args.lines.now c.loop-line.line-index c.line-item.result c.loop-line-test.true c.line-item.is)) c.loop-line.invariant.1 c.in-Done.ensures.passes,
)
