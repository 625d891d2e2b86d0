use Rattle.std.proofs.Common.{◌∙◌, ap, drop, ◌+◌}
use Rattle.vm_tree.specs.Printed.{program_text}
use Rattle.outer_world.proofs.Prints.{prints_more, prints_failed, rest_at}
use Rattle.vm_tree.proofs.printing.put_files.Goals as goal

pub returns-in-Failed-clause-passes : goal.returns-in-Failed-clause-passes
returns-in-Failed-clause-passes g c =
    prints_failed _ _ _ (program_text (drop (c.loop-file.file-index + 1) c.args.files.now)) _ _ _ _ _ _ (ap program_text (rest_at c.args.files.now c.loop-file.file-index c.file-item.result c.loop-file-test.true c.file-item.is)) c.loop-file.invariant.1 c.in-Failed.ensures.passes

pub loop-file-preserved : goal.loop-file-preserved
loop-file-preserved g c = (
  c.in-Done.ensures.same_sink ∙ c.loop-file.invariant.0,
  prints_more _ _ _ _ _ _ _ _ _ _ (ap program_text (rest_at c.args.files.now c.loop-file.file-index c.file-item.result c.loop-file-test.true c.file-item.is)) c.loop-file.invariant.1 c.in-Done.ensures.passes,
)
