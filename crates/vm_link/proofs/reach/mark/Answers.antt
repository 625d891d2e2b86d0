use Rattle.std.proofs.Common.{◌∙◌}
use Rattle.vm_link.proofs.Marking.{marks_one, marked_now, marked_by}
use Rattle.vm_link.proofs.reach.mark.Goals as goal

pub returns-clause-marks : goal.returns-clause-marks
returns-clause-marks c = rw c.in_ok-push.ensures.items
    (marks_one c.args.marks.now.items c.args.pending.now.items c.args.place c.requires
    (marked_by c.args.marks.now.items c.args.place c.index.result.now _ c.requires c.index.ensures ∙ c.if-index.false))

pub returns-clause-marked : goal.returns-clause-marked
returns-clause-marked c = marked_now c.args.marks.now.items c.args.place c.requires
