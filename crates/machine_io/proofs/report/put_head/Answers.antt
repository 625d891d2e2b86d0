use Rattle.std.proofs.Common.{◌++◌, ◌∷◌, codes, decimal}
use Rattle.machine_io.specs.Report.{counts_text, end_text, said_line}
use Rattle.machine_io.proofs.Handed.{three_cut, three_cut_later, three_handed}
use Rattle.machine_io.proofs.report.put_head.Goals as goal

pub returns-in-Failed-clause-passes : goal.returns-in-Failed-clause-passes
returns-in-Failed-clause-passes g c =
    three_cut _ _ _ _ (counts_text c.args.head.now.level c.args.head.now.moves c.args.head.now.steps)
    (said_line (codes "point") (c.args.head.now.subroutine.now ++ 32 ∷ decimal c.args.head.now.statement)) (said_line (codes "end") (end_text c.args.head.now.end)) c.in-Failed.ensures.passes

pub returns-in-Failed-put_point-clause-passes : goal.returns-in-Failed-put_point-clause-passes
returns-in-Failed-put_point-clause-passes g c =
    three_cut_later _ _ _ _ _ _ (counts_text c.args.head.now.level c.args.head.now.moves c.args.head.now.steps)
    (said_line (codes "point") (c.args.head.now.subroutine.now ++ 32 ∷ decimal c.args.head.now.statement)) (said_line (codes "end") (end_text c.args.head.now.end))
    c.in-Done.ensures.passes c.in-Failed-put_point.ensures.passes

pub returns-clause-passes : goal.returns-clause-passes
returns-clause-passes g c =
    three_handed _ _ _ _ _ _ _ _ (counts_text c.args.head.now.level c.args.head.now.moves c.args.head.now.steps)
    (said_line (codes "point") (c.args.head.now.subroutine.now ++ 32 ∷ decimal c.args.head.now.statement)) (said_line (codes "end") (end_text c.args.head.now.end)) _
    c.in-Done.ensures.passes c.in-Done-put_point.ensures.passes c.put_end.ensures.passes
