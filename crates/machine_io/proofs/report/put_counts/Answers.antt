use Rattle.std.proofs.Common.{codes, decimal}
use Rattle.machine_io.specs.Report.{level_name, said_line}
use Rattle.machine_io.proofs.Handed.{three_cut, three_cut_later, three_handed}
use Rattle.machine_io.proofs.report.put_counts.Goals as goal

pub returns-in-Failed-clause-passes : goal.returns-in-Failed-clause-passes
returns-in-Failed-clause-passes g c =
    three_cut _ _ _ _ (said_line (codes "level") (level_name c.args.level)) (said_line (codes "moves") (decimal c.args.moves)) (said_line (codes "steps") (decimal c.args.steps)) c.in-Failed.ensures.passes

pub returns-in-Failed-put_number-clause-passes : goal.returns-in-Failed-put_number-clause-passes
returns-in-Failed-put_number-clause-passes g c =
    three_cut_later _ _ _ _ _ _ (said_line (codes "level") (level_name c.args.level)) (said_line (codes "moves") (decimal c.args.moves)) (said_line (codes "steps") (decimal c.args.steps))
    c.in-Done.ensures.passes c.in-Failed-put_number.ensures.passes

pub returns-clause-passes : goal.returns-clause-passes
returns-clause-passes g c =
    three_handed _ _ _ _ _ _ _ _ (said_line (codes "level") (level_name c.args.level)) (said_line (codes "moves") (decimal c.args.moves)) (said_line (codes "steps") (decimal c.args.steps)) _
    c.in-Done.ensures.passes c.in-Done-put_number.ensures.passes c.put_number-2.ensures.passes
