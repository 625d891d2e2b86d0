use Rattle.std.proofs.Common.{codes, decimal}
use Rattle.machine_io.specs.Report.{said_line}
use Rattle.outer_world.proofs.Passing.{Passes-cut, Passes-then}
use Rattle.nand_cli.proofs.stop_lines.put_made.Goals as goal

pub returns-in-Failed-clause-passes : goal.returns-in-Failed-clause-passes
returns-in-Failed-clause-passes g c = Passes-cut _ _ _ _ (said_line (codes "moves") (decimal c.args.moves)) (said_line (codes "steps") (decimal c.args.steps)) c.in-Failed.ensures.passes

pub returns-in-Done-clause-passes : goal.returns-in-Done-clause-passes
returns-in-Done-clause-passes g c = Passes-then _ _ _ _ _ _ (said_line (codes "moves") (decimal c.args.moves)) (said_line (codes "steps") (decimal c.args.steps)) _ c.in-Done.ensures.passes c.put_count-in-Done.ensures.passes
