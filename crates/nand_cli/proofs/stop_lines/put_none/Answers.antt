use Rattle.std.proofs.Common.{codes}
use Rattle.machine_io.specs.Report.{said_line}
use Rattle.outer_world.proofs.Passing.{Passes-cut, Passes-then}
use Rattle.nand_cli.specs.Commands.Debug.{made_text}
use Rattle.nand_cli.proofs.stop_lines.put_none.Goals as goal

pub returns-in-Failed-clause-passes : goal.returns-in-Failed-clause-passes
returns-in-Failed-clause-passes g c = Passes-cut _ _ _ _ (said_line (codes "break") (codes "none")) (made_text c.args.moves c.args.steps) c.in-Failed.ensures.passes

pub returns-in-Done-clause-passes : goal.returns-in-Done-clause-passes
returns-in-Done-clause-passes g c = Passes-then _ _ _ _ _ _ (said_line (codes "break") (codes "none")) (made_text c.args.moves c.args.steps) _ c.in-Done.ensures.passes c.put_made.ensures.passes
