use Rattle.std.proofs.Common.{sym}
use Rattle.command_line.specs.Line.{rows_in}
use Rattle.command_line.proofs.Lines.{reads_point}
use Rattle.command_line.proofs.reader.point_in.Goals as goal

pub returns : goal.returns
returns c = reads_point (rows_in c.args.matches.now) c.in-Some.text.now c.point.result (sym c.in-Some.ensures) c.point.ensures
