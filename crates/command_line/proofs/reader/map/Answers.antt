use Rattle.command_line.specs.Line.{rows_in}
use Rattle.command_line.proofs.Lines.{no_map}
use Rattle.command_line.proofs.reader.map.Goals as goal

pub returns-in_default : goal.returns-in_default
returns-in_default c = no_map (rows_in c.args.matches.now) c.in_default.ensures
