use Rattle.command_line.specs.Line.{format_number, rows_in}
use Rattle.command_line.proofs.Lines.{reads_format}
use Rattle.command_line.proofs.reader.format_in.Goals as goal

pub returns-in_default : goal.returns-in_default
returns-in_default c = λ format h. c.in_default.ensures (format_number format) h

pub returns : goal.returns
returns c = reads_format (rows_in c.args.matches.now) c.in-Some.number c.format_of.result c.in-Some.ensures c.format_of.ensures
