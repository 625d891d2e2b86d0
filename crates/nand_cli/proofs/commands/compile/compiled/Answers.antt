use Rattle.command_line.specs.Line.{source_of}
use Rattle.nand_cli.proofs.Compiling.{not_compiled}
use Rattle.nand_cli.proofs.commands.compile.compiled.Goals as goal

pub returns-in-Err-clause-makes : goal.returns-in-Err-clause-makes
returns-in-Err-clause-makes c = not_compiled c.first_law.ensures (source_of c.args.source.now) c.args.classes.now c.in-Err.error c.not_meant.result c.requires.spelled c.in-Err.ensures.fault c.not_meant.ensures
