use Rattle.tower.proofs.OwnFiles.{named}
use Rattle.tower.proofs.compiled.compile_classes.Goals as goal

pub returns-clause-compiled : goal.returns-clause-compiled
returns-clause-compiled c = (c.in_ok-core.core, c.in_ok-core.ensures.program, c.in_ok-files.ensures)

pub returns-clause-named : goal.returns-clause-named
returns-clause-named c = named c.args.replace c.args.own.now c.in_ok-files.files (c.in_ok-core.core, c.in_ok-core.ensures.program, c.in_ok-files.ensures)
