use Rattle.nand_cli.proofs.command.answer_classes.Goals as goal

pub returns-in-Compile-clause-does : goal.returns-in-Compile-clause-does
returns-in-Compile-clause-does g c = rw c.in-Compile.is c.answer_compile.ensures.does

pub returns-in-Build-clause-does : goal.returns-in-Build-clause-does
returns-in-Build-clause-does g c = rw c.in-Build.is c.answer_build.ensures.does

pub returns-in-Map-clause-does : goal.returns-in-Map-clause-does
returns-in-Map-clause-does g c = rw c.in-Map.is c.answer_map.ensures.does

pub returns-in-Run-clause-does : goal.returns-in-Run-clause-does
returns-in-Run-clause-does g c = rw c.in-Run.is c.answer_run.ensures.does

pub returns-in-Debug-clause-does : goal.returns-in-Debug-clause-does
returns-in-Debug-clause-does g c = rw c.in-Debug.is c.answer_debug.ensures.does
