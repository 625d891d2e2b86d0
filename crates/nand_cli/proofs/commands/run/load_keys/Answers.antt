use Rattle.nand_cli.proofs.commands.run.load_keys.Goals as goal

pub returns-in-None-clause-loads : goal.returns-in-None-clause-loads
returns-in-None-clause-loads g c = rw c.in-None.is c.none.ensures

pub returns-in-Some-clause-loads : goal.returns-in-Some-clause-loads
returns-in-Some-clause-loads g c = rw c.in-Some.is c.load.ensures.loads
