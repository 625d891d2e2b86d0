use Rattle.tst_runner.proofs.directories.directory_of.Goals as goal

pub returns-clause-among : goal.returns-clause-among
returns-clause-among c = c.in_ok-parts_named.ensures.among
