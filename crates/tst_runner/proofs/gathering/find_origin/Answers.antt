use Rattle.std.proofs.Common.{None, Some}
use Rattle.tst_runner.proofs.Tabling.{listed_there}
use Rattle.tst_runner.proofs.gathering.find_origin.Goals as goal

pub returns-in-Some : goal.returns-in-Some
returns-in-Some c = λ told. listed_there c.args.places.now.names.now c.args.name.now c.args.files.now (Some c.in-Some.file) c.in-Some.ensures c.requires

pub returns-in-None : goal.returns-in-None
returns-in-None c = λ told. (listed_there c.args.places.now.names.now c.args.name.now c.args.files.now None c.in_default.ensures c.requires, c.in-None.ensures)
