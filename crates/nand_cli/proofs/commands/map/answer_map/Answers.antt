use Rattle.nand_cli.proofs.commands.map.answer_map.Goals as goal

pub returns-in-Points-clause-does : goal.returns-in-Points-clause-does
returns-in-Points-clause-does g c = rw c.in-Points.is c.answer_points.ensures.does

pub returns-in-Places-clause-does : goal.returns-in-Places-clause-does
returns-in-Places-clause-does g c = rw c.in-Places.is c.answer_places.ensures.does
