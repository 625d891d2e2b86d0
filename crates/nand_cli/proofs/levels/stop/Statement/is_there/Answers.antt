use Rattle.nand_cli.proofs.Stopping.{statement_told}
use Rattle.nand_cli.proofs.levels.stop.Statement.is_there.Goals as goal

pub returns : goal.returns
returns c = statement_told c.args.self.now.places.now c.args.self.now.sub.now c.args.self.now.number c.is_among.result c.is_among.ensures
