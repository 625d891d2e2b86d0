use Rattle.nand_cli.proofs.OnGates.{prepared_simple}
use Rattle.nand_cli.proofs.levels.gates.simple_at_start.Goals as goal

pub returns : goal.returns
returns c =
    let made = c.prepare_gates.ensures in
    prepared_simple c.args.core.now c.args.image c.prepare_gates.result c.requires.image made.image made.moves made.stands made.simple
