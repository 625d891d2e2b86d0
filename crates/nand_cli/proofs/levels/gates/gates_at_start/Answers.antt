use Rattle.nand_cli.proofs.OnGates.{prepared_whole}
use Rattle.nand_cli.proofs.levels.gates.gates_at_start.Goals as goal

pub returns : goal.returns
returns c =
    let made = c.prepare_gates.ensures in
    prepared_whole c.args.core.now c.args.image c.prepare_gates.result c.requires.image made.image made.moves made.stands made.parts
