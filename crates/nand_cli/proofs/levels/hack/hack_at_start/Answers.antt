use Rattle.nand_cli.proofs.Computers.{prepared}
use Rattle.nand_cli.proofs.levels.hack.hack_at_start.Goals as goal

pub returns : goal.returns
returns c =
    prepared c.args.core.now c.args.image c.prepare_hack.result c.requires.image c.prepare_hack.ensures.image c.prepare_hack.ensures.moves c.prepare_hack.ensures.stands
