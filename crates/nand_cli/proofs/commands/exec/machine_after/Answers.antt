use Rattle.std.proofs.Common.{◌∙◌, ap}
use Rattle.hack_isa.specs.Machine.{machine_at}
use Rattle.nand_cli.proofs.Driving.{driven}
use Rattle.nand_cli.proofs.commands.exec.machine_after.Goals as goal

pub returns : goal.returns
returns g c =
    let code = g.K.Keyboard.code c.args.keys.now in
    let new = c.in_ok-hack.ensures in
    let drove = c.in_ok-drive.ensures in
    driven code c.args.image.now c.in_ok-hack.hack c.drive.new.level c.in_ok-hack.hack.moves c.from.result c.drive.new.level.moves c.in_ok-drive.field-0 drove.driven new.turns new.run.count (drove.program ∙ new.image) c.cycles_law.ensures
    ∙ ap (machine_at c.args.image.now code) c.from.ensures
