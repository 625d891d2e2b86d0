use Rattle.nand_cli.specs.Commands.Debug.{HasStatement}
use Rattle.nand_cli.proofs.Debugging.{no_point_told}
use Rattle.nand_cli.proofs.commands.debug.check_point.Goals as goal

pub returns-else-is_there : goal.returns-else-is_there
returns-else-is_there c =
    let places = c.args.places.now in
    let request = c.args.request.now in
    let none : HasStatement places request.sub.now request.number → ⊥ = λ h.
    let there = c.is_there.ensures.1 h in
    let not = c.if-is_there.false in
    cc (there, not) in
    no_point_told places c.args.folder.now request.sub.now request.number c.no_point.result none c.no_point.ensures
