use Rattle.std.proofs.Common.{◌≡◌, sym, subst}
use Rattle.std.specs.Prelude.{MatchOption, Some, None}
use Rattle.script_device.proofs.Pins.{pin_before, pin_behind}
use Rattle.script_device.proofs.variables.own_bus.Goals as goal

pub returns-in-Some : goal.returns-in-Some
returns-in-Some c = pin_before c.args.directory.now.inputs c.args.directory.now.outputs c.args.text.now c.in-Some.nodes.now c.in-Some.ensures

pub returns-in-None : goal.returns-in-None
returns-in-None c =
    let same = pin_behind c.args.directory.now.inputs c.args.directory.now.outputs c.args.text.now c.in-None.ensures in
    subst (λ found. MatchOption c.output.result (found ≡ None) (λ nodes. found ≡ Some nodes.now)) (sym same) c.output.ensures
