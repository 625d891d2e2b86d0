use Rattle.std.proofs.Common.{sym, subst}
use Rattle.script_device.specs.Driven.{chip_of}
use Rattle.script_device.specs.Devices.{Denotes}
use Rattle.script_device.specs.Devices.Device.{Chip}
use Rattle.script_device.specs.Inner.Sources.{source_of}
use Rattle.script_device.proofs.Standings.{FoundIn, found_in}
use Rattle.script_device.proofs.device.find_in_chip.Goals as goal

pub returns-in-None : goal.returns-in-None
returns-in-None c = λ calls.
    let chip = chip_of c.args.chip.now in
    let text = c.args.text.now in
    subst (FoundIn chip calls text) c.in-None.is (found_in chip c.directory.result.now c.sizes.result.now calls text c.find_variable.result c.directory.ensures c.sizes.ensures c.find_variable.ensures)

pub returns-in_ok-probe_of-in-Some : goal.returns-in_ok-probe_of-in-Some
returns-in_ok-probe_of-in-Some c = λ calls.
    let chip = chip_of c.args.chip.now in
    let text = c.args.text.now in
    let m : Denotes (Chip chip calls) text (source_of c.in-Some.variable) = subst (FoundIn chip calls text) c.in-Some.is (found_in chip c.directory.result.now c.sizes.result.now calls text c.find_variable.result c.directory.ensures c.sizes.ensures c.find_variable.ensures) in
    subst (Denotes (Chip chip calls) text) (sym c.in_ok-probe_of-in-Some.ensures) m
