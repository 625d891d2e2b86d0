use Rattle.std.proofs.Common.{List, ℕ, sym, subst}
use Rattle.script_device.specs.declared.probe.Probe.{Probe}
use Rattle.script_device.specs.declared.probe.Probe.TheVariants as probes
use Rattle.script_device.specs.Directory.{IsBus}
use Rattle.script_device.specs.Driven.{chip_of}
use Rattle.script_device.specs.Variables.{Denotes}
use Rattle.script_device.specs.Variables.Source.{Nodes}
use Rattle.script_device.specs.Devices.Device.{Chip}
use Rattle.script_device.specs.Running.{CanSee}
use Rattle.script_device.proofs.Fitting.{bus_fits}
use Rattle.script_device.proofs.device.chip_value.Goals as goal

pub bus-requires-clause-bus : goal.bus-requires-clause-bus
bus-requires-clause-bus c =
    let chip = chip_of c.args.chip.now in
    let P : Probe → Type 0 = CanSee (Chip chip c.requires.seen.0) in
    let see : CanSee (Chip chip c.requires.seen.0) (probes.Bus c.in-Bus.nodes) = subst P c.in-Bus.is c.requires.seen.1 in
    let Q : List ℕ → Type 0 = IsBus chip.net in
    subst Q (sym c.as_slice.ensures) (bus_fits chip.net chip.directory see.0 c.in-Bus.nodes c.requires.fits see.1.1)

pub bus-requires-clause-named : goal.bus-requires-clause-named
bus-requires-clause-named c =
    let chip = chip_of c.args.chip.now in
    let P : Probe → Type 0 = CanSee (Chip chip c.requires.seen.0) in
    let see : CanSee (Chip chip c.requires.seen.0) (probes.Bus c.in-Bus.nodes) = subst P c.in-Bus.is c.requires.seen.1 in
    let Q : List ℕ → Type 0 = λ nodes. (text : List ℕ) × Denotes chip text (Nodes nodes) in
    subst Q (sym c.as_slice.ensures) (see.0, see.1.1)

pub returns-in-Word : goal.returns-in-Word
returns-in-Word c = λ calls told v driven sees. rw c.in-Word.is (c.word.ensures calls told v driven sees)
