use Rattle.std.proofs.Common.{[], sym, subst}
use Rattle.script_device.specs.Directory.{IsInput}
use Rattle.script_device.specs.Driven.{IsDriven, chip_of, set_source}
use Rattle.script_device.specs.Variables.Source.{Nodes, BlockWord}
use Rattle.script_device.specs.Devices.{CanSet}
use Rattle.script_device.specs.Devices.Device.{Chip}
use Rattle.script_device.specs.Devices.Source.{TheTime, OfChip}
use Rattle.script_device.proofs.Fitting.{input_fits}
use Rattle.script_device.proofs.Standings.{settable_as, settable_in}
use Rattle.script_device.proofs.device.set_variable.Goals as goal

pub copied-count-requires : goal.copied-count-requires
copied-count-requires c =
    let chip = chip_of c.args.chip.now in
    let m : CanSet (Chip chip []) c.args.text.now (OfChip (Nodes c.in-Some-Bus.nodes.now)) = settable_as (chip_of c.args.chip.now) [] c.args.text.now c.find_settable.result c.in-Some-Bus.field-0 _ c.in-Some-Bus.is c.in-Some-Bus.field-0-is (settable_in (chip_of c.args.chip.now) c.directory.result.now c.sizes.result.now [] c.args.text.now c.find_settable.result c.directory.ensures c.sizes.ensures c.find_settable.ensures) in
    let input : IsInput chip.net c.in-Some-Bus.nodes.now = input_fits chip.net chip.directory c.args.text.now c.in-Some-Bus.nodes.now c.requires m.1 in
    input.0

pub set_bus-requires : goal.set_bus-requires
set_bus-requires c =
    let chip = chip_of c.args.chip.now in
    let m : CanSet (Chip chip []) c.args.text.now (OfChip (Nodes c.in-Some-Bus.nodes.now)) = settable_as (chip_of c.args.chip.now) [] c.args.text.now c.find_settable.result c.in-Some-Bus.field-0 _ c.in-Some-Bus.is c.in-Some-Bus.field-0-is (settable_in (chip_of c.args.chip.now) c.directory.result.now c.sizes.result.now [] c.args.text.now c.find_settable.result c.directory.ensures c.sizes.ensures c.find_settable.ensures) in
    subst (IsInput chip.net) (sym c.copied-count.ensures.nodes) (input_fits chip.net chip.directory c.args.text.now c.in-Some-Bus.nodes.now c.requires m.1)

pub set_word-requires : goal.set_word-requires
set_word-requires c =
    let m : CanSet (Chip (chip_of c.args.chip.now) []) c.args.text.now (OfChip (BlockWord c.in-Some-Word.block c.in-Some-Word.address)) = settable_as (chip_of c.args.chip.now) [] c.args.text.now c.find_settable.result c.in-Some-Word.field-0 _ c.in-Some-Word.is c.in-Some-Word.field-0-is (settable_in (chip_of c.args.chip.now) c.directory.result.now c.sizes.result.now [] c.args.text.now c.find_settable.result c.directory.ensures c.sizes.ensures c.find_settable.ensures) in
    m.1.3

pub returns-in-Some-Bus-clause-set : goal.returns-in-Some-Bus-clause-set
returns-in-Some-Bus-clause-set c = λ calls driven.
    let m : CanSet (Chip (chip_of c.args.chip.now) calls) c.args.text.now (OfChip (Nodes c.in-Some-Bus.nodes.now)) = settable_as (chip_of c.args.chip.now) calls c.args.text.now c.find_settable.result c.in-Some-Bus.field-0 _ c.in-Some-Bus.is c.in-Some-Bus.field-0-is (settable_in (chip_of c.args.chip.now) c.directory.result.now c.sizes.result.now calls c.args.text.now c.find_settable.result c.directory.ensures c.sizes.ensures c.find_settable.ensures) in
    (Nodes c.in-Some-Bus.nodes.now, m, subst (λ nodes. IsDriven c.set_bus.new.self (set_source (chip_of c.args.chip.now).net.nodes (Nodes nodes) c.args.word calls)) c.copied-count.ensures.nodes (c.set_bus.ensures.driven calls driven))

pub returns-in-Some-Word-clause-set : goal.returns-in-Some-Word-clause-set
returns-in-Some-Word-clause-set c = λ calls driven.
    let m : CanSet (Chip (chip_of c.args.chip.now) calls) c.args.text.now (OfChip (BlockWord c.in-Some-Word.block c.in-Some-Word.address)) = settable_as (chip_of c.args.chip.now) calls c.args.text.now c.find_settable.result c.in-Some-Word.field-0 _ c.in-Some-Word.is c.in-Some-Word.field-0-is (settable_in (chip_of c.args.chip.now) c.directory.result.now c.sizes.result.now calls c.args.text.now c.find_settable.result c.directory.ensures c.sizes.ensures c.find_settable.ensures) in
    (BlockWord c.in-Some-Word.block c.in-Some-Word.address, m, c.set_word.ensures.driven calls driven)

pub returns-in-Some-Time-clause-set : goal.returns-in-Some-Time-clause-set
returns-in-Some-Time-clause-set c = λ calls driven.
    let m : CanSet (Chip (chip_of c.args.chip.now) calls) c.args.text.now TheTime = settable_as (chip_of c.args.chip.now) calls c.args.text.now c.find_settable.result c.in-Some-Time.field-0 _ c.in-Some-Time.is c.in-Some-Time.field-0-is (settable_in (chip_of c.args.chip.now) c.directory.result.now c.sizes.result.now calls c.args.text.now c.find_settable.result c.directory.ensures c.sizes.ensures c.find_settable.ensures) in
    absurd m

pub returns-in-Some-Bus-clause-runs : goal.returns-in-Some-Bus-clause-runs
returns-in-Some-Bus-clause-runs c = c.set_bus.ensures.runs

pub returns-in-Some-Word-clause-runs : goal.returns-in-Some-Word-clause-runs
returns-in-Some-Word-clause-runs c = c.set_word.ensures.runs
