use Rattle.std.proofs.Common.{rules, ◌<◌, length, sym, ◌∙◌}
use Rattle.script_device.proofs.Firsts.{pin_found, pin_missed, pin_within}
use Rattle.script_device.proofs.tables.pin_named.Goals as goal

pub bounds-pins-place : goal.bounds-pins-place
bounds-pins-place c = pin_within c.args.numbers.now c.args.pins.now c.args.name.now c.in-Some.place c.requires (sym c.find.ensures ∙ c.in-Some.is)

pub offset_bounds-pins-place : goal.offset_bounds-pins-place
offset_bounds-pins-place c =
    let h : c.in-Some.place < length c.args.pins.now = bounds-pins-place c in search rules

pub returns-in-None : goal.returns-in-None
returns-in-None c = pin_missed c.args.numbers.now c.args.pins.now c.args.name.now c.requires (sym c.find.ensures ∙ c.in-None.is)

pub returns-in-Some : goal.returns-in-Some
returns-in-Some c = pin_found c.args.numbers.now c.args.pins.now c.args.name.now c.as_slice.result.now c.in-Some.place _ c.requires (sym c.find.ensures ∙ c.in-Some.is) c.as_slice.ensures
