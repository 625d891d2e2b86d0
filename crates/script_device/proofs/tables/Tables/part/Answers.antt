use Rattle.std.proofs.Common.{rules, ◌<◌, List, Some, length, sym, ap, subst, ◌∙◌}
use Rattle.script_device.specs.declared.directory.PartNodes.{PartNodes}
use Rattle.script_device.proofs.Firsts.{part_found, part_missed, part_within}
use Rattle.script_device.proofs.tables.Tables.part.Goals as goal

pub bounds-as_slice-place : goal.bounds-as_slice-place
bounds-as_slice-place c =
    let parts = c.args.directory.now.parts in
    subst (λ (v : List PartNodes). c.in-Some.place < length v) (sym c.as_slice.ensures) (part_within c.args.self.now.parts parts c.args.name.now c.in-Some.place c.requires.parts (sym c.find.ensures ∙ c.in-Some.is))

pub offset_bounds-as_slice-place : goal.offset_bounds-as_slice-place
offset_bounds-as_slice-place c =
    let h : c.in-Some.place < length c.as_slice.result.now = bounds-as_slice-place c in search rules

pub returns-in-None : goal.returns-in-None
returns-in-None c = part_missed c.args.self.now.parts c.args.directory.now.parts c.args.name.now c.requires.parts (sym c.find.ensures ∙ c.in-None.is)

pub returns-in-Some : goal.returns-in-Some
returns-in-Some c =
    part_found c.args.self.now.parts c.args.directory.now.parts c.as_slice.result.now c.args.name.now c.in-Some.place _ c.requires.parts (sym c.find.ensures ∙ c.in-Some.is) c.as_slice.ensures ∙ ap Some (sym c.index-as_slice-place.is)
