use Rattle.outer_world.proofs.Passing.{Passes-cut, Passes-then}
use Rattle.std.specs.List.{flat_map}
use Rattle.jack_debug.specs.MapText.{field_lines, static_line}
use Rattle.jack_debug.proofs.map_printing.put_class.Goals as goal

pub returns-in-Done-clause-passes : goal.returns-in-Done-clause-passes
returns-in-Done-clause-passes g c =
    Passes-then _ _ _ _ _ _ _ _ _ (rw c.as_slice.ensures at c.in-Done.ensures.passes) (rw c.as_slice-in-Done.ensures at c.put_statics.ensures.passes)

pub returns-in-Failed-clause-passes : goal.returns-in-Failed-clause-passes
returns-in-Failed-clause-passes g c =
    let class = c.args.class.now in
    Passes-cut _ _ _ _ (field_lines class.name 0 class.fields) (flat_map (static_line class.name) class.statics) (rw c.as_slice.ensures at c.in-Failed.ensures.passes)
