use Rattle.std.proofs.Common.{◌++◌}
use Rattle.outer_world.proofs.Passing.{Passes-cut, Passes-then}
use Rattle.outer_world.specs.declared.sink.Put.TheVariants as put
use Rattle.jack_debug.specs.MapText.{image_lines, program_lines}
use Rattle.jack_debug.proofs.map_printing.put_all_lines.Goals as goal

pub returns-in-Failed-clause-passes : goal.returns-in-Failed-clause-passes
returns-in-Failed-clause-passes g c = Passes-cut _ _ _ _ _ _ c.in-Failed.ensures.passes

pub returns-in-Failed-put_image_lines-clause-passes : goal.returns-in-Failed-put_image_lines-clause-passes
returns-in-Failed-put_image_lines-clause-passes g c =
    let image = image_lines c.args.places.now in
    let program = program_lines c.args.places.now in
    Passes-then _ _ _ _ _ _ _ (image ++ program) put.Failed c.in-Done.ensures.passes (Passes-cut _ _ _ _ image program c.in-Failed-put_image_lines.ensures.passes)

pub returns-in-Done-put_image_lines-clause-passes : goal.returns-in-Done-put_image_lines-clause-passes
returns-in-Done-put_image_lines-clause-passes g c =
    Passes-then _ _ _ _ _ _ _ _ _ c.in-Done.ensures.passes (Passes-then _ _ _ _ _ _ _ _ _ c.in-Done-put_image_lines.ensures.passes c.put_program_lines.ensures.passes)
