use Rattle.outer_world.proofs.Passing.{Passes-cut, Passes-then}
use Rattle.std.specs.Prelude.{slice_get}
use Rattle.std.specs.List.{flat_map}
use Rattle.jack_debug.specs.MapText.{lines_of_class, lines_of_sub}
use Rattle.jack_debug.specs.Walk.{sub_at}
use Rattle.jack_debug.proofs.map_printing.put_program_lines.Goals as goal

pub returns-in-Done-clause-passes : goal.returns-in-Done-clause-passes
returns-in-Done-clause-passes g c =
    Passes-then _ _ _ _ _ _ _ _ _ (rw c.as_slice.ensures at c.in-Done.ensures.passes) (rw c.as_slice-in-Done.ensures at c.put_classes.ensures.passes)

pub returns-in-Failed-clause-passes : goal.returns-in-Failed-clause-passes
returns-in-Failed-clause-passes g c =
    let places = c.args.places.now in
    Passes-cut _ _ _ _ (flat_map (λ k. lines_of_sub (sub_at places k)) places.linked) (flat_map (λ k. lines_of_class (slice_get places.classes k)) places.by_name)
    (rw c.as_slice.ensures at c.in-Failed.ensures.passes)
