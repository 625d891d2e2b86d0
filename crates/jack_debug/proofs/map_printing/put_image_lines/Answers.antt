use Rattle.std.proofs.Common.{◌++◌}
use Rattle.std.specs.List.{flat_map}
use Rattle.outer_world.proofs.Passing.{Passes-cut, Passes-then}
use Rattle.outer_world.specs.declared.sink.Put.TheVariants as put
use Rattle.image_map.specs.Text.{commit_line, shared_line}
use Rattle.jack_debug.specs.MapText.{point_line}
use Rattle.jack_debug.proofs.map_printing.put_image_lines.Goals as goal

pub returns-in-Failed-clause-passes : goal.returns-in-Failed-clause-passes
returns-in-Failed-clause-passes g c =
    let places = c.args.places.now in
    Passes-cut _ _ _ _ (flat_map (point_line places) places.ranges) (flat_map commit_line places.commits ++ flat_map shared_line places.shared) (rw c.as_slice.ensures at c.in-Failed.ensures.passes)

pub returns-in-Failed-put_commits-clause-passes : goal.returns-in-Failed-put_commits-clause-passes
returns-in-Failed-put_commits-clause-passes g c =
    let places = c.args.places.now in
    let commits = flat_map commit_line places.commits in
    let shared = flat_map shared_line places.shared in
    Passes-then _ _ _ _ _ _ _ (commits ++ shared) put.Failed (rw c.as_slice.ensures at c.in-Done.ensures.passes)
    (Passes-cut _ _ _ _ commits shared (rw c.as_slice-2.ensures at c.in-Failed-put_commits.ensures.passes))

pub returns-in-Done-put_commits-clause-passes : goal.returns-in-Done-put_commits-clause-passes
returns-in-Done-put_commits-clause-passes g c =
    Passes-then _ _ _ _ _ _ _ _ _ (rw c.as_slice.ensures at c.in-Done.ensures.passes)
    (Passes-then _ _ _ _ _ _ _ _ _ (rw c.as_slice-2.ensures at c.in-Done-put_commits.ensures.passes) (rw c.as_slice-in-Done-put_commits.ensures at c.put_shared.ensures.passes))
