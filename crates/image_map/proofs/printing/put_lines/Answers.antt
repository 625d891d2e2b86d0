use Rattle.std.proofs.Common.{◌++◌, map}
use Rattle.std.specs.List.{flat_map}
use Rattle.outer_world.proofs.Passing.{Passes-cut, Passes-then}
use Rattle.outer_world.specs.declared.sink.Put.TheVariants as put
use Rattle.image_map.specs.Text.{commit_line, point_line, shared_line}
use Rattle.image_map.proofs.printing.put_lines.Goals as goal

pub returns-in-Failed-clause-passes : goal.returns-in-Failed-clause-passes
returns-in-Failed-clause-passes g c = Passes-cut _ _ _ _ _ _ c.in-Failed.ensures.passes

pub returns-in-Failed-put_points-clause-passes : goal.returns-in-Failed-put_points-clause-passes
returns-in-Failed-put_points-clause-passes g c =
    let points = flat_map (point_line (map (λ n. n.now) c.args.names.now)) c.args.mapping.now.points in
    let more = flat_map commit_line c.args.mapping.now.commits ++ flat_map shared_line c.args.mapping.now.shared in
    Passes-then _ _ _ _ _ _ _ (points ++ more) put.Failed c.in-Done.ensures.passes (Passes-cut _ _ _ _ points more (rw c.as_slice.ensures at c.in-Failed-put_points.ensures.passes))

pub returns-in-Failed-put_commits-clause-passes : goal.returns-in-Failed-put_commits-clause-passes
returns-in-Failed-put_commits-clause-passes g c =
    let commits = flat_map commit_line c.args.mapping.now.commits in
    let shared = flat_map shared_line c.args.mapping.now.shared in
    Passes-then _ _ _ _ _ _ _ _ _ c.in-Done.ensures.passes (Passes-then _ _ _ _ _ _ _ (commits ++ shared) put.Failed (rw c.as_slice.ensures at c.in-Done-put_points.ensures.passes)
    (Passes-cut _ _ _ _ commits shared (rw c.as_slice-2.ensures at c.in-Failed-put_commits.ensures.passes)))

pub returns-in-Done-put_commits-clause-passes : goal.returns-in-Done-put_commits-clause-passes
returns-in-Done-put_commits-clause-passes g c =
    Passes-then _ _ _ _ _ _ _ _ _ c.in-Done.ensures.passes (Passes-then _ _ _ _ _ _ _ _ _ (rw c.as_slice.ensures at c.in-Done-put_points.ensures.passes)
    (Passes-then _ _ _ _ _ _ _ _ _ (rw c.as_slice-2.ensures at c.in-Done-put_commits.ensures.passes) (rw c.as_slice-in-Done-put_commits.ensures at c.put_shared.ensures.passes)))
