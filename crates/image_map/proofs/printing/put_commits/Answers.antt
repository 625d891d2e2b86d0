use Rattle.std.proofs.Common.{◌∙◌, ap, drop, get_or, ◌+◌}
use Rattle.std.specs.List.{flat_map}
use Rattle.std.proofs.lemmas.List.{get_or_default}
use Rattle.outer_world.proofs.Prints.{prints_more, prints_failed, rest_at}
use Rattle.image_map.specs.Text.{commit_line}
use Rattle.image_map.proofs.printing.put_commits.Goals as goal

pub returns-in-Failed-clause-passes : goal.returns-in-Failed-clause-passes
returns-in-Failed-clause-passes g c =
    let commits = c.args.commits.now in
    let i = c.loop-address.address-index in
    prints_failed _ _ _ (flat_map commit_line (drop (i + 1) commits)) _ _ _ _ _ _
    (ap (flat_map commit_line) (rest_at commits i (get_or commits i 0) c.loop-address-test.true (get_or_default commits i 0 (get_or commits i 0) c.loop-address-test.true))) c.loop-address.invariant.1
    c.in-Failed.ensures.passes

pub loop-address-preserved : goal.loop-address-preserved
loop-address-preserved g c =
    let commits = c.args.commits.now in
    let i = c.loop-address.address-index in (
      c.in-Done.ensures.same_sink ∙ c.loop-address.invariant.0,
      prints_more _ _ _ _ _ _ _ _ _ _
          (ap (flat_map commit_line) (rest_at commits i (get_or commits i 0) c.loop-address-test.true (get_or_default commits i 0 (get_or commits i 0) c.loop-address-test.true))) c.loop-address.invariant.1
          c.in-Done.ensures.passes,
    )
