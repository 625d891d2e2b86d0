use Rattle.std.proofs.Common.{ℕ, ◌∙◌, ap, drop, get_or, ◌+◌}
use Rattle.std.specs.List.{flat_map}
use Rattle.std.proofs.lemmas.List.{get_or_default}
use Rattle.outer_world.proofs.Prints.{prints_more, prints_failed, rest_at}
use Rattle.image_map.specs.Text.{shared_line}
use Rattle.image_map.proofs.printing.put_shared.Goals as goal

abbrev nothing : ℕ × ℕ
nothing = (0, 0)

pub returns-in-Failed-clause-passes : goal.returns-in-Failed-clause-passes
returns-in-Failed-clause-passes g c =
    let shared = c.args.shared.now in
    let i = c.loop-range.range-index in
    prints_failed _ _ _ (flat_map shared_line (drop (i + 1) shared)) _ _ _ _ _ _
    (ap (flat_map shared_line) (rest_at shared i (get_or shared i nothing) c.loop-range-test.true (get_or_default shared i nothing (get_or shared i nothing) c.loop-range-test.true))) c.loop-range.invariant.1
    c.in-Failed.ensures.passes

pub loop-range-preserved : goal.loop-range-preserved
loop-range-preserved g c =
    let shared = c.args.shared.now in
    let i = c.loop-range.range-index in (
      c.in-Done.ensures.same_sink ∙ c.loop-range.invariant.0,
      prints_more _ _ _ _ _ _ _ _ _ _
          (ap (flat_map shared_line) (rest_at shared i (get_or shared i nothing) c.loop-range-test.true (get_or_default shared i nothing (get_or shared i nothing) c.loop-range-test.true))) c.loop-range.invariant.1
          c.in-Done.ensures.passes,
    )
