use Rattle.std.proofs.Common.{◌∙◌, ap, drop, get_or, ◌+◌}
use Rattle.std.specs.List.{flat_map}
use Rattle.std.proofs.lemmas.List.{get_or_default}
use Rattle.outer_world.proofs.Prints.{prints_more, prints_failed, rest_at}
use Rattle.jack_debug.specs.MapText.{lines_of_sub}
use Rattle.jack_debug.specs.Walk.{sub_at}
use Rattle.jack_debug.proofs.map_printing.put_subs.Goals as goal

pub returns-in-Failed-clause-passes : goal.returns-in-Failed-clause-passes
returns-in-Failed-clause-passes g c =
    let xs = c.args.linked.now in
    let i = c.loop-number.number-index in
    prints_failed _ _ _ (flat_map (λ k. lines_of_sub (sub_at c.args.places.now k)) (drop (i + 1) xs)) _ _ _ _ _ _
    (ap (flat_map (λ k. lines_of_sub (sub_at c.args.places.now k))) (rest_at xs i (get_or xs i 0) c.loop-number-test.true (get_or_default xs i 0 (get_or xs i 0) c.loop-number-test.true)))
    c.loop-number.invariant.1 c.in-Failed.ensures.passes

pub loop-number-preserved : goal.loop-number-preserved
loop-number-preserved g c =
    let xs = c.args.linked.now in
    let i = c.loop-number.number-index in (
      c.in-Done.ensures.same_sink ∙ c.loop-number.invariant.0,
      prints_more _ _ _ (flat_map (λ k. lines_of_sub (sub_at c.args.places.now k)) (drop (i + 1) xs)) _ _ _ _ _ _
          (ap (flat_map (λ k. lines_of_sub (sub_at c.args.places.now k))) (rest_at xs i (get_or xs i 0) c.loop-number-test.true (get_or_default xs i 0 (get_or xs i 0) c.loop-number-test.true)))
          c.loop-number.invariant.1 c.in-Done.ensures.passes,
    )
