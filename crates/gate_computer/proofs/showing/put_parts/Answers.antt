use Rattle.std.proofs.Common.{◌∙◌, ap, drop, sym, Some, ◌+◌}
use Rattle.std.proofs.lemmas.Option.{slice_get-get_or}
use Rattle.netlist.specs.Present.{value_in}
use Rattle.gate_computer.specs.Inner.Reading.{wired_text}
use Rattle.outer_world.proofs.Prints.{prints_more, prints_failed, rest_at}
use Rattle.gate_computer.proofs.showing.put_parts.Goals as goal

pub put_part-requires : goal.put_part-requires
put_part-requires g c = c.requires c.loop-part.part-index c.part-item.result (slice_get-get_or c.args.parts.now c.loop-part.part-index c.part-item.result c.loop-part-test.true ∙ ap Some (sym c.part-item.is))

pub returns-in-Failed-clause-passes : goal.returns-in-Failed-clause-passes
returns-in-Failed-clause-passes g c =
    prints_failed _ _ _ (wired_text (value_in c.args.sim.now.values) (drop (c.loop-part.part-index + 1) c.args.parts.now)) _ _ _ _ _ _ (ap (wired_text (value_in c.args.sim.now.values)) (rest_at c.args.parts.now c.loop-part.part-index c.part-item.result c.loop-part-test.true c.part-item.is)) c.loop-part.invariant.1 c.in-Failed.ensures.passes

pub loop-part-preserved : goal.loop-part-preserved
loop-part-preserved g c = (
  c.in-Done.ensures.same_sink ∙ c.loop-part.invariant.0,
  prints_more _ _ _ _ _ _ _ _ _ _ (ap (wired_text (value_in c.args.sim.now.values)) (rest_at c.args.parts.now c.loop-part.part-index c.part-item.result c.loop-part-test.true c.part-item.is)) c.loop-part.invariant.1 c.in-Done.ensures.passes,
)
