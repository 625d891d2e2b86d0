use Rattle.std.proofs.Common.{◌+◌, ◌*◌, drop, min, sym, ap, ◌∙◌}
use Rattle.std.specs.Prelude.{if◌then◌else◌}
use Rattle.netlist.specs.Value.{spelled_number}
use Rattle.netlist.proofs.Rows.{spelled_back}
use Rattle.gate_sim.specs.Inner.Slots.{value_at}
use Rattle.gate_sim.proofs.pass.number.Goals as goal

pub loop-k-preserved : goal.loop-k-preserved
loop-k-preserved c = record {
  below = c.doubled-number.ensures.below;
  value =
      c.doubled-number.ensures.value (spelled_number (value_at c.args.places.now c.args.slots.now) (drop c.loop-k.k c.args.nodes.now)) c.loop-k.invariant.value
      ∙ ap (λ b. min ((if b then 1 else 0) + 2 * spelled_number (value_at c.args.places.now c.args.slots.now) (drop c.loop-k.k c.args.nodes.now)) 4294967296) c.value_of.ensures
      ∙ ap (λ n. min n 4294967296) (sym (spelled_back (value_at c.args.places.now c.args.slots.now) c.args.nodes.now c.loop-k.k c.loop-k-test.true c.loop-k.auto.k));
}
