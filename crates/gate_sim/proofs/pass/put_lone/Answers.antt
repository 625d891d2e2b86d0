use Rattle.std.proofs.Common.{ap, ◌∙◌}
use Rattle.word16.specs.Words.{has_bit}
use Rattle.gate_sim.specs.Inner.Slots.{slot_at}
use Rattle.gate_sim.proofs.Lanes.{has_truth, lone_on}
use Rattle.gate_sim.proofs.pass.put_lone.Goals as goal

pub returns-then-whole-masked_change-clause-value : goal.returns-then-whole-masked_change-clause-value
returns-then-whole-masked_change-clause-value g c l less =
    ap (λ v. has_bit v l) c.told-slot.ensures.value ∙ ap (λ v. has_bit v l) c.truth.ensures ∙ has_truth _ l less
    ∙ lone_on c.args.whole _ _ _ _ _ _ _ _ (has_bit (slot_at c.args.slots.now c.args.q).value l) c.masked_change.ensures c.masked_change-2.ensures c.masked_value.ensures c.masked_value-then-whole-masked_change.ensures c.if-whole-masked_change.true
