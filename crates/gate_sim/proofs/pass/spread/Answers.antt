use Rattle.std.proofs.Common.{ap, ◌∙◌}
use Rattle.word16.specs.Words.{has_bit}
use Rattle.gate_sim.proofs.Lanes.{has_truth}
use Rattle.gate_sim.proofs.pass.spread.Goals as goal

pub returns-clause-value : goal.returns-clause-value
returns-clause-value c l less = ap (λ v. has_bit v l) c.truth.ensures ∙ has_truth _ l less ∙ c.bit.ensures ∙ ap (has_bit c.args.slot.value) c.from.ensures

pub returns-clause-change : goal.returns-clause-change
returns-clause-change c l less = ap (λ v. has_bit v l) c.truth-2.ensures ∙ has_truth _ l less ∙ c.bit-2.ensures ∙ ap (has_bit c.args.slot.change) c.from-2.ensures
