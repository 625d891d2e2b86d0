use Rattle.std.proofs.Common.{ap, ◌∙◌}
use Rattle.gate_sim.specs.Calls.{cycle_of}
use Rattle.script_columns.specs.declared.layout.Value.TheVariants.{Time}
use Rattle.script_device.proofs.chip.DrivenChip.time.Goals as goal

pub returns : goal.returns
returns c = λ calls d. ap (λ n. Time n c.args.self.now.ticked) d.cycle ∙ ap (λ b. Time (cycle_of calls) b) d.ticked
