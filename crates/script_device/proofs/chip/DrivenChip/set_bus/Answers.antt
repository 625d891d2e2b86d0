use Rattle.std.proofs.Common.{sym, ◌∙◌, subst}
use Rattle.script_device.proofs.Buses.{set_cycle, set_ticked}
use Rattle.script_device.specs.Directory.{named_of}
use Rattle.script_device.specs.Simulated.{RunsNet}
use Rattle.script_device.proofs.chip.DrivenChip.set_bus.Goals as goal

pub returns-clause-driven : goal.returns-clause-driven
returns-clause-driven c = λ calls d. record {
  stands = c.set_bus.ensures.stands calls d.stands;
  cycle = d.cycle ∙ sym (set_cycle _ 0 c.args.word c.args.nodes.now calls);
  ticked = d.ticked ∙ sym (set_ticked _ 0 c.args.word c.args.nodes.now calls);
}

pub returns-clause-runs : goal.returns-clause-runs
returns-clause-runs c = λ simplify. subst (RunsNet simplify (named_of c.args.self.now.directory)) (sym c.set_bus.ensures.frame)
