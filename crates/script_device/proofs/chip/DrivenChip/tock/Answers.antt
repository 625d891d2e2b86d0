use Rattle.std.proofs.Common.{refl, ◌∙◌, sym, subst}
use Rattle.gate_sim.specs.Calls.{cycle_of, is_ticked}
use Rattle.script_device.proofs.Told.{next_cycle}
use Rattle.script_device.specs.Directory.{named_of}
use Rattle.script_device.specs.Simulated.{RunsNet}
use Rattle.script_device.proofs.chip.DrivenChip.tock.Goals as goal

pub returns-clause-driven : goal.returns-clause-driven
returns-clause-driven c = λ calls d. record {
  stands = c.tock.ensures.stands calls d.stands;
  cycle = c.next_cycle-self.ensures.value ∙ next_cycle c.args.self.now.ticked (is_ticked calls) c.args.self.now.cycle (cycle_of calls) d.cycle d.ticked;
  ticked = refl;
}

pub returns-clause-runs : goal.returns-clause-runs
returns-clause-runs c = λ simplify. subst (RunsNet simplify (named_of c.args.self.now.directory)) (sym c.tock.ensures.frame)
