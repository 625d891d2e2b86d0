use Rattle.std.proofs.Common.{sym, subst}
use Rattle.script_device.specs.Directory.{named_of}
use Rattle.script_device.specs.Simulated.{RunsNet}
use Rattle.script_device.proofs.chip.DrivenChip.eval.Goals as goal

pub returns-clause-driven : goal.returns-clause-driven
returns-clause-driven c = λ calls d. record { stands = c.eval.ensures.stands calls d.stands; cycle = d.cycle; ticked = d.ticked }

pub returns-clause-runs : goal.returns-clause-runs
returns-clause-runs c = λ simplify. subst (RunsNet simplify (named_of c.args.self.now.directory)) (sym c.eval.ensures.frame)
