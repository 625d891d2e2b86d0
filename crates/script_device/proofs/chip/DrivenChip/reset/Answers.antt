use Rattle.std.proofs.Common.{refl, sym, subst}
use Rattle.script_device.specs.Directory.{named_of}
use Rattle.script_device.specs.Simulated.{RunsNet}
use Rattle.script_device.proofs.chip.DrivenChip.reset.Goals as goal

pub returns-clause-driven : goal.returns-clause-driven
returns-clause-driven c = record { stands = c.reset.ensures.stands; cycle = refl; ticked = refl }

pub returns-clause-runs : goal.returns-clause-runs
returns-clause-runs c = λ simplify. subst (RunsNet simplify (named_of c.args.self.now.directory)) (sym c.reset.ensures.frame)
