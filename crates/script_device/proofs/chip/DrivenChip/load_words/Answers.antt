use Rattle.std.proofs.Common.{sym, subst}
use Rattle.script_device.specs.Directory.{named_of}
use Rattle.script_device.specs.Simulated.{RunsNet}
use Rattle.script_device.proofs.chip.DrivenChip.load_words.Goals as goal

pub returns-clause-runs : goal.returns-clause-runs
returns-clause-runs c = λ simplify. subst (RunsNet simplify (named_of c.args.self.now.directory)) (sym c.load_block.ensures.frame)
