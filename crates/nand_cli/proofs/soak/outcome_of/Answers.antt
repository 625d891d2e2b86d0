use Rattle.nand_cli.specs.Commands.Soak.{cycles, most_moves}
use Rattle.nand_cli.proofs.SoakOutcome.{outcome_is}
use Rattle.nand_cli.proofs.soak.outcome_of.Goals as goal

pub returns : goal.returns
returns c = outcome_is c.args.core.now c.args.image c.args.gates.now cycles most_moves c.steps-steps.result c.sum_of.result c.in_ok-agrees.agrees c.requires.image c.requires.same c.requires.followed c.steps-steps.ensures c.sum_of.ensures c.in_ok-agrees.ensures
