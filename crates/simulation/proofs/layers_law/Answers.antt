use Rattle.simulation.specs.Laws.{Related}
use Rattle.simulation.proofs.Compose.{through}
use Rattle.simulation.proofs.Following.{following, meeting}
use Rattle.simulation.proofs.Traces.{same_counts}
use Rattle.simulation.proofs.layers_law.Goals as goal

pub returns-clause-compose : goal.returns-clause-compose
returns-clause-compose c s = λ up mid low cost_mid cost r s bound stops above below. through up mid low cost_mid cost (Related r) (Related s) stops below bound above

pub returns-clause-follow : goal.returns-clause-follow
returns-clause-follow c s = λ up start low cost r bound gap until keys state carries n near. following up start low cost (Related r) bound gap until keys state carries n near

pub returns-clause-meet : goal.returns-clause-meet
returns-clause-meet c s = λ up start low cost r bound gap until keys state carries n near now tame. meeting up start low cost (Related r) bound gap until keys state carries n near now tame

pub returns-clause-counts : goal.returns-clause-counts
returns-clause-counts c s = same_counts
