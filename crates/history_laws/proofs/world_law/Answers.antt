use Rattle.history_laws.proofs.Worlds.{worlds}
use Rattle.history_laws.proofs.world_law.Goals as goal

pub returns : goal.returns
returns c = worlds
