use Rattle.os_functions.proofs.Statics.{law}
use Rattle.os_functions.proofs.static_laws.Goals as goal

pub returns : goal.returns
returns c = law
