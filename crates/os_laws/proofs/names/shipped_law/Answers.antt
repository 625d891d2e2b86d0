use Rattle.os_laws.proofs.ShippedKernel.{law}
use Rattle.os_laws.proofs.names.shipped_law.Goals as goal

pub returns : goal.returns
returns c = law
