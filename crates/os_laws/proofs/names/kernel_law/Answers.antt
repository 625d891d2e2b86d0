use Rattle.os_laws.proofs.Naming.{law}
use Rattle.os_laws.proofs.names.kernel_law.Goals as goal

pub returns : goal.returns
returns c = law
