use Rattle.os_laws.proofs.NamesLead.{law}
use Rattle.os_laws.proofs.names.named_law.Goals as goal

pub returns : goal.returns
returns c = law
