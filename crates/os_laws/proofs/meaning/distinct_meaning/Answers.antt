use Rattle.os_laws.proofs.FewParts.{distinct}
use Rattle.os_laws.proofs.meaning.distinct_meaning.Goals as goal

pub returns : goal.returns
returns c = distinct
