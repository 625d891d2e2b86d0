use Rattle.os_strings.proofs.QuotesMade.{law}
use Rattle.os_strings.proofs.quote_laws.Goals as goal

pub returns : goal.returns
returns c = law
