use Rattle.os_functions.proofs.CursorMade.{law}
use Rattle.os_functions.proofs.cursor_laws.Goals as goal

pub returns : goal.returns
returns c = law
