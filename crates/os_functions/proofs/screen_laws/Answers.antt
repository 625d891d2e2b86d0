use Rattle.os_functions.proofs.ScreenMade.{law}
use Rattle.os_functions.proofs.screen_laws.Goals as goal

pub returns : goal.returns
returns c = law
