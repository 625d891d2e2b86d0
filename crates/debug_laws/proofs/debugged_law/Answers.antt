use Rattle.debug_laws.proofs.Debugged.{debugged, debugged_program}
use Rattle.debug_laws.proofs.debugged_law.Goals as goal

pub returns-clause-image : goal.returns-clause-image
returns-clause-image c = debugged

pub returns-clause-program : goal.returns-clause-program
returns-clause-program c = debugged_program
