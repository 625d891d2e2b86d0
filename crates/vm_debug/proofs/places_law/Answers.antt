use Rattle.vm_debug.proofs.Program.{places_are}
use Rattle.vm_debug.proofs.places_law.Goals as goal

pub returns : goal.returns
returns c = places_are
