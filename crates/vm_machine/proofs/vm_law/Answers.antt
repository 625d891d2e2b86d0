use Rattle.vm_machine.proofs.Deaf.{key_law}
use Rattle.vm_machine.proofs.Ends.{end_law}
use Rattle.vm_machine.proofs.Kept.{sound_law}
use Rattle.vm_machine.proofs.vm_law.Goals as goal

pub returns-clause-keys : goal.returns-clause-keys
returns-clause-keys c = key_law

pub returns-clause-ends : goal.returns-clause-ends
returns-clause-ends c = end_law

pub returns-clause-sound : goal.returns-clause-sound
returns-clause-sound c = sound_law
