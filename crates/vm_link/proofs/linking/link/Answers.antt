use Rattle.vm_link.proofs.SoundLemmas.{sound_of}
use Rattle.vm_link.proofs.linking.link.Goals as goal

pub returns-clause-sound : goal.returns-clause-sound
returns-clause-sound c = sound_of c.args.bare c.as_slice.result.now c.link_files.result c.link_files.ensures
