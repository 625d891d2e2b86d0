use Rattle.tower.proofs.VmRuns.{no_fault}
use Rattle.tower.proofs.vm_level.prepare_vm.Goals as goal

pub unreachable-requires : goal.unreachable-requires
unreachable-requires c =
    no_fault c.args.core.now c.requires.built.1.linked _ c.requires.built.1.links c.in-Err-TooManyStatics.ensures.links (λ e. let no : ⊥ = cc in no)
