use Rattle.std.proofs.Common.{Option, subst}
use Rattle.outer_world.specs.Refusals.{Message}
use Rattle.source_files.specs.Loads.{TellsOf}
use Rattle.nand_cli.proofs.Means.{unbuilt_told}
use Rattle.nand_cli.proofs.jack.image_of.Goals as goal

pub returns-in-Err-clause-loads : goal.returns-in-Err-clause-loads
returns-in-Err-clause-loads c =
    let P : Option Message → Type 0 = λ o. TellsOf c.args.folder.now o c.of_diagnostic.result in
    unbuilt_told c.args.folder.now c.args.core.now c.in-Err.error _ c.in-Err.ensures.builds (subst P c.diagnostic.ensures c.of_diagnostic.ensures)
