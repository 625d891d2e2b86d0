use Rattle.std.proofs.Common.{Option, subst}
use Rattle.outer_world.specs.Refusals.{Message}
use Rattle.source_files.specs.Loads.{TellsOf}
use Rattle.nand_cli.proofs.Translating.{same_bare, unlinked}
use Rattle.nand_cli.proofs.commands.vm.linked.Goals as goal

pub returns-in-Ok-clause-bare : goal.returns-in-Ok-clause-bare
returns-in-Ok-clause-bare c = same_bare c.args.bare c.args.program c.in-Ok.linked c.in-Ok.ensures.links

pub returns-in-Err-clause-links : goal.returns-in-Err-clause-links
returns-in-Err-clause-links c =
    let P : Option Message → Type 0 = λ o. TellsOf c.args.folder.now o c.of_diagnostic.result in
    unlinked c.args.bare c.args.folder.now c.args.program c.in-Err.fault _ c.in-Err.ensures.links (subst P c.diagnostic.ensures c.of_diagnostic.ensures)
