use Rattle.std.proofs.Common.{Option, subst}
use Rattle.std.proofs.lemmas.Result.{err_from_is_err_and}
use Rattle.outer_world.specs.Refusals.{Message}
use Rattle.source_files.specs.Loads.{TellsOf}
use Rattle.nand_cli.proofs.Translating.{uncoded, untranslated}
use Rattle.nand_cli.proofs.commands.vm.code_of.Goals as goal

pub returns-in_err-linked-clause-codes : goal.returns-in_err-linked-clause-codes
returns-in_err-linked-clause-codes c =
    let p = err_from_is_err_and c.from_residual.result c.from_residual.ensures.1 in
    rw (p.1, p.2) (uncoded c.args.bare c.args.folder.now c.args.program _ c.in_err-linked.ensures.links)

pub returns-clause-codes : goal.returns-clause-codes
returns-clause-codes c =
    let P : Option Message → Type 0 = λ o. TellsOf c.args.folder.now o c.of_diagnostic.result in
    untranslated c.args.bare c.args.folder.now c.args.program c.in_ok-linked.linked c.in-Err.fault _ c.in_ok-linked.ensures.links c.in-Err.ensures.too_large (subst P c.diagnostic.ensures c.of_diagnostic.ensures)
