use Rattle.std.proofs.Common.{ap}
use Rattle.std.proofs.lemmas.Result.{err_from_is_err_and}
use Rattle.outer_world.specs.Plans.{PlannedShelf}
use Rattle.nand_cli.specs.Commands.Soak.{HasOutcome}
use Rattle.nand_cli.specs.declared.soak.Outcome.{Outcome}
use Rattle.nand_cli.proofs.SoakTold.{has_outcome, without_core, without_image}
use Rattle.nand_cli.proofs.commands.soak.outcome_of.Goals as goal

pub returns-in_err-core : goal.returns-in_err-core
returns-in_err-core c =
    let p = err_from_is_err_and c.from_residual-in_err-core.result c.from_residual-in_err-core.ensures.1 in
    let shelf = c.in_ok-shelf.shelf in
    rw (p.1, p.2) (without_core (λ (told : Outcome). HasOutcome c.args.seed c.args.number told.steps told.sum told.agrees) c.args.seed c.args.number c.in_ok-text.text.items shelf.fails shelf.calls shelf.files _
    c.in_ok-text.ensures (ap (λ (s : PlannedShelf). s.files) c.in_ok-shelf.ensures) (ap (λ (s : PlannedShelf). s.fails) c.in_ok-shelf.ensures) c.in_err-core.ensures.loads)

pub returns-in_err-image : goal.returns-in_err-image
returns-in_err-image c =
    let p = err_from_is_err_and c.from_residual-in_err-image.result c.from_residual-in_err-image.ensures.1 in
    let shelf = c.in_ok-shelf.shelf in
    rw (p.1, p.2) (without_image (λ (told : Outcome). HasOutcome c.args.seed c.args.number told.steps told.sum told.agrees) c.args.seed c.args.number c.in_ok-text.text.items shelf.files c.in_ok-core.core _
    c.in_ok-text.ensures (ap (λ (s : PlannedShelf). s.files) c.in_ok-shelf.ensures) c.in_ok-core.ensures.loads c.in_err-image.ensures.loads)

pub returns : goal.returns
returns c =
    let shelf = c.in_ok-shelf.shelf in
    has_outcome c.args.seed c.args.number c.in_ok-text.text.items shelf.files c.in_ok-core.core _ _ _ c.in_ok-text.ensures (ap (λ (s : PlannedShelf). s.files) c.in_ok-shelf.ensures) c.in_ok-core.ensures.loads
    c.in_ok-outcome_at_levels.ensures
