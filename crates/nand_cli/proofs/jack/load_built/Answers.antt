use Rattle.std.proofs.lemmas.Result.{err_from_is_err_and}
use Rattle.command_line.specs.Line.{source_of}
use Rattle.nand_cli.proofs.Means.{unbuilt_counts, without_computer, without_core}
use Rattle.nand_cli.proofs.jack.load_built.Goals as goal

pub returns-in_err-core-clause-loads : goal.returns-in_err-core-clause-loads
returns-in_err-core-clause-loads g c =
    let p = err_from_is_err_and c.from_residual.result c.from_residual.ensures.1 in
    rw (p.1, p.2) (without_core _ (source_of c.args.source.now) (g.F.Shelf.state c.args.shelf.now).there (g.F.Shelf.state c.args.shelf.now).unfailing _ c.in_err-core.ensures.loads)

pub returns-in_err-image-clause-loads : goal.returns-in_err-image-clause-loads
returns-in_err-image-clause-loads g c =
    let p = err_from_is_err_and c.from_residual-in_err-image.result c.from_residual-in_err-image.ensures.1 in
    rw (p.1, p.2) (without_computer _ (source_of c.args.source.now) (g.F.Shelf.state c.args.shelf.now).there (g.F.Shelf.state c.args.shelf.now).unfailing c.in_ok-core.core _ c.in_ok-core.ensures.loads c.in_err-image.ensures.loads)

pub returns-in_err-image-clause-counts : goal.returns-in_err-image-clause-counts
returns-in_err-image-clause-counts g c =
    let p = err_from_is_err_and c.from_residual-in_err-image.result c.from_residual-in_err-image.ensures.1 in
    rw (p.1, p.2) (unbuilt_counts c.in_ok-core.core c.args.source.now.folder.now _ _ _ c.in_err-image.ensures.loads c.in_ok-core.ensures.counts)
