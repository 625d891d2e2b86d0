use Rattle.std.proofs.Common.{refl}
use Rattle.std.proofs.lemmas.Result.{err_from_is_err_and}
use Rattle.outer_world.specs.Files.{LacksFile}
use Rattle.source_files.specs.Sources.{IsFaulty, SpellsAt}
use Rattle.hdl_tree.specs.declared.tree.Chip.{Chip}
use Rattle.hdl_parser.specs.Spells.{Spells as SpellsChip}
use Rattle.hdl_parser.specs.Printed.{chip_text}
use Rattle.command_line.specs.Line.{of_file, show}
use Rattle.command_line.specs.declared.request.SourceKind.TheVariants as kinds
use Rattle.hdl_parser.specs.Language.{RefusesHdl}
use Rattle.nand_cli.proofs.Doing.{done_by, done_counts, nothing_put, unread_counts}
use Rattle.nand_cli.proofs.commands.show.show_chip.Goals as goal

pub returns-in_err-chip-clause-does : goal.returns-in_err-chip-clause-does
returns-in_err-chip-clause-does g c = λ err.
    let p = err_from_is_err_and c.from_residual.result c.from_residual.ensures.1 in
    let files = (g.F.Shelf.state c.args.shelf.now).files in
    let path = c.args.path.now in
    rw (p.1, p.2) (nothing_put (SpellsAt SpellsChip files path) (IsFaulty RefusesHdl files path) ((g.F.Shelf.state c.args.shelf.now).unfailing → LacksFile files path)
    files (g.F.Shelf.state c.args.shelf.now).there (g.F.Shelf.state c.args.shelf.now).unfailing (of_file path (show kinds.Hdl)) (g.O.Sink.state c.args.out.now) err _ (λ line k. (refl, k, refl)) (λ h. h) c.in_err-chip.ensures.loads tt)

pub returns-in_err-chip-clause-counts : goal.returns-in_err-chip-clause-counts
returns-in_err-chip-clause-counts g c = λ err.
    let p = err_from_is_err_and c.from_residual.result c.from_residual.ensures.1 in
    rw (p.1, p.2) (unread_counts Chip _ _ _ (g.O.Sink.state c.args.out.now) err c.in_err-chip.ensures.counts)

pub returns-clause-does : goal.returns-clause-does
returns-clause-does g c = λ err.
    let source = c.in_ok-chip.chip in
    let loaded = c.in_ok-chip.ensures.loads in
    rw (c.finished.ensures) (done_by (g.F.Shelf.state c.args.shelf.now).files (g.F.Shelf.state c.args.shelf.now).there (g.F.Shelf.state c.args.shelf.now).unfailing (of_file c.args.path.now (show kinds.Hdl)) (chip_text source) (g.O.Sink.state c.args.out.now) (g.O.Sink.state c.print.new.out) err c.print.result ((source, loaded, refl), refl) c.print.ensures.put tt)

pub returns-clause-counts : goal.returns-clause-counts
returns-clause-counts g c = λ err.
    rw (c.finished.ensures) (done_counts _ _ (g.O.Sink.state c.args.out.now) (g.O.Sink.state c.print.new.out) err c.print.result c.in_ok-chip.ensures.counts c.print.ensures.put.counts)
