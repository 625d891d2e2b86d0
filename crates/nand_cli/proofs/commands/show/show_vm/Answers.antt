use Rattle.std.proofs.Common.{List, [], ◌∷◌, ◌++◌, true, refl, ap, subst, sym, ◌∙◌}
use Rattle.std.proofs.lemmas.Result.{err_from_is_err_and}
use Rattle.outer_world.specs.Files.{LacksFile}
use Rattle.source_files.specs.Sources.{IsFaulty, SpellsAt}
use Rattle.vm_tree.specs.Printed.{program_text}
use Rattle.vm_tree.specs.declared.program.File.{File}
use Rattle.command_line.specs.Line.{of_file, show}
use Rattle.command_line.specs.declared.request.SourceKind.TheVariants as kinds
use Rattle.vm_parser.specs.Language.{RefusesVm, SpellsVmFile}
use Rattle.nand_cli.specs.Commands.Show.{SpellsVm}
use Rattle.nand_cli.proofs.Doing.{done_by, done_counts, nothing_put, unread_counts}
use Rattle.nand_cli.proofs.commands.show.show_vm.Goals as goal

pub returns-in_err-file-clause-does : goal.returns-in_err-file-clause-does
returns-in_err-file-clause-does g c = λ err.
    let p = err_from_is_err_and c.from_residual.result c.from_residual.ensures.1 in
    let files = (g.F.Shelf.state c.args.shelf.now).files in
    let path = c.args.path.now in
    rw (p.1, p.2) (nothing_put (SpellsAt (SpellsVmFile true []) files path) (IsFaulty (RefusesVm true) files path) ((g.F.Shelf.state c.args.shelf.now).unfailing → LacksFile files path)
    files (g.F.Shelf.state c.args.shelf.now).there (g.F.Shelf.state c.args.shelf.now).unfailing (of_file path (show kinds.Vm)) (g.O.Sink.state c.args.out.now) err _ (λ line k. (refl, k, refl)) (λ h. h) c.in_err-file.ensures.loads tt)

pub returns-in_err-file-clause-counts : goal.returns-in_err-file-clause-counts
returns-in_err-file-clause-counts g c = λ err.
    let p = err_from_is_err_and c.from_residual.result c.from_residual.ensures.1 in
    rw (p.1, p.2) (unread_counts File _ _ _ (g.O.Sink.state c.args.out.now) err c.in_err-file.ensures.counts)

pub returns-clause-does : goal.returns-clause-does
returns-clause-does g c = λ err.
    let files = (g.F.Shelf.state c.args.shelf.now).files in
    let path = c.args.path.now in
    let loaded = c.in_ok-file.ensures.loads in
    let program = c.push.new.self in
    let P : List File → Type 0 = λ p. SpellsVm loaded.0 p in
    let alone = c.in_ok-push.ensures.ok ∙ ap (λ (files : List File). files ++ c.in_ok-file.file ∷ []) c.new-program.ensures in
    rw (c.finished.ensures) (done_by files (g.F.Shelf.state c.args.shelf.now).there (g.F.Shelf.state c.args.shelf.now).unfailing (of_file path (show kinds.Vm)) (program_text program) (g.O.Sink.state c.args.out.now) (g.O.Sink.state c.print.new.out) err c.print.result ((program, (loaded.0, loaded.1, subst P (sym alone) loaded.2), refl), refl) c.print.ensures.put tt)

pub returns-clause-counts : goal.returns-clause-counts
returns-clause-counts g c = λ err.
    rw (c.finished.ensures) (done_counts _ _ (g.O.Sink.state c.args.out.now) (g.O.Sink.state c.print.new.out) err c.print.result c.in_ok-file.ensures.counts c.print.ensures.put.counts)
