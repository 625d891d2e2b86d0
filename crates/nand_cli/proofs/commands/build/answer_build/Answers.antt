use Rattle.std.proofs.Common.{List, ℕ, refl, subst, inl}
use Rattle.std.proofs.lemmas.Result.{err_from_is_err_and}
use Rattle.outer_world.specs.Files.{LacksFolder}
use Rattle.outer_world.specs.Written.{Puts}
use Rattle.hack_asm.specs.Image.{image_text}
use Rattle.command_line.specs.Line.{build, of_classes, source_of}
use Rattle.nand_cli.specs.Commands.Build.{BuildRefuses, FolderBuilds}
use Rattle.nand_cli.specs.declared.jack.BuiltProgram.{BuiltProgram}
use Rattle.nand_cli.proofs.Doing.{done_by, done_counts, missing, nothing_put, unread_counts}
use Rattle.nand_cli.proofs.commands.build.answer_build.Goals as goal

pub returns-in_err-program-clause-does : goal.returns-in_err-program-clause-does
returns-in_err-program-clause-does g c = λ err.
    let p = err_from_is_err_and c.from_residual.result c.from_residual.ensures.1 in
    let files = (g.F.Shelf.state c.args.shelf.now).files in
    let folder = c.args.source.now.folder.now in
    let source = source_of c.args.source.now in
    let there = (g.F.Shelf.state c.args.shelf.now).there in
    let steady = (g.F.Shelf.state c.args.shelf.now).unfailing in
    rw (p.1, p.2) (nothing_put (λ (b : BuiltProgram). FolderBuilds files source b.core b.image) (BuildRefuses files source) (steady → LacksFolder files there folder) files there steady (of_classes (source_of c.args.source.now) build) (g.O.Sink.state c.args.out.now) err _
    (λ line k. (refl, k, refl)) (λ k s. missing files there folder (of_classes (source_of c.args.source.now) build) (λ told none. inl none) (k s)) c.in_err-program.ensures.loads tt)

pub returns-in_err-program-clause-counts : goal.returns-in_err-program-clause-counts
returns-in_err-program-clause-counts g c = λ err.
    let p = err_from_is_err_and c.from_residual.result c.from_residual.ensures.1 in
    rw (p.1, p.2) (unread_counts BuiltProgram _ _ _ (g.O.Sink.state c.args.out.now) err c.in_err-program.ensures.counts)

pub returns-clause-does : goal.returns-clause-does
returns-clause-does g c = λ err.
    let P : List ℕ → Type 0 = λ words. Puts (g.O.Sink.state c.args.out.now) (g.O.Sink.state c.write_hack.new.out) (image_text words) c.write_hack.result in
    let program = c.in_ok-program.program in
    rw (c.finished.ensures) (done_by (g.F.Shelf.state c.args.shelf.now).files (g.F.Shelf.state c.args.shelf.now).there (g.F.Shelf.state c.args.shelf.now).unfailing (of_classes (source_of c.args.source.now) build) (image_text program.image.words) (g.O.Sink.state c.args.out.now) (g.O.Sink.state c.write_hack.new.out) err c.write_hack.result
    ((program.core, program.image, c.in_ok-program.ensures.loads, refl), refl) (subst P c.as_slice.ensures c.write_hack.ensures.put) tt)

pub returns-clause-counts : goal.returns-clause-counts
returns-clause-counts g c = λ err.
    rw (c.finished.ensures) (done_counts _ _ (g.O.Sink.state c.args.out.now) (g.O.Sink.state c.write_hack.new.out) err c.write_hack.result c.in_ok-program.ensures.counts c.write_hack.ensures.put.counts)
