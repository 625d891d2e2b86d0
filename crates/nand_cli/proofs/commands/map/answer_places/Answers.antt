use Rattle.std.proofs.Common.{refl, inl}
use Rattle.std.proofs.lemmas.Result.{err_from_is_err_and}
use Rattle.outer_world.specs.Files.{LacksFolder}
use Rattle.jack_debug.specs.MapText.{map_text}
use Rattle.command_line.specs.Line.{map_image, of_classes, source_of}
use Rattle.command_line.specs.declared.request.MapFormat.TheVariants.{Places}
use Rattle.nand_cli.specs.Commands.Build.{BuildRefuses}
use Rattle.nand_cli.specs.Commands.Map.{FolderHasPlaces}
use Rattle.nand_cli.specs.Inner.Debugging.{FolderIsPlaced}
use Rattle.nand_cli.specs.declared.placed.PlacedProgram.{PlacedProgram}
use Rattle.nand_cli.proofs.Covering.{covered}
use Rattle.nand_cli.proofs.Rising.{rising}
use Rattle.nand_cli.proofs.Doing.{done_by, done_counts, missing, nothing_put, unread_counts}
use Rattle.nand_cli.proofs.commands.map.answer_places.Goals as goal

pub returns-in_err-program-clause-does : goal.returns-in_err-program-clause-does
returns-in_err-program-clause-does g c = λ err.
    let p = err_from_is_err_and c.from_residual.result c.from_residual.ensures.1 in
    let files = (g.F.Shelf.state c.args.shelf.now).files in
    let folder = c.args.source.now.folder.now in
    let source = source_of c.args.source.now in
    let there = (g.F.Shelf.state c.args.shelf.now).there in
    let steady = (g.F.Shelf.state c.args.shelf.now).unfailing in
    rw (p.1, p.2) (nothing_put (FolderIsPlaced files source) (BuildRefuses files source) (steady → LacksFolder files there folder) files there steady (of_classes (source_of c.args.source.now) (map_image Places)) (g.O.Sink.state c.args.out.now) err _
    (λ line k. (refl, k, refl)) (λ k s. missing files there folder (of_classes (source_of c.args.source.now) (map_image Places)) (λ told none. inl none) (k s)) c.in_err-program.ensures.loads tt)

pub returns-in_err-program-clause-counts : goal.returns-in_err-program-clause-counts
returns-in_err-program-clause-counts g c = λ err.
    let p = err_from_is_err_and c.from_residual.result c.from_residual.ensures.1 in
    rw (p.1, p.2) (unread_counts PlacedProgram _ _ _ (g.O.Sink.state c.args.out.now) err c.in_err-program.ensures.counts)

pub returns-clause-does : goal.returns-clause-does
returns-clause-does g c = λ err.
    let program = c.in_ok-program.program in
    let places = program.places in
    let placed = c.in_ok-program.ensures.loads in
    let have = placed.2.have in
    let here : FolderHasPlaces (g.F.Shelf.state c.args.shelf.now).files (source_of c.args.source.now) places = (placed.0, placed.1, have) in
    rw (c.finished.ensures) (done_by (g.F.Shelf.state c.args.shelf.now).files (g.F.Shelf.state c.args.shelf.now).there (g.F.Shelf.state c.args.shelf.now).unfailing (of_classes (source_of c.args.source.now) (map_image Places)) (map_text places) (g.O.Sink.state c.args.out.now) (g.O.Sink.state c.print_map.new.out) err c.print_map.result
    ((places, here, (covered have.core have.image have.is_image, rising have.core have.image have.is_image), refl), refl) c.print_map.ensures.put tt)

pub returns-clause-counts : goal.returns-clause-counts
returns-clause-counts g c = λ err.
    rw (c.finished.ensures) (done_counts _ _ (g.O.Sink.state c.args.out.now) (g.O.Sink.state c.print_map.new.out) err c.print_map.result c.in_ok-program.ensures.counts c.print_map.ensures.put.counts)
