use Rattle.std.proofs.Common.{◌∙◌, [], List, ℕ, refl, ap, map, subst, inl}
use Rattle.std.proofs.lemmas.Result.{err_from_is_err_and}
use Rattle.outer_world.specs.Files.{LacksFolder}
use Rattle.outer_world.specs.Written.{Puts}
use Rattle.outer_world.proofs.Passing.{Got-nothing}
use Rattle.jack_core.specs.Texts.{names_of}
use Rattle.image_map.specs.Text.{map_text}
use Rattle.command_line.specs.Line.{map_image, of_classes, source_of}
use Rattle.command_line.specs.declared.request.MapFormat.TheVariants.{Points}
use Rattle.nand_cli.specs.Commands.Build.{BuildRefuses, FolderBuilds}
use Rattle.nand_cli.specs.declared.jack.BuiltProgram.{BuiltProgram}
use Rattle.nand_cli.proofs.Covering.{covered}
use Rattle.nand_cli.proofs.Rising.{rising}
use Rattle.nand_cli.proofs.Doing.{done_by, done_counts, missing, nothing_put, unread_counts}
use Rattle.nand_cli.proofs.commands.map.answer_points.Goals as goal

pub returns-in_err-program-clause-does : goal.returns-in_err-program-clause-does
returns-in_err-program-clause-does g c = λ err.
    let p = err_from_is_err_and c.from_residual.result c.from_residual.ensures.1 in
    let files = (g.F.Shelf.state c.args.shelf.now).files in
    let folder = c.args.source.now.folder.now in
    let source = source_of c.args.source.now in
    let there = (g.F.Shelf.state c.args.shelf.now).there in
    let steady = (g.F.Shelf.state c.args.shelf.now).unfailing in
    rw (p.1, p.2) (nothing_put (λ (b : BuiltProgram). FolderBuilds files source b.core b.image) (BuildRefuses files source) (steady → LacksFolder files there folder) files there steady (of_classes (source_of c.args.source.now) (map_image Points)) (g.O.Sink.state c.args.out.now) err _
    (λ line k. (refl, k, refl)) (λ k s. missing files there folder (of_classes (source_of c.args.source.now) (map_image Points)) (λ told none. inl none) (k s)) c.in_err-program.ensures.loads tt)

pub returns-in_err-program-clause-counts : goal.returns-in_err-program-clause-counts
returns-in_err-program-clause-counts g c = λ err.
    let p = err_from_is_err_and c.from_residual.result c.from_residual.ensures.1 in
    rw (p.1, p.2) (unread_counts BuiltProgram _ _ _ (g.O.Sink.state c.args.out.now) err c.in_err-program.ensures.counts)

pub returns-clause-does : goal.returns-clause-does
returns-clause-does g c = λ err.
    let out = g.O.Sink.state c.args.out.now in
    let out' = g.O.Sink.state c.show_map.new.out in
    let program = c.in_ok-program.program in
    let core = program.core in
    let image = program.image in
    let r = c.show_map.result in
    let P : List (List ℕ) → Type 0 = λ ns. Puts out out' (map_text ns image.map) r in
    let named = ap (map (λ n. n.now)) c.deref-2.ensures.value ∙ c.in_ok-names.ensures ∙ ap (map (λ s. s.name)) c.deref.ensures.value in
    rw (c.finished.ensures) (done_by (g.F.Shelf.state c.args.shelf.now).files (g.F.Shelf.state c.args.shelf.now).there (g.F.Shelf.state c.args.shelf.now).unfailing (of_classes (source_of c.args.source.now) (map_image Points)) (map_text (names_of core) image.map) out out' err r
    ((core, image, c.in_ok-program.ensures.loads, (covered core image c.in_ok-program.ensures.loads.1, rising core image c.in_ok-program.ensures.loads.1), refl), refl) (subst P named c.show_map.ensures.put) tt)

pub returns-clause-counts : goal.returns-clause-counts
returns-clause-counts g c = λ err.
    rw (c.finished.ensures) (done_counts _ _ (g.O.Sink.state c.args.out.now) (g.O.Sink.state c.show_map.new.out) err c.show_map.result c.in_ok-program.ensures.counts c.show_map.ensures.put.counts)

pub returns-in_err-names-clause-does : goal.returns-in_err-names-clause-does
returns-in_err-names-clause-does g c = λ err.
    let p = err_from_is_err_and c.from_residual-in_err-names.result c.from_residual-in_err-names.ensures.1 in
    rw (p.1, p.2) ([], [], (refl, refl), Got-nothing _, Got-nothing _)
