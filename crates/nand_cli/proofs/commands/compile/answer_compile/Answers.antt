use Rattle.std.proofs.Common.{◌≡◌, ◌≤◌, ◌∙◌, ℕ, List, Vec, Global, ap, codes, length, map, take, refl, sym, subst, inl}
use Rattle.std.proofs.lemmas.Result.{err_from_is_err_and}
use Rattle.outer_world.specs.Files.{LacksFolder}
use Rattle.source_files.specs.Sources.{IsUnread}
use Rattle.vm_tree.specs.Printed.{files_text}
use Rattle.vm_tree.specs.declared.program.File.{File}
use Rattle.jack_tree.specs.declared.tree.Class.{Class}
use Rattle.jack_tree.specs.Seen.{the_file}
use Rattle.jack_os.specs.System.{SpellsClass}
use Rattle.tower.specs.Compiled.{AreCompiled}
use Rattle.tower.specs.Spelled.{AreSpelled}
use Rattle.command_line.specs.Line.{compile, of_classes, source_of}
use Rattle.nand_cli.specs.Commands.Compile.{CompilePrints}
use Rattle.nand_cli.specs.JackFolder.{IsMeaningless, meaningless, unread}
use Rattle.jack_parser.specs.Language.{RefusesClass}
use Rattle.nand_cli.proofs.Doing.{done_by, missing, nothing_put, unmade_counts, unread_counts}
use Rattle.nand_cli.proofs.Compiling.{compiled_prints}
use Rattle.nand_cli.proofs.Spelling.{HasTrees, few_classes, seen_classes, seen_unread, spelled_classes}
use Rattle.nand_cli.proofs.commands.compile.answer_compile.Goals as goal

pub returns-in_err-classes-clause-does : goal.returns-in_err-classes-clause-does
returns-in_err-classes-clause-does g c = λ err.
    let p = err_from_is_err_and c.from_residual.result c.from_residual.ensures.1 in
    let files = (g.F.Shelf.state c.args.shelf.now).files in
    let folder = c.args.source.now.folder.now in
    let there = (g.F.Shelf.state c.args.shelf.now).there in
    let steady = (g.F.Shelf.state c.args.shelf.now).unfailing in
    rw (p.1, p.2) (nothing_put (λ (classes : Vec Class Global). HasTrees files folder classes.items) (IsUnread SpellsClass RefusesClass (codes ".jack") files folder) (steady → LacksFolder files there folder) files there steady (of_classes (source_of c.args.source.now) compile) (g.O.Sink.state c.args.out.now) err _
    (λ line k. (refl, unread (seen_unread files folder line k), refl)) (λ k s. missing files there folder (of_classes (source_of c.args.source.now) compile) (λ told none. inl none) (k s)) c.in_err-classes.ensures.loads tt)

pub returns-in_err-classes-clause-counts : goal.returns-in_err-classes-clause-counts
returns-in_err-classes-clause-counts g c = λ err.
    let p = err_from_is_err_and c.from_residual.result c.from_residual.ensures.1 in
    rw (p.1, p.2) (unread_counts (Vec Class Global) _ _ _ (g.O.Sink.state c.args.out.now) err c.in_err-classes.ensures.counts)

pub compiled-requires-clause-few : goal.compiled-requires-clause-few
compiled-requires-clause-few g c =
    subst (λ (classes : List Class). length classes ≤ 256) (sym c.deref.ensures.value) (few_classes _ _ c.in_ok-classes.classes.items c.in_ok-classes.ensures.loads)

pub compiled-requires-clause-spelled : goal.compiled-requires-clause-spelled
compiled-requires-clause-spelled g c = subst AreSpelled (sym c.deref.ensures.value) (spelled_classes _ _ c.in_ok-classes.classes.items (seen_classes _ _ c.in_ok-classes.classes.items c.in_ok-classes.ensures.loads))

pub returns-in_err-files-clause-does : goal.returns-in_err-files-clause-does
returns-in_err-files-clause-does g c = λ err.
    let p = err_from_is_err_and c.from_residual-in_err-files.result c.from_residual-in_err-files.ensures.1 in
    let files = (g.F.Shelf.state c.args.shelf.now).files in
    let folder = c.args.source.now.folder.now in
    let P : List Class → Type 0 = λ classes. HasTrees files folder classes in
    let classes = c.deref.result.now in
    rw (p.1, p.2) (nothing_put (λ (compiled : List File). AreCompiled c.args.source.now.replace classes compiled) (IsMeaningless (source_of c.args.source.now) (map the_file classes)) ⊥ files (g.F.Shelf.state c.args.shelf.now).there (g.F.Shelf.state c.args.shelf.now).unfailing (of_classes (source_of c.args.source.now) compile) (g.O.Sink.state c.args.out.now) err _
    (λ line k. (refl, meaningless (map the_file classes) (seen_classes files folder classes (subst P (sym c.deref.ensures.value) c.in_ok-classes.ensures.loads)) k, refl)) (λ h. absurd h) c.in_err-files.ensures.makes tt)

pub returns-in_err-files-clause-counts : goal.returns-in_err-files-clause-counts
returns-in_err-files-clause-counts g c = λ err.
    let p = err_from_is_err_and c.from_residual-in_err-files.result c.from_residual-in_err-files.ensures.1 in
    let classes = c.deref.result.now in
    rw (p.1, p.2) (unmade_counts (λ (compiled : List File). AreCompiled c.args.source.now.replace classes compiled) (IsMeaningless (source_of c.args.source.now) (map the_file classes)) _ _ _ (g.O.Sink.state c.args.out.now) err c.in_err-files.ensures.makes c.in_ok-classes.ensures.counts)

pub returns-clause-does : goal.returns-clause-does
returns-clause-does g c = λ err.
    let files = (g.F.Shelf.state c.args.shelf.now).files in
    let folder = c.args.source.now.folder.now in
    let P : List Class → Type 0 = λ classes. HasTrees files folder classes in
    let classes = c.deref.result.now in
    let as_many : c.len.result ≡ length classes = c.len.ensures ∙ c.in_ok-classes.classes.ok.0 ∙ sym (ap length c.deref.ensures.value) in
    let text : files_text (take c.len.result c.as_slice.result.now) ≡ files_text (take (length classes) c.in_ok-files.files) =
    ap (λ (n : ℕ). files_text (take n c.as_slice.result.now)) as_many ∙ ap (λ (compiled : List File). files_text (take (length classes) compiled)) c.as_slice.ensures in
    rw (c.finished.ensures) (done_by files (g.F.Shelf.state c.args.shelf.now).there (g.F.Shelf.state c.args.shelf.now).unfailing (of_classes (source_of c.args.source.now) compile) (files_text (take c.len.result c.as_slice.result.now)) (g.O.Sink.state c.args.out.now) (g.O.Sink.state c.print_files.new.out) err c.print_files.result
    (subst (λ (t : List ℕ). CompilePrints files (source_of c.args.source.now) t) (sym text) (compiled_prints files (source_of c.args.source.now) classes c.in_ok-files.files (subst P (sym c.deref.ensures.value) c.in_ok-classes.ensures.loads) c.in_ok-files.ensures.makes), refl) c.print_files.ensures.put tt)
