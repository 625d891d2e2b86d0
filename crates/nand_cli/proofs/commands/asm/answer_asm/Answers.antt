use Rattle.std.proofs.Common.{List, ℕ, Vec, Global, refl, subst}
use Rattle.std.proofs.lemmas.Result.{err_from_is_err_and}
use Rattle.outer_world.specs.Files.{LacksFile}
use Rattle.outer_world.specs.Written.{Puts}
use Rattle.hack_asm.specs.Image.{image_text}
use Rattle.source_files.specs.Sources.{IsFaulty, SpellsAt}
use Rattle.command_line.specs.Line.{asm, of_file}
use Rattle.hack_asm.specs.Language.{SpellsWords, TellsAsmFault}
use Rattle.hack_asm.specs.declared.language.Form.TheVariants.{Assembly}
use Rattle.hack_asm.proofs.Refusals.{refused_in}
use Rattle.nand_cli.proofs.Doing.{done_by, done_counts, nothing_put, unread_counts}
use Rattle.nand_cli.proofs.commands.asm.answer_asm.Goals as goal

pub returns-in_err-words-clause-does : goal.returns-in_err-words-clause-does
returns-in_err-words-clause-does g c = λ err.
    let p = err_from_is_err_and c.from_residual.result c.from_residual.ensures.1 in
    let files = (g.F.Shelf.state c.args.shelf.now).files in
    let path = c.args.path.now in
    rw (p.1, p.2) (nothing_put (SpellsAt (λ text (words : Vec ℕ Global). SpellsWords Assembly text words.items) files path) (IsFaulty (TellsAsmFault Assembly) files path) ((g.F.Shelf.state c.args.shelf.now).unfailing → LacksFile files path)
    files (g.F.Shelf.state c.args.shelf.now).there (g.F.Shelf.state c.args.shelf.now).unfailing (of_file path asm) (g.O.Sink.state c.args.out.now) err _ (λ line k. (refl, refused_in Assembly files path line k, refl)) (λ h. h) c.in_err-words.ensures.loads tt)

pub returns-in_err-words-clause-counts : goal.returns-in_err-words-clause-counts
returns-in_err-words-clause-counts g c = λ err.
    let p = err_from_is_err_and c.from_residual.result c.from_residual.ensures.1 in
    rw (p.1, p.2) (unread_counts (Vec ℕ Global) _ _ _ (g.O.Sink.state c.args.out.now) err c.in_err-words.ensures.counts)

pub returns-clause-does : goal.returns-clause-does
returns-clause-does g c = λ err.
    let out = g.O.Sink.state c.args.out.now in
    let out' = g.O.Sink.state c.write_hack.new.out in
    let P : List ℕ → Type 0 = λ words. Puts out out' (image_text words) c.write_hack.result in
    let words = c.in_ok-words.words.items in
    rw (c.finished.ensures) (done_by (g.F.Shelf.state c.args.shelf.now).files (g.F.Shelf.state c.args.shelf.now).there (g.F.Shelf.state c.args.shelf.now).unfailing (of_file c.args.path.now asm) (image_text words) out out' err c.write_hack.result
    ((words, c.in_ok-words.ensures.loads, refl), refl) (subst P c.deref.ensures.value c.write_hack.ensures.put) tt)

pub returns-clause-counts : goal.returns-clause-counts
returns-clause-counts g c = λ err.
    rw (c.finished.ensures) (done_counts _ _ (g.O.Sink.state c.args.out.now) (g.O.Sink.state c.write_hack.new.out) err c.write_hack.result c.in_ok-words.ensures.counts c.write_hack.ensures.put.counts)
