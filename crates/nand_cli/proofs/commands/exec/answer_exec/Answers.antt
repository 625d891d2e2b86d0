use Rattle.std.proofs.Common.{◌≤◌, List, ℕ, Vec, Global, Err, length, refl, ap, subst, sym, true, rules}
use Rattle.std.proofs.lemmas.Result.{err_from_is_err_and}
use Rattle.hack_isa.specs.Machine.{Machine, read}
use Rattle.hack_machine.specs.Loaded.{machine_of}
use Rattle.machine_io.specs.Words.{words_text}
use Rattle.outer_world.specs.Files.{LacksFile}
use Rattle.source_files.specs.Loads.{Loads}
use Rattle.source_files.specs.Sources.{IsFaulty, SpellsAt}
use Rattle.command_line.specs.Line.{exec, of_file}
use Rattle.nand_cli.specs.Commands.Exec.{form_of}
use Rattle.hack_asm.specs.Language.{SpellsWords, TellsAsmFault}
use Rattle.hack_asm.specs.declared.language.Form.{Form}
use Rattle.hack_asm.proofs.Refusals.{refused_in}
use Rattle.hack_asm.proofs.Sizes.{few_words}
use Rattle.nand_cli.proofs.Doing.{done_by, done_counts, nothing_put, unread_counts}
use Rattle.nand_cli.proofs.Driving.{without_keys}
use Rattle.nand_cli.proofs.commands.exec.answer_exec.Goals as goal

pub returns-in_err-program-clause-does : goal.returns-in_err-program-clause-does
returns-in_err-program-clause-does g c = λ err.
    let p = err_from_is_err_and c.from_residual.result c.from_residual.ensures.1 in
    let request = c.args.request.now in
    let files = (g.F.Shelf.state c.args.shelf.now).files in
    let path = c.args.path.now in
    let Q : Form → Type 0 = λ f. Loads (SpellsAt (λ text (words : Vec ℕ Global). SpellsWords f text words.items) files path) (IsFaulty (TellsAsmFault f) files path) ((g.F.Shelf.state c.args.shelf.now).unfailing → LacksFile files path) (Err c.in_err-program.field-0.0) in
    rw (p.1, p.2) (nothing_put (SpellsAt (λ text (words : Vec ℕ Global). SpellsWords (form_of path) text words.items) files path) (IsFaulty (TellsAsmFault (form_of path)) files path) ((g.F.Shelf.state c.args.shelf.now).unfailing → LacksFile files path)
    files (g.F.Shelf.state c.args.shelf.now).there (g.F.Shelf.state c.args.shelf.now).unfailing (of_file path (exec request.cycles request.from request.to)) (g.O.Sink.state c.args.out.now) err _ (λ line k. (refl, refused_in (form_of path) files path line k, refl)) (λ h. h) (subst Q c.form_of.ensures c.in_err-program.ensures.loads) tt)

pub returns-in_err-program-clause-counts : goal.returns-in_err-program-clause-counts
returns-in_err-program-clause-counts g c = λ err.
    let p = err_from_is_err_and c.from_residual.result c.from_residual.ensures.1 in
    rw (p.1, p.2) (unread_counts (Vec ℕ Global) _ _ _ (g.O.Sink.state c.args.out.now) err c.in_err-program.ensures.counts)

pub machine_after-requires : goal.machine_after-requires
machine_after-requires g c =
    subst (λ (ws : List ℕ). length ws ≤ 32768) (sym c.deref.ensures.value) (few_words _ c.in_ok-program.ensures.loads.0 c.in_ok-program.program.items c.in_ok-program.ensures.loads.2)

pub returns-clause-does : goal.returns-clause-does
returns-clause-does g c = λ err.
    let request = c.args.request.now in
    let path = c.args.path.now in
    let files = (g.F.Shelf.state c.args.shelf.now).files in
    let words = c.in_ok-program.program.items in
    let loaded = subst (λ (form : Form). SpellsAt (SpellsWords form) files path words) c.form_of.ensures c.in_ok-program.ensures.loads in
    let ran = without_keys _ _ _ request.cycles (machine_of c.in_ok-hack.hack) c.in_ok-hack.ensures c.deref.ensures.value c.none-keys.ensures in
    let text = words_text (read (machine_of c.in_ok-hack.hack).memory 0) true request.from request.to in
    rw (c.finished.ensures) (done_by files (g.F.Shelf.state c.args.shelf.now).there (g.F.Shelf.state c.args.shelf.now).unfailing (of_file path (exec request.cycles request.from request.to)) text (g.O.Sink.state c.args.out.now) (g.O.Sink.state c.show_words.new.out) err c.show_words.result
    ((words, loaded, ap (λ (m : Machine). words_text (read m.memory 0) true request.from request.to) ran), refl)
    (c.show_words.ensures.put (read (machine_of c.in_ok-hack.hack).memory 0) (λ a w from_on up_to p. search rules)) tt)

pub returns-clause-counts : goal.returns-clause-counts
returns-clause-counts g c = λ err.
    rw (c.finished.ensures) (done_counts _ _ (g.O.Sink.state c.args.out.now) (g.O.Sink.state c.show_words.new.out) err c.show_words.result c.in_ok-program.ensures.counts c.show_words.ensures.counts)
