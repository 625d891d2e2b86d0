use Rattle.std.proofs.Common.{refl}
use Rattle.std.proofs.lemmas.Result.{err_from_is_err_and}
use Rattle.command_line.specs.Line.{soak}
use Rattle.nand_cli.specs.Commands.Soak.{AreOutcomes, SoakRefuses, summary_text}
use Rattle.nand_cli.specs.declared.commands.soak.Summary.{Summary}
use Rattle.nand_cli.proofs.Doing.{done_by, nothing_put}
use Rattle.nand_cli.proofs.commands.soak.answer_soak.Goals as goal

pub returns-in_err-told-clause-does : goal.returns-in_err-told-clause-does
returns-in_err-told-clause-does g c = λ err.
    let p = err_from_is_err_and c.from_residual.result c.from_residual.ensures.1 in
    let seed = c.args.seed in
    let count = c.args.count in
    rw (p.1, p.2) (nothing_put (λ (told : Summary). AreOutcomes seed count told.agree told.steps told.sum) (SoakRefuses seed count) ⊥ (g.F.Shelf.state c.args._shelf.now).files (g.F.Shelf.state c.args._shelf.now).there
    (g.F.Shelf.state c.args._shelf.now).unfailing (soak seed count) (g.O.Sink.state c.args.out.now) err _ (λ line k. (refl, k, refl)) (λ k. absurd k) c.in_err-told.ensures tt)

pub returns-clause-does : goal.returns-clause-does
returns-clause-does g c = λ err.
    let seed = c.args.seed in
    let count = c.args.count in
    let told = c.in_ok-told.told in
    rw (c.finished.ensures) (done_by (g.F.Shelf.state c.args._shelf.now).files (g.F.Shelf.state c.args._shelf.now).there (g.F.Shelf.state c.args._shelf.now).unfailing (soak seed count)
    (summary_text seed count told.agree told.steps told.sum) (g.O.Sink.state c.args.out.now) (g.O.Sink.state c.show_summary.new.out) err c.show_summary.result
    (record { agree = told.agree; all = told.steps; sum = told.sum; outcomes = c.in_ok-told.ensures; is_text = refl }, refl) c.show_summary.ensures.put tt)
