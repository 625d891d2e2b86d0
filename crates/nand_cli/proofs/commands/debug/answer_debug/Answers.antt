use Rattle.std.proofs.Common.{option_map}
use Rattle.std.proofs.lemmas.Result.{err_from_is_err_and}
use Rattle.command_line.specs.Line.{source_of}
use Rattle.nand_cli.specs.Inner.Debugging.{TellsDriven}
use Rattle.nand_cli.specs.declared.commands.debug.PreparedDebug.{PreparedDebug}
use Rattle.nand_cli.proofs.Debugging.{answered, undone}
use Rattle.nand_cli.proofs.Doing.{unread_counts}
use Rattle.nand_cli.proofs.Reporting.{report_counts}
use Rattle.nand_cli.proofs.commands.debug.answer_debug.Goals as goal

pub show-requires : goal.show-requires
show-requires g c =
    let is = c.in_ok-prepared.ensures.loads in
    record { words = is.words; moves = is.moves; stands = is.stands }

pub returns-in_err-prepared-clause-does : goal.returns-in_err-prepared-clause-does
returns-in_err-prepared-clause-does g c = λ err.
    let request = c.args.request.now in
    let p = err_from_is_err_and c.from_residual.result c.from_residual.ensures.1 in
    rw (p.1, p.2) (undone _ (g.F.Shelf.state c.args.shelf.now).there (g.F.Shelf.state c.args.shelf.now).unfailing (source_of c.args.source.now) request.sub.now request.number request.cycles (option_map (λ keys. keys.now) request.keys) (g.O.Sink.state c.args.out.now) err _ c.in_err-prepared.ensures.loads)

pub returns-in_err-prepared-clause-counts : goal.returns-in_err-prepared-clause-counts
returns-in_err-prepared-clause-counts g c = λ err.
    let p = err_from_is_err_and c.from_residual.result c.from_residual.ensures.1 in
    rw (p.1, p.2) (unread_counts PreparedDebug _ _ _ (g.O.Sink.state c.args.out.now) err c.in_err-prepared.ensures.counts)

pub returns-clause-does : goal.returns-clause-does
returns-clause-does g c = λ err.
    let request = c.args.request.now in
    answered _ (g.F.Shelf.state c.args.shelf.now).there (g.F.Shelf.state c.args.shelf.now).unfailing (source_of c.args.source.now) request.sub.now request.number request.cycles (option_map (λ keys. keys.now) request.keys)
    c.in_ok-prepared.prepared (g.O.Sink.state c.args.out.now) (g.O.Sink.state c.show.new.out) err c.show.result c.in_ok-prepared.ensures.loads c.show.ensures.reports

pub returns-clause-counts : goal.returns-clause-counts
returns-clause-counts g c = λ err.
    let request = c.args.request.now in
    report_counts (TellsDriven c.in_ok-prepared.prepared request.sub.now request.number request.cycles) _ _ (g.O.Sink.state c.args.out.now) (g.O.Sink.state c.show.new.out) err c.show.result c.in_ok-prepared.ensures.counts c.show.ensures.reports c.show.ensures.counts
