use Rattle.std.proofs.Common.{ℕ, true, false, subst}
use Rattle.jack_debug.specs.Walk.{Walk}
use Rattle.gate_computer.specs.Followed.{word_in}
use Rattle.outer_world.specs.Written.{Puts}
use Rattle.nand_cli.specs.Commands.Debug.{none_text}
use Rattle.nand_cli.proofs.Debugging.{shown_none, shown_found}
use Rattle.nand_cli.proofs.Reporting.{counts_by}
use Rattle.nand_cli.proofs.commands.debug.show_stop.Goals as goal

pub returns-then-not-found-clause-reports : goal.returns-then-not-found-clause-reports
returns-then-not-found-clause-reports g c =
    let at = c.args.at.now in
    let computer = c.args.computer.now in
    let P : ℕ → ℕ → Type 0 = λ m s. Puts (g.O.Sink.state c.args.out.now) (g.O.Sink.state c.print_none.new.out) (none_text m s) c.print_none.result in
    let put : P computer.moves computer.tally.steps = subst (λ s. P computer.moves s) c.steps.ensures (subst (λ m. P m c.steps.result) c.moves.ensures c.print_none.ensures.put) in
    rw (c.finished.ensures) (shown_none at.places.now at.sub.now at.number computer (g.O.Sink.state c.args.out.now) (g.O.Sink.state c.print_none.new.out) c.print_none.result c.args.found c.if-not-found.true put)

pub returns-then-not-found-clause-counts : goal.returns-then-not-found-clause-counts
returns-then-not-found-clause-counts g c = rw (c.finished.ensures) (counts_by (g.O.Sink.state c.args.out.now) (g.O.Sink.state c.print_none.new.out) c.print_none.result c.print_none.ensures.put.counts)

pub returns-clause-reports : goal.returns-clause-reports
returns-clause-reports g c =
    let at = c.args.at.now in
    let computer = c.args.computer.now in
    let view = c.in_ok-view.view in
    let walk : Walk at.places.now (word_in computer) computer.tally.at view = subst (λ a. Walk at.places.now (word_in computer) a view) c.pc.ensures c.in_ok-view.ensures in
    rw (c.finished-2.ensures) (shown_found at.places.now at.sub.now at.number computer (g.O.Sink.state c.args.out.now) (g.O.Sink.state c.print_found.new.out) c.print_found.result c.args.found view c.if-not-found.false walk c.print_found.ensures.put)

pub returns-clause-counts : goal.returns-clause-counts
returns-clause-counts g c = rw (c.finished-2.ensures) (counts_by (g.O.Sink.state c.args.out.now) (g.O.Sink.state c.print_found.new.out) c.print_found.result c.print_found.ensures.put.counts)
