use Rattle.std.proofs.Common.{◌≡◌, ℕ, ◌+◌, ◌-◌, ◌++◌, take, drop, Ok, Err, Result, refl, sym, ap, ◌∙◌, subst, arith}
use Rattle.std.proofs.lemmas.List.{take_all}
use Rattle.std.proofs.lemmas.Result.{err_from_is_err_and}
use Rattle.script_parser.specs.declared.tree.Command as commands
use Rattle.tst_runner.specs.declared.standing.Stop.{Stop}
use Rattle.outer_world.specs.Held.{pending}
use Rattle.tst_runner.specs.Acts.{times}
use Rattle.tst_runner.specs.Setting.{setting_of}
use Rattle.tst_runner.specs.Inner.States.{CountsStop, PerformsAll}
use Rattle.tst_runner.proofs.Threading.{acts_at, acts_by, acts_in, acts_next, acts_repeated, act_all, counts_then, ran_as, ran_cut, ran_nothing, ran_of, ran_then, ran_told, times_at, times_next}
use Rattle.tst_runner.proofs.commands.+running.Goals as goal

pub run_command-loop-init : goal.run_command-loop-init
run_command-loop-init g t c = record { ran = ran_nothing; counts = (refl, refl, refl); same_sink = refl }

pub run_command-loop-preserved : goal.run_command-loop-preserved
run_command-loop-preserved g t c =
    let body = acts_in c.in-Repeat.body.items in
    let done = c.in_ok-run_commands-in-Repeat.ensures in
    let now = c.run_commands.new in
    record {
      ran = ran_as (times c.loop.counter body ++ body) (times (c.loop.counter + 1) body) (times_next c.loop.counter body)
          (ran_then (times c.loop.counter body) body c.loop.invariant.ran
          (ran_as (acts_in c.deref.result.now) body (ap acts_in c.deref.ensures.value)
          (ran_of (g.F.Shelf.state now.shelf).files (g.F.Shelf.state now.shelf).there (g.F.Shelf.state now.shelf).unfailing (g.O.Sink.state now.out.sink.now).written (pending now.out) (g.E.Sink.state now.err).written (acts_in c.deref.result.now) now.state (Ok tt) done.does done.keeps)));
      counts = counts_then _ _ _ _ _ _ _ _ _ (Ok tt) c.loop.invariant.counts done.counts;
      same_sink = done.same_sink ∙ c.loop.invariant.same_sink;
    }

pub run_command-returns-in_err-run_commands-in-Repeat : goal.run_command-returns-in_err-run_commands-in-Repeat
run_command-returns-in_err-run_commands-in-Repeat g t c =
    let body = acts_in c.in-Repeat.body.items in
    let n = c.in-Repeat.count in
    let i = c.loop.counter in
    let done = c.in_err-run_commands-in-Repeat.ensures in
    let now = c.run_commands.new in
    let stop = c.in_err-run_commands-in-Repeat.field-0.0 in
    let q = err_from_is_err_and c.from_residual.result c.from_residual.ensures.1 in
    let is : c.from_residual.result ≡ Err stop = q.1 ∙ ap (λ (x : Stop). Err x) q.2 in
    let all : (times i body ++ body) ++ times (n - (i + 1)) body ≡ acts_by c.args.command.now = times_at i n body c.loop-test.true ∙ acts_repeated n c.in-Repeat.body ∙ ap acts_by (sym c.in-Repeat.is) in
    let ran = ran_told (Err stop) c.from_residual.result is
    (ran_as ((times i body ++ body) ++ times (n - (i + 1)) body) (acts_by c.args.command.now) all
    (ran_cut (times (n - (i + 1)) body)
    (ran_then (times i body) body c.loop.invariant.ran
    (ran_as (acts_in c.deref.result.now) body (ap acts_in c.deref.ensures.value)
    (ran_of (g.F.Shelf.state now.shelf).files (g.F.Shelf.state now.shelf).there (g.F.Shelf.state now.shelf).unfailing (g.O.Sink.state now.out.sink.now).written (pending now.out) (g.E.Sink.state now.err).written (acts_in c.deref.result.now) now.state (Err stop) done.does done.keeps))))) in
    record {
      does = ran.does;
      counts = subst (λ (r : Result (Unit {0}) Stop). CountsStop (g.F.Shelf.faults c.args.shelf.now) (g.F.Shelf.faults now.shelf) (g.O.Sink.state c.args.out.now.sink.now).faults (g.O.Sink.state now.out.sink.now).faults (g.E.Sink.state c.args.err.now).faults (g.E.Sink.state now.err).faults r) (sym is) (counts_then _ _ _ _ _ _ _ _ _ (Err stop) c.loop.invariant.counts done.counts);
      same_sink = done.same_sink ∙ c.loop.invariant.same_sink;
      keeps = ran.keeps;
    }

pub run_command-returns-in-Act-clause-does : goal.run_command-returns-in-Act-clause-does
run_command-returns-in-Act-clause-does g t c = λ w e s at stands.
    let setting = setting_of c.args.script.path.now (g.F.Shelf.state c.args.shelf.now).files c.args.script.memories in
    let there = (g.F.Shelf.state c.args.shelf.now).there in
    let unfailing = (g.F.Shelf.state c.args.shelf.now).unfailing in
    let now = c.perform.new in
    subst (λ (x : commands.Command). PerformsAll setting there unfailing w (g.O.Sink.state now.out.sink.now).written e (g.E.Sink.state now.err).written (pending now.out) s (acts_by x) now.state c.perform.result) (sym c.in-Act.is)
    (act_all setting there unfailing w (g.O.Sink.state now.out.sink.now).written e (g.E.Sink.state now.err).written (pending now.out) s _ now.state c.perform.result (c.perform.ensures.does w e s at stands))

pub run_command-returns-after-loop : goal.run_command-returns-after-loop
run_command-returns-after-loop g t c =
    let body = acts_in c.in-Repeat.body.items in
    let n = c.in-Repeat.count in
    let over : c.loop.counter ≡ n = omega (arith, c.loop-test.false, c.loop.auto.counter-end) in
    let ran = ran_as (times c.loop.counter body) (acts_by c.args.command.now) (ap (λ (k : ℕ). times k body) over ∙ acts_repeated n c.in-Repeat.body ∙ ap acts_by (sym c.in-Repeat.is)) c.loop.invariant.ran in
    record { does = ran.does; counts = c.loop.invariant.counts; same_sink = c.loop.invariant.same_sink; keeps = ran.keeps }

pub run_commands-loop-command-init : goal.run_commands-loop-command-init
run_commands-loop-command-init g t c = record { ran = ran_nothing; counts = (refl, refl, refl); same_sink = refl }

pub run_commands-loop-command-preserved : goal.run_commands-loop-command-preserved
run_commands-loop-command-preserved g t c =
    let all = c.args.commands.now in
    let i = c.loop-command.command-index in
    let one = c.command-item.result in
    let done = c.in_ok-run_command.ensures in
    let now = c.run_command.new in
    record {
      ran = ran_as (acts_in (take i all) ++ acts_by one) (acts_in (take (i + 1) all)) (acts_next all i one c.loop-command-test.true c.command-item.is)
          (ran_then (acts_in (take i all)) (acts_by one) c.loop-command.invariant.ran
          (ran_of (g.F.Shelf.state now.shelf).files (g.F.Shelf.state now.shelf).there (g.F.Shelf.state now.shelf).unfailing (g.O.Sink.state now.out.sink.now).written (pending now.out) (g.E.Sink.state now.err).written (acts_by one) now.state (Ok tt) done.does done.keeps));
      counts = counts_then _ _ _ _ _ _ _ _ _ (Ok tt) c.loop-command.invariant.counts done.counts;
      same_sink = done.same_sink ∙ c.loop-command.invariant.same_sink;
    }

pub run_commands-returns-in_err-run_command : goal.run_commands-returns-in_err-run_command
run_commands-returns-in_err-run_command g t c =
    let all = c.args.commands.now in
    let i = c.loop-command.command-index in
    let one = c.command-item.result in
    let done = c.in_err-run_command.ensures in
    let now = c.run_command.new in
    let stop = c.in_err-run_command.field-0.0 in
    let q = err_from_is_err_and c.from_residual.result c.from_residual.ensures.1 in
    let is : c.from_residual.result ≡ Err stop = q.1 ∙ ap (λ (x : Stop). Err x) q.2 in
    let ran = ran_told (Err stop) c.from_residual.result is
    (ran_as ((acts_in (take i all) ++ acts_by one) ++ acts_in (drop (i + 1) all)) (acts_in all) (acts_at all i one c.loop-command-test.true c.command-item.is)
    (ran_cut (acts_in (drop (i + 1) all))
    (ran_then (acts_in (take i all)) (acts_by one) c.loop-command.invariant.ran
    (ran_of (g.F.Shelf.state now.shelf).files (g.F.Shelf.state now.shelf).there (g.F.Shelf.state now.shelf).unfailing (g.O.Sink.state now.out.sink.now).written (pending now.out) (g.E.Sink.state now.err).written (acts_by one) now.state (Err stop) done.does done.keeps)))) in
    record {
      does = ran.does;
      counts = subst (λ (r : Result (Unit {0}) Stop). CountsStop (g.F.Shelf.faults c.args.shelf.now) (g.F.Shelf.faults now.shelf) (g.O.Sink.state c.args.out.now.sink.now).faults (g.O.Sink.state now.out.sink.now).faults (g.E.Sink.state c.args.err.now).faults (g.E.Sink.state now.err).faults r) (sym is) (counts_then _ _ _ _ _ _ _ _ _ (Err stop) c.loop-command.invariant.counts done.counts);
      same_sink = done.same_sink ∙ c.loop-command.invariant.same_sink;
      keeps = ran.keeps;
    }

pub run_commands-returns : goal.run_commands-returns
run_commands-returns g t c =
    let all = c.args.commands.now in
    let ran = ran_as (acts_in (take c.loop-command.command-index all)) (acts_in all) (ap acts_in (take_all c.loop-command.command-index all c.loop-command-test.false)) c.loop-command.invariant.ran in
    record { does = ran.does; counts = c.loop-command.invariant.counts; same_sink = c.loop-command.invariant.same_sink; keeps = ran.keeps }
