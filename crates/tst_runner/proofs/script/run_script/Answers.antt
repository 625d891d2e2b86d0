use Rattle.std.proofs.Common.{◌≡◌, ℕ, Err, Result, sym, ap, ◌∙◌, subst}
use Rattle.std.proofs.lemmas.Result.{err_from_is_err_and}
use Rattle.tst_runner.specs.declared.script.Verdict.{Verdict}
use Rattle.tst_runner.specs.declared.script.ScriptError.{ScriptError}
use Rattle.tst_runner.specs.declared.script.ScriptError.TheVariants as errors
use Rattle.tst_runner.specs.Setting.{setting_of}
use Rattle.tst_runner.specs.Verdicts.{CountsScript, Runs}
use Rattle.tst_runner.proofs.Closing.{counts_unread, read_ends, unread_ends}
use Rattle.tst_runner.proofs.script.run_script.Goals as goal

pub returns-in_err-commands-clause-runs : goal.returns-in_err-commands-clause-runs
returns-in_err-commands-clause-runs g c =
    let q = err_from_is_err_and c.from_residual.result c.from_residual.ensures.1 in
    let is : c.from_residual.result ≡ Err (errors.Unloaded c.in_err-commands.field-0.0) = q.1 ∙ ap (λ (x : ScriptError). Err x) q.2 in
    subst (λ (r : Result Verdict ScriptError). Runs (setting_of c.args.path.now (g.F.Shelf.state c.args.shelf.now).files c.args.memories) (g.F.Shelf.state c.args.shelf.now).there (g.F.Shelf.state c.args.shelf.now).unfailing (g.O.Sink.state c.args.out.now) (g.O.Sink.state c.args.out.now) (g.E.Sink.state c.args.err.now) (g.E.Sink.state c.args.err.now) r) (sym is)
    (unread_ends c.args.path.now c.args.memories (g.F.Shelf.state c.args.shelf.now).files (g.F.Shelf.state c.args.shelf.now).there (g.F.Shelf.state c.args.shelf.now).unfailing (g.O.Sink.state c.args.out.now) (g.E.Sink.state c.args.err.now) c.in_err-commands.field-0.0 c.in_err-commands.ensures.loads)

pub returns-in_err-commands-clause-counts : goal.returns-in_err-commands-clause-counts
returns-in_err-commands-clause-counts g c =
    let q = err_from_is_err_and c.from_residual.result c.from_residual.ensures.1 in
    let is : c.from_residual.result ≡ Err (errors.Unloaded c.in_err-commands.field-0.0) = q.1 ∙ ap (λ (x : ScriptError). Err x) q.2 in
    subst (λ (r : Result Verdict ScriptError). CountsScript (g.F.Shelf.faults c.args.shelf.now) (g.F.Shelf.faults c.load.new.shelf) (g.O.Sink.state c.args.out.now) (g.O.Sink.state c.args.out.now) (g.E.Sink.state c.args.err.now) (g.E.Sink.state c.args.err.now) r) (sym is)
    (counts_unread _ _ (g.O.Sink.state c.args.out.now) (g.E.Sink.state c.args.err.now) c.in_err-commands.field-0.0 c.in_err-commands.ensures.counts)

pub returns-clause-runs : goal.returns-clause-runs
returns-clause-runs g c =
    let shelf = c.args.shelf.now in
    let then = c.load.new.shelf in
    let now = c.run_whole.new in
    let read = c.in_ok-commands.ensures in
    read_ends c.args.path.now c.args.memories (g.F.Shelf.state shelf).files (g.F.Shelf.state then).files (g.F.Shelf.state shelf).there (g.F.Shelf.state then).there (g.F.Shelf.state shelf).unfailing (g.F.Shelf.state then).unfailing
    (g.O.Sink.state c.args.out.now) (g.O.Sink.state now.out) (g.E.Sink.state c.args.err.now) (g.E.Sink.state now.err) c.in_ok-commands.commands.items c.deref.result.now c.run_whole.result
    read.keeps.files read.keeps.there read.keeps.unfailing c.deref.ensures.value read.loads c.run_whole.ensures.runs

pub returns-clause-counts : goal.returns-clause-counts
returns-clause-counts g c =
    let now = c.run_whole.new in
    subst (λ (x : ℕ). CountsScript x (g.F.Shelf.faults now.shelf) (g.O.Sink.state c.args.out.now) (g.O.Sink.state now.out) (g.E.Sink.state c.args.err.now) (g.E.Sink.state now.err) c.run_whole.result) c.in_ok-commands.ensures.counts c.run_whole.ensures.counts
