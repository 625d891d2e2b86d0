use Rattle.std.proofs.Common.{[], refl, subst, sym}
use Rattle.outer_world.proofs.Passing.{Got-nothing}
use Rattle.outer_world.specs.Held.{pending}
use Rattle.tst_runner.specs.Inner.Columns.{AreColumns}
use Rattle.tst_runner.specs.Standing.{at_first}
use Rattle.tst_runner.proofs.Threading.{acts_in, ran_of}
use Rattle.tst_runner.proofs.Closing.{counts_ends, run_ends}
use Rattle.tst_runner.proofs.script.run_into.Goals as goal

pub returns-clause-runs : goal.returns-clause-runs
returns-clause-runs g c = λ are.
    let now = c.run_commands-end.new in
    let done = c.run_commands-end.ensures in
    let acts = acts_in c.args.commands.now in
    let ran = ran_of {path = c.args.script.path.now} {files = (g.F.Shelf.state c.args.shelf.now).files} {there = (g.F.Shelf.state c.args.shelf.now).there} {u = (g.F.Shelf.state c.args.shelf.now).unfailing} {o = (g.O.Sink.state c.args.outlet.now.sink.now).written} {p = pending c.args.outlet.now} {e = (g.E.Sink.state c.args.err.now).written}
    (g.F.Shelf.state now.shelf).files (g.F.Shelf.state now.shelf).there (g.F.Shelf.state now.shelf).unfailing (g.O.Sink.state now.out.sink.now).written (pending now.out) (g.E.Sink.state now.err).written acts now.state c.run_commands-end.result done.does done.keeps in
    run_ends _ _ _ _ _ _ _ _ (g.O.Sink.state c.args.outlet.now.sink.now) (g.O.Sink.state now.out.sink.now) (g.O.Sink.state c.finish.new.outlet.sink.now) _ _ (g.E.Sink.state c.args.err.now) (g.E.Sink.state now.err) acts _ now.state c.run_commands-end.result c.is_some.result c.finish.result c.requires are ran (record { device = tt; loaded = tt; columns = subst (AreColumns at_first.device []) (sym c.new.ensures.items) tt; compared = tt; lines = refl }) c.is_some.ensures c.finish.ensures.finishes

pub returns-clause-counts : goal.returns-clause-counts
returns-clause-counts g c =
    let now = c.run_commands-end.new in
    counts_ends (g.F.Shelf.faults c.args.shelf.now) (g.F.Shelf.faults now.shelf) (g.O.Sink.state c.args.outlet.now.sink.now) (g.O.Sink.state now.out.sink.now)
    (g.O.Sink.state c.finish.new.outlet.sink.now) (g.E.Sink.state c.args.err.now) (g.E.Sink.state now.err) (pending now.out) c.is_some.result c.run_commands-end.result c.finish.result c.run_commands-end.ensures.counts c.finish.ensures.finishes

pub run_commands-end-requires : goal.run_commands-end-requires
run_commands-end-requires g c =
    ((g.O.Sink.state c.args.outlet.now.sink.now).written, (g.E.Sink.state c.args.err.now).written, (at_first, record { device = tt; loaded = tt; columns = subst (AreColumns at_first.device []) (sym c.new.ensures.items) tt; compared = tt; lines = refl }, record { on_out = record { went = Got-nothing _; rest = c.requires }; on_err = Got-nothing _ }))
