use Rattle.std.proofs.Common.{◌≡◌, take, Ok}
use Rattle.outer_world.specs.Held.{pending}
use Rattle.tst_runner.specs.Acts.{times}
use Rattle.tst_runner.specs.Inner.States.{CountsStop}
use Rattle.tst_runner.proofs.Threading.{Ran, acts_in}
use Rattle.tst_runner.proofs.commands.+running.Given as goal

abbrev pub invariant-run_command-loop : goal.invariant-run_command-loop
invariant-run_command-loop g l = record {
  ran : Ran l.script.path.now l.script.memories (g.F.Shelf.state l.fn.shelf).files (g.F.Shelf.state l.shelf).files (g.F.Shelf.state l.fn.shelf).there (g.F.Shelf.state l.shelf).there (g.F.Shelf.state l.fn.shelf).unfailing (g.F.Shelf.state l.shelf).unfailing
      (g.O.Sink.state l.fn.out.sink.now).written (g.O.Sink.state l.out.sink.now).written (pending l.fn.out) (pending l.out) (g.E.Sink.state l.fn.err).written (g.E.Sink.state l.err).written
      (times l.counter (acts_in l.body.items)) l.fn.state l.state (Ok tt);
  counts : CountsStop (g.F.Shelf.faults l.fn.shelf) (g.F.Shelf.faults l.shelf) (g.O.Sink.state l.fn.out.sink.now).faults (g.O.Sink.state l.out.sink.now).faults (g.E.Sink.state l.fn.err).faults (g.E.Sink.state l.err).faults (Ok tt);
  same_sink : l.out.sink.ghost_name ≡ l.fn.out.sink.ghost_name;
}

abbrev pub invariant-run_commands-loop-command : goal.invariant-run_commands-loop-command
invariant-run_commands-loop-command g l = record {
  ran : Ran l.script.path.now l.script.memories (g.F.Shelf.state l.fn.shelf).files (g.F.Shelf.state l.shelf).files (g.F.Shelf.state l.fn.shelf).there (g.F.Shelf.state l.shelf).there (g.F.Shelf.state l.fn.shelf).unfailing (g.F.Shelf.state l.shelf).unfailing
      (g.O.Sink.state l.fn.out.sink.now).written (g.O.Sink.state l.out.sink.now).written (pending l.fn.out) (pending l.out) (g.E.Sink.state l.fn.err).written (g.E.Sink.state l.err).written
      (acts_in (take l.command-index l.commands)) l.fn.state l.state (Ok tt);
  counts : CountsStop (g.F.Shelf.faults l.fn.shelf) (g.F.Shelf.faults l.shelf) (g.O.Sink.state l.fn.out.sink.now).faults (g.O.Sink.state l.out.sink.now).faults (g.E.Sink.state l.fn.err).faults (g.E.Sink.state l.err).faults (Ok tt);
  same_sink : l.out.sink.ghost_name ≡ l.fn.out.sink.ghost_name;
}
