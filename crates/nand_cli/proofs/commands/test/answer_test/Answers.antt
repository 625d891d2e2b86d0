use Rattle.nand_cli.proofs.Testing.{counts, does}
use Rattle.nand_cli.proofs.commands.test.answer_test.Goals as goal

pub returns-clause-does : goal.returns-clause-does
returns-clause-does g c = rw c.ended.ensures (does _ _ _ c.args.path.now c.args.gates c.args.simplify (g.O.Sink.state c.args.out.now) (g.O.Sink.state c.run_script.new.out) (g.E.Sink.state c.args.err.now) (g.E.Sink.state c.run_script.new.err) c.run_script.result c.memories_of.result c.memories_of.ensures c.run_script.ensures.runs)

pub returns-clause-counts : goal.returns-clause-counts
returns-clause-counts g c = rw c.ended.ensures (counts _ _ (g.O.Sink.state c.args.out.now) (g.O.Sink.state c.run_script.new.out) (g.E.Sink.state c.args.err.now) (g.E.Sink.state c.run_script.new.err) c.run_script.result c.run_script.ensures.counts)
