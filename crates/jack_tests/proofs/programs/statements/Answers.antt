use Rattle.jack_tests.proofs.Calls.{pushed_four}
use Rattle.jack_tests.proofs.programs.statements.Goals as goal

pub loop-row-preserved : goal.loop-row-preserved
loop-row-preserved c = pushed_four c.loop-row.all.items c.push.new.self.items c.in_ok-statement.statement c.in-Ok.ensures.items c.loop-row.invariant c.in_ok-statement.ensures
