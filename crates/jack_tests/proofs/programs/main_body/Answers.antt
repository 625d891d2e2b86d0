use Rattle.jack_tests.proofs.Calls.{pushed_four, turned_four}
use Rattle.jack_tests.proofs.programs.main_body.Goals as goal

pub loop-number-preserved : goal.loop-number-preserved
loop-number-preserved c =
    turned_four c.loop-number.all.items c.push.new.self.items _ c.in_ok-expression.field-0 c.in_ok-statements.field-0 c.in-Ok.ensures.items c.loop-number.invariant c.in_ok-expression.ensures c.in_ok-statements.ensures

pub returns : goal.returns
returns c = pushed_four c.loop-number.all.items c.push-2.new.self.items c.in_ok-last.last c.in-Ok-push.ensures.items c.loop-number.invariant c.in_ok-last.ensures
