use Rattle.grammar.proofs.Shown.{each_start, each_next, each_done}
use Rattle.jack_parser.proofs.printing.put_all_variables.Goals as goal

pub loop-one-init : goal.loop-one-init
loop-one-init g c = each_start c.args.all.now

pub loop-one-preserved : goal.loop-one-preserved
loop-one-preserved g c = each_next c.args.all.now c.loop-one.one-index c.one-item.result c.loop-one-test.true c.one-item.is c.loop-one.invariant c.put_variables-status.ensures

pub returns : goal.returns
returns g c = each_done c.args.all.now c.loop-one-test.false c.loop-one.invariant
