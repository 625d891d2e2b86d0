use Rattle.grammar.proofs.Shown.{each_start, each_next, each_done}
use Rattle.jack_parser.proofs.printing.put_more_names.Goals as goal

pub loop-one-init : goal.loop-one-init
loop-one-init g c = λ x. each_start c.args.names.now

pub loop-one-preserved : goal.loop-one-preserved
loop-one-preserved g c = λ x. each_next c.args.names.now c.loop-one.one-index c.one-item.result c.loop-one-test.true c.one-item.is (c.loop-one.invariant x) (c.put_next_name-status.ensures x)

pub returns : goal.returns
returns g c = λ x. each_done c.args.names.now c.loop-one-test.false (c.loop-one.invariant x)
