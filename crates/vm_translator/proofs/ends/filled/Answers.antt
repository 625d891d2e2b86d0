use Rattle.vm_translator.proofs.EndLemmas.{filled_none, filled_next}
use Rattle.vm_translator.proofs.ends.filled.Goals as goal

pub loop-number-init : goal.loop-number-init
loop-number-init c = filled_none c.args.functions.now

pub loop-number-preserved : goal.loop-number-preserved
loop-number-preserved c =
    filled_next c.args.functions.now c.loop-number.number c.loop-number.filled c.filled_with-filled.result c.index-functions-number.result
    c.loop-number-test.true c.index-functions-number.is c.loop-number.invariant c.filled_with-filled.ensures
