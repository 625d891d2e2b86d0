use Rattle.vm_translator.proofs.Emitted.{words_in_done}
use Rattle.vm_translator.proofs.ends.count.Goals as goal

pub returns : goal.returns
returns c = words_in_done c.args.functions.now c.loop-function.function-index c.loop-function.words _ c.loop-function-test.false c.loop-function.invariant.small c.loop-function.invariant.sum
