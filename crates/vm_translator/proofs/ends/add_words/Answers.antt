use Rattle.vm_translator.proofs.Emitted.{words_done}
use Rattle.vm_translator.proofs.ends.add_words.Goals as goal

pub returns : goal.returns
returns c = words_done c.args.code.now c.loop-step.step-index c.loop-step.words _ c.loop-step-test.false c.loop-step.invariant.small c.loop-step.invariant.sum
