use Rattle.std.proofs.Common.{arith}
use Rattle.vm_translator.proofs.Emitted.{words_fit}
use Rattle.vm_translator.proofs.layout.place_code.Goals as goal

pub overflow_cast-at : goal.overflow_cast-at
overflow_cast-at c =
    let h = words_fit c.args.code.now c.loop-step.step-index c.loop-step.at c.step_size.result c.args.from _ c.loop-step-test.true c.step_size.ensures.size c.loop-step.invariant.words c.requires in
    omega arith
