use Rattle.vm_translator.proofs.Emitted.{code_then}
use Rattle.vm_translator.proofs.ends.code_names_end.Goals as goal

pub returns-then-step_names_end : goal.returns-then-step_names_end
returns-then-step_names_end c =
    code_then c.args.filled c.args.functions.now c.args.function c.args.code.now c.loop-place.place _ c.step_names_end.result c.loop-place-test.true c.loop-place.invariant c.step_names_end.ensures c.if-step_names_end.true
