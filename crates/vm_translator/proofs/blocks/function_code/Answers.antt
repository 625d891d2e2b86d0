use Rattle.vm_translator.proofs.Emitted.{function_more}
use Rattle.vm_translator.proofs.blocks.function_code.Goals as goal

pub loop-local-preserved : goal.loop-local-preserved
loop-local-preserved c = function_more c.args.locals c.loop-local._local c.loop-local.out.items _ _ c.loop-local-test.true c.loop-local.invariant c.in_ok-put.ensures
