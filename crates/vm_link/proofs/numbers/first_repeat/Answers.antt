use Rattle.std.proofs.Common.{arith}
use Rattle.std.proofs.lemmas.Grind.{common_steps}
use Rattle.vm_link.proofs.numbers.first_repeat.Goals as goal

pub loop-name-preserved : goal.loop-name-preserved
loop-name-preserved c = (λ q. grind (arith, common_steps, c.loop-name.invariant.0 q, c.in_ok-is_new.ensures.numbers q), grind (arith, common_steps, c.loop-name.invariant))
