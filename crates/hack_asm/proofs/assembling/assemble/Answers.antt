use Rattle.hack_asm.proofs.Meanings.{answered}
use Rattle.hack_asm.proofs.assembling.assemble.Goals as goal

pub returns-clause-only : goal.returns-clause-only
returns-clause-only c = λ r m. answered (λ v. v.items) c.args.text.now c.assemble_text.result r c.assemble_text.ensures m
