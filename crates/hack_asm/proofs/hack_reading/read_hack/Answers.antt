use Rattle.hack_asm.proofs.HackLines.{answered}
use Rattle.hack_asm.proofs.hack_reading.read_hack.Goals as goal

pub returns-clause-only : goal.returns-clause-only
returns-clause-only c = λ r m. answered (λ v. v.items) c.args.text.now c.read_text.result r c.read_text.ensures m
