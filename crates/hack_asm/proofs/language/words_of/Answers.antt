use Rattle.hack_asm.proofs.Refusals.{read_assembly, read_image}
use Rattle.hack_asm.proofs.language.words_of.Goals as goal

pub returns-in-Assembly : goal.returns-in-Assembly
returns-in-Assembly c = rw c.in-Assembly.is (read_assembly c.args.text.now c.assemble.result c.assemble.ensures.words c.assemble.ensures.fault)

pub returns-in-Image : goal.returns-in-Image
returns-in-Image c = rw c.in-Image.is (read_image c.args.text.now c.read_hack.result c.read_hack.ensures.words c.read_hack.ensures.fault)
