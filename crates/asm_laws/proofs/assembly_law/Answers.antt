use Rattle.asm_laws.proofs.Law.{law, text_law}
use Rattle.asm_laws.proofs.assembly_law.Goals as goal

pub returns : goal.returns
returns c = record { lines = law; texts = text_law }
