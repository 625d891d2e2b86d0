use Rattle.script_laws.proofs.Exactly.{script_exact}
use Rattle.script_laws.proofs.script_exact_law.Goals as goal

pub returns : goal.returns
returns c = script_exact c.reading_law.ensures c.reading_law-2.ensures c.hack_law.ensures c.assembly_law.ensures
