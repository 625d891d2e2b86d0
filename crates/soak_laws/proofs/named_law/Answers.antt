use Rattle.soak_laws.proofs.Names.{named}
use Rattle.soak_laws.proofs.named_law.Goals as goal

pub returns : goal.returns
returns c = named c.printed_class_law.ensures c.length_law.ensures c.class_law.ensures
