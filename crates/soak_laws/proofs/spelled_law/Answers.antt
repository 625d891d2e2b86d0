use Rattle.soak_laws.proofs.Programs.{class_at, generated}
use Rattle.soak_laws.proofs.spelled_law.Goals as goal

pub returns : goal.returns
returns c = λ s t text h. let g = generated c.printed_class_law.ensures c.length_law.ensures h in (class_at g.body g.close g.at, g.spells)
