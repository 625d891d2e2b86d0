use Rattle.source_files.proofs.Names.{one_list}
use Rattle.source_files.proofs.laws.names_law.Goals as goal

pub returns : goal.returns
returns c = λ files folder ending names others h k. one_list files folder ending names others h k
