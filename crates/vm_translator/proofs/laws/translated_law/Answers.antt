use Rattle.vm_translator.proofs.Instructed.{shared_covers, translated}
use Rattle.vm_translator.proofs.laws.translated_law.Goals as goal

pub returns-clause-does : goal.returns-clause-does
returns-clause-does c = λ l sound uniform whole few. translated l sound uniform whole few

pub returns-clause-shared_covers : goal.returns-clause-shared_covers
returns-clause-shared_covers c = shared_covers
