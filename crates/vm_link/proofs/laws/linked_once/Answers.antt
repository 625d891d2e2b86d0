use Rattle.vm_link.proofs.Once as once
use Rattle.vm_link.proofs.laws.linked_once.Goals as goal

pub returns : goal.returns
returns c = λ bare files r q a b n m. once.linked_once bare files r q a b n m
