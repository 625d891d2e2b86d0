use Rattle.vm_debug.proofs.Numbers as numbers
use Rattle.vm_debug.proofs.numbers_law.Goals as goal

pub returns : goal.returns
returns c = record { numbers = numbers.numbers_law; standing = numbers.standing_law }
