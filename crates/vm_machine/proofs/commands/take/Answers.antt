use Rattle.std.proofs.Common.{arith}
use Rattle.vm_machine.proofs.commands.take.Goals as goal

pub returns-clause-room : goal.returns-clause-room
returns-clause-room c = omega (arith, c.words_in_use.ensures.value, c.words_in_use.ensures.bound)
