use Rattle.std.proofs.Common.{arith}
use Rattle.vm_debug.proofs.Adding.{before_done}
use Rattle.vm_debug.proofs.places.file_words.Goals as goal

pub returns-clause-before : goal.returns-clause-before
returns-clause-before c = before_done c.args.files.now c.loop-i.i c.args.k c.loop-i.before (omega (arith, c.loop-i-test.false)) c.loop-i.invariant.1
