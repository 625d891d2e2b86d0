use Rattle.std.proofs.Common.{take}
use Rattle.vm_translator.specs.Tables.{IsFilled}
use Rattle.vm_translator.proofs.ends.filled.Given as goal

abbrev pub invariant-loop-number : goal.invariant-loop-number
invariant-loop-number l = IsFilled (take l.number l.functions) l.filled
