use Rattle.std.proofs.Common.{◌≡◌, drop}
use Rattle.vm_translator.specs.Tables.{functions_name_end}
use Rattle.vm_translator.proofs.ends.functions_name_end.Given as goal

abbrev pub invariant-loop-number : goal.invariant-loop-number
invariant-loop-number l = functions_name_end l.filled l.functions l.number (drop l.number l.functions) ≡ functions_name_end l.filled l.functions 0 l.functions
