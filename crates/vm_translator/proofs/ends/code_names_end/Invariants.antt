use Rattle.std.proofs.Common.{◌≡◌, drop}
use Rattle.vm_translator.specs.Tables.{code_names_end}
use Rattle.vm_translator.proofs.ends.code_names_end.Given as goal

abbrev pub invariant-loop-place : goal.invariant-loop-place
invariant-loop-place l = code_names_end l.filled l.functions l.function l.place (drop l.place l.code) ≡ code_names_end l.filled l.functions l.function 0 l.code
